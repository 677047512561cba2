use Rattle.std.proofs.Common.{ap, ◌∙◌}
use Rattle.std.specs.List.{list_all}
use Rattle.std.specs.FinSet as set
use Rattle.maple_base.specs.Ports.{is_port}
use Rattle.env_cells.proofs.Sets.{from_list-remove, ports-remove}
use Rattle.env_cells.proofs.up_ports.UpPorts.remove.Goals as goal

pub returns : goal.returns
returns c =
    from_list-remove _ _ _ c.remove.ensures.updates.0
    ∙ ap (λ s. set.remove s c.args.port) c.self.view_is

pub invariant_of-self : goal.invariant_of-self
invariant_of-self c = ap (list_all is_port) c.remove.ensures.keys ∙ ports-remove _ c.self.inside.numbers.keys c.self.invariant
