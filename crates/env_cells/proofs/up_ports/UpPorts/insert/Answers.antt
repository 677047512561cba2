use Rattle.std.proofs.Common.{ap, ◌∙◌}
use Rattle.std.specs.List.{list_all}
use Rattle.std.specs.FinSet as set
use Rattle.maple_base.specs.Ports.{is_port}
use Rattle.env_cells.proofs.Sets.{from_list-insert, ports-insert}
use Rattle.env_cells.proofs.up_ports.UpPorts.insert.Goals as goal

pub returns-clause-ok : goal.returns-clause-ok
returns-clause-ok c =
    from_list-insert _ _ _ c.in_ok-insert.ensures.updates.0
    ∙ ap (λ s. set.insert s c.args.port) c.self.view_is

pub invariant_of-self-2 : goal.invariant_of-self-2
invariant_of-self-2 c =
    ap (list_all is_port) c.in_ok-insert.ensures.keys
    ∙ ports-insert c.self.inside.numbers.keys c.args.port c.self.invariant c.requires
