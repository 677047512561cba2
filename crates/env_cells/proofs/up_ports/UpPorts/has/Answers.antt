use Rattle.std.proofs.Common.{ap, sym, ◌∙◌}
use Rattle.std.specs.FinSet as set
use Rattle.env_cells.proofs.Sets.{contains-keys, no_port, too_large}
use Rattle.env_cells.proofs.up_ports.UpPorts.has.Goals as goal

pub returns-in-Ok : goal.returns-in-Ok
returns-in-Ok c =
    c.contains.ensures ∙ sym (contains-keys c.self.inside.numbers.keys c.in-Ok.port)
    ∙ ap (set.contains (set.from_list c.self.inside.numbers.keys)) c.in-Ok.ensures.1
    ∙ ap (λ s. set.contains s c.args.port) c.self.view_is

pub returns-in-Err : goal.returns-in-Err
returns-in-Err c =
    sym (no_port c.self.inside.numbers.keys c.args.port c.self.invariant (too_large c.args.port c.in-Err.ensures))
    ∙ ap (λ s. set.contains s c.args.port) c.self.view_is
