use Rattle.std.proofs.Common.{ap, sym, ◌∙◌}
use Rattle.std.specs.FinSet as set
use Rattle.env_cells.proofs.Sets.{contains-keys}
use Rattle.machine_parts.proofs.opened.Opened.has.Goals as goal

pub returns : goal.returns
returns c = c.contains.ensures ∙ sym (contains-keys c.self.inside.numbers.keys c.args.connection) ∙ ap (λ s. set.contains s c.args.connection) c.self.view_is
