use Rattle.std.proofs.Common.{ap, ◌∙◌}
use Rattle.std.specs.FinSet as set
use Rattle.env_cells.proofs.Sets.{from_list-insert}
use Rattle.machine_parts.proofs.opened.Opened.insert.Goals as goal

pub returns-clause-ok : goal.returns-clause-ok
returns-clause-ok c = from_list-insert _ _ _ c.in_ok-insert.ensures.updates.0 ∙ ap (λ s. set.insert s c.args.connection) c.self.view_is
