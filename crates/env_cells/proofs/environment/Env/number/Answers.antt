use Rattle.std.proofs.Common.{ap, sym, ◌∙◌}
use Rattle.std.specs.Prelude.{unwrap_or}
use Rattle.std.specs.Ordering.{nat_cmp}
use Rattle.std.specs.FinMap as map
use Rattle.env_cells.specs.Environment.{Environment}
use Rattle.env_cells.specs.Named.{numbers_in}
use Rattle.env_cells.specs.Values.{number_or_nothing}
use Rattle.env_cells.proofs.environment.Env.number.Goals as goal

pub returns-in-None : goal.returns-in-None
returns-in-None c =
    ap number_or_nothing (sym (map.get-empty nat_cmp c.args.key) ∙ ap (λ x. map.get (unwrap_or x map.empty) c.args.key) c.in-None.ensures)
    ∙ ap (λ (e : Environment). number_or_nothing (map.get (numbers_in e.tables c.args.table.now) c.args.key)) c.self.view_is
