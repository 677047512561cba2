use Rattle.std.proofs.Common.{ap, sym, ◌∙◌}
use Rattle.std.specs.Prelude.{is_some}
use Rattle.std.specs.Cmp.{nat_cmp_total}
use Rattle.std.specs.FinMap as map
use Rattle.env_cells.proofs.Maps.{get-lookup}
use Rattle.env_cells.proofs.number_map.NumberMap.has.Goals as goal

pub returns : goal.returns
returns g c = c.contains_key.ensures ∙ ap is_some (sym (get-lookup nat_cmp_total _ _)) ∙ ap (λ m. map.contains_key m c.args.key) c.self.view_is
