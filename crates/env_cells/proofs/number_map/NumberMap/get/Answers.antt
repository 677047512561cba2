use Rattle.std.proofs.Common.{ap, sym, ◌∙◌}
use Rattle.std.specs.Cmp.{nat_cmp_total}
use Rattle.std.specs.FinMap as map
use Rattle.env_cells.proofs.Maps.{get-lookup}
use Rattle.env_cells.proofs.number_map.NumberMap.get.Goals as goal

pub returns : goal.returns
returns g c = c.get.ensures.value ∙ sym (get-lookup nat_cmp_total _ _) ∙ ap (λ m. map.get m c.args.key) c.self.view_is
