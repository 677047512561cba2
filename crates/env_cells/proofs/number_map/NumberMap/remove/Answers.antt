use Rattle.std.proofs.Common.{ap, ◌∙◌}
use Rattle.std.specs.Cmp.{nat_cmp_total}
use Rattle.std.specs.FinMap as map
use Rattle.std.specs.FinMap.{nat_cmp-IsAntisymmetric}
use Rattle.env_cells.proofs.Maps.{from_entries-remove}
use Rattle.env_cells.proofs.number_map.NumberMap.remove.Goals as goal

pub returns : goal.returns
returns g c =
    from_entries-remove nat_cmp_total nat_cmp-IsAntisymmetric _ _ _ c.remove.ensures.updates.0
    ∙ ap (λ m. map.remove m c.args.key) c.self.view_is
