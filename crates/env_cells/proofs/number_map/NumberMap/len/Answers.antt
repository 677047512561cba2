use Rattle.std.proofs.Common.{ap, sym, ◌∙◌}
use Rattle.std.specs.Ordering.{nat_cmp}
use Rattle.std.specs.Cmp.{nat_cmp_total}
use Rattle.std.specs.FinMap as map
use Rattle.std.specs.FinMap.{nat_cmp-IsAntisymmetric}
use Rattle.env_cells.proofs.Maps.{len-from_entries, is_sorted-from}
use Rattle.env_cells.proofs.number_map.NumberMap.len.Goals as goal

pub returns-clause-count : goal.returns-clause-count
returns-clause-count g c =
    c.len.ensures.len ∙ sym (len-from_entries nat_cmp_total nat_cmp-IsAntisymmetric _ (is_sorted-from nat_cmp _ c.len.ensures.ordered)) ∙ ap map.len c.self.view_is
