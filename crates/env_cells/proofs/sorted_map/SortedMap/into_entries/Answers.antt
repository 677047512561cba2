use Rattle.std.proofs.Common.{ap, sym, ◌∙◌}
use Rattle.std.specs.FinMap as map
use Rattle.env_cells.specs.Sorted.{map_of}
use Rattle.env_cells.proofs.Maps.{entries-from_entries}
use Rattle.env_cells.proofs.sorted_map.SortedMap.into_entries.Goals as goal

pub returns : goal.returns
returns g c =
    let k = g.met.K.Key in
    sym (entries-from_entries k.total k.apart _ c.self.invariant) ∙ ap (λ l. map.entries (map_of g.K.Key.order l)) c.self.view_is
