use Rattle.std.proofs.Common.{ap, sym, ◌∙◌}
use Rattle.std.specs.FinMap as map
use Rattle.env_cells.specs.Sorted.{map_of}
use Rattle.env_cells.proofs.Maps.{len-from_entries}
use Rattle.env_cells.proofs.sorted_map.SortedMap.len.Goals as goal

pub returns-clause-count : goal.returns-clause-count
returns-clause-count g c =
    let k = g.met.K.Key in
    c.len.ensures ∙ c.self.inside.entries.ok.0 ∙ sym (len-from_entries k.total k.apart _ c.self.invariant) ∙ ap (λ l. map.len (map_of g.K.Key.order l)) c.self.view_is
