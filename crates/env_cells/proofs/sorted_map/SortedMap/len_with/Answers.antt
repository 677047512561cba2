use Rattle.std.proofs.Common.{rules}
use Rattle.std.specs.FinMap as map
use Rattle.env_cells.specs.Sorted.{map_of}
use Rattle.env_cells.proofs.sorted_map.SortedMap.len_with.Goals as goal

pub returns-then-has : goal.returns-then-has
returns-then-has g c = λ value. let e = map.len-insert g.met.K.Key.total (map_of g.K.Key.order c.args.self.now) c.args.key.now value in grind rules

pub returns-else-has : goal.returns-else-has
returns-else-has g c = λ value. let e = map.len-insert g.met.K.Key.total (map_of g.K.Key.order c.args.self.now) c.args.key.now value in grind rules
