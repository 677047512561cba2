use Rattle.std.proofs.Common.{rules}
use Rattle.std.specs.FinMap.{gets}
use Rattle.env_cells.proofs.number_map.NumberMap.len_with.Goals as goal

pub returns-then-has : goal.returns-then-has
returns-then-has g c = λ value. grind (gets, rules)

pub returns-else-has : goal.returns-else-has
returns-else-has g c = λ value. grind (gets, rules)
