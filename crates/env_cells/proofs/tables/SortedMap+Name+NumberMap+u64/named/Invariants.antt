use Rattle.std.proofs.Common.{◌≡◌, ◌≤◌, length, drop}
use Rattle.std.specs.FinMap as map
use Rattle.env_cells.specs.Environment.{name_cmp}
use Rattle.env_cells.specs.Named.{tables_named}
use Rattle.env_cells.specs.Sorted.{map_of}
use Rattle.env_cells.proofs.tables.SortedMap+Name+NumberMap+u64.named.Given as goal

abbrev pub invariant-loop-left : goal.invariant-loop-left
invariant-loop-left l = record {
  within : l.left ≤ length l.names;
  made : map_of name_cmp l.tables ≡ tables_named map.empty (drop l.left l.names);
}

abbrev pub decreases-loop-left : goal.decreases-loop-left
decreases-loop-left l = l.left
