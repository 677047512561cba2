use Rattle.std.proofs.Common.{◌≡◌}
use Rattle.env_cells.specs.Environment.{name_cmp}
use Rattle.env_cells.specs.Named.{with_tables}
use Rattle.env_cells.specs.Sorted.{map_of}
use Rattle.env_cells.proofs.tables.SortedMap+Name+NumberMap+u64.take_over.Given as goal

abbrev pub invariant-loop-name : goal.invariant-loop-name
invariant-loop-name l = with_tables (map_of name_cmp l.self) l.tables.items ≡ with_tables (map_of name_cmp l.initial.self) l.initial.tables.items

abbrev pub decreases-loop-name : goal.decreases-loop-name
decreases-loop-name l = goal.left-loop-name l
