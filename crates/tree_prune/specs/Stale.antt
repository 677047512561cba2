-- The first recorded cell of a trace that has another value than the recorded one.
use Rattle.std.specs.Prelude.{Bool, not, List, Option, option_map, find}
use Rattle.maple_base.specs.declared.cells.Cell.{Cell}
use Rattle.maple_base.specs.declared.cells.Value.{Value}
use Rattle.trace_tree.specs.declared.node.Leaf.{Leaf}
use Rattle.tree_prune.specs.Current.{same_value}

-- the cell has another value than the recorded one
abbrev pub differs : (Cell → Value) → Cell × Value → Bool
differs env c = not (same_value (env c.0) c.1)

-- the cell, its recorded value, and the value that it has
abbrev pub both_values : (Cell → Value) → Cell × Value → Cell × Value × Value
both_values env c = (c.0, c.1, env c.0)

-- the first that differs, in the recorded order; none where none does
abbrev pub stale_in : (Cell → Value) → List (Cell × Value) → Option (Cell × Value × Value)
stale_in env cs = option_map (both_values env) (find (differs env) cs)

abbrev pub stale_of : (Cell → Value) → Leaf → Option (Cell × Value × Value)
stale_of env l = stale_in env l.cells
