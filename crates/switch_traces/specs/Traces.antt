-- The traces of a switch.
use Rattle.std.specs.Prelude.{ℕ, Bool, filter, List}
use Rattle.trace_tree.specs.declared.node.Leaf.{Leaf}
use Rattle.trace_tree.specs.declared.node.Trace.{Trace}
use Rattle.trace_tree.specs.Stands.{of_leaf}

-- the switch's datapath id, and its traces in the order in which they were learned
pub record Learnings : Type 0 where
  pub switch : ℕ
  pub traces : List Trace

-- those of which p holds
abbrev pub those : (Leaf → Bool) → List Trace → List Trace
those p traces = filter (of_leaf p) traces

-- the switch has these in the place of its traces
abbrev pub with_those : List Trace → Learnings → Learnings
with_those traces l = record l { traces = traces }
