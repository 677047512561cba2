-- The traces that a tree stands for.
use Rattle.std.specs.Prelude.{◌≡◌, ℕ, Bool, not, ◌==◌, filter, List, [], ◌∷◌, ◌++◌}
use Rattle.trace_tree.specs.declared.node.Trace.{Trace}
use Rattle.trace_tree.specs.declared.node.Leaf.{Leaf}
use Rattle.trace_tree.specs.Shape.{Shape, Empty}
use Rattle.trace_tree.specs.Growth.{leaf_of, scratch, AreAdmitted}

-- the tree is what these traces make, each put in where the ones ahead of it lead to an empty place
pub record StandsFor (t : Shape) (rs : List Trace) : Type 0 where
  pub admitted : AreAdmitted Empty rs
  pub made : scratch rs ≡ t

-- whether p holds of what a tree keeps of the trace
abbrev pub of_leaf : (Leaf → Bool) → Trace → Bool
of_leaf p r = p (leaf_of r)

-- whether the leaf has this number
abbrev pub has_number : ℕ → Leaf → Bool
has_number n l = l.number == n

abbrev pub has_other_number : ℕ → Leaf → Bool
has_other_number n l = not (l.number == n)

-- u stands for one more trace than t, behind the others
abbrev pub StandsForMore : Trace → Shape → Shape → Type 0
StandsForMore r t u = (rs : List Trace) → StandsFor t rs → StandsFor u (rs ++ r ∷ [])

-- u stands for those of t's traces of which p holds, in their order
abbrev pub StandsForRest : (Leaf → Bool) → Shape → Shape → Type 0
StandsForRest p t u = (rs : List Trace) → StandsFor t rs → StandsFor u (filter (of_leaf p) rs)
