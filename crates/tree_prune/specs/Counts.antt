-- How many leaves of a tree something holds of, counted from below.
use Rattle.std.specs.Prelude.{ℕ, ◌+◌, Bool, if◌then◌else◌}
use Rattle.trace_tree.specs.declared.node.Leaf.{Leaf}
use Rattle.trace_tree.specs.Shape.{Shape, Branches, Empty, Ends, Reads, Tests, NoBranch, Branch}

abbrev mutual
  -- how many leaves there are of which p holds
  pub leaves_with : (Leaf → Bool) → Shape → ℕ
  leaves_with p Empty = 0
  leaves_with p (Ends l) = if p l then 1 else 0
  leaves_with p (Reads f bs) = leaves_with_in p bs
  leaves_with p (Tests f v n y) = leaves_with p n + leaves_with p y

  pub leaves_with_in : (Leaf → Bool) → Branches → ℕ
  leaves_with_in p NoBranch = 0
  leaves_with_in p (Branch v t bs) = leaves_with p t + leaves_with_in p bs
