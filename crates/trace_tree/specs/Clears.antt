-- What a clearing still has to do.
use Rattle.std.specs.Prelude.{ℕ, ◌+◌}
use Rattle.trace_tree.specs.Shape.{Shape, Branches, Empty, Ends, Reads, Tests, NoBranch, Branch}

abbrev mutual
  -- the steps for a tree
  pub load_of : Shape → ℕ
  load_of Empty = 1
  load_of (Ends l) = 1
  load_of (Reads f bs) = 2 + load_in bs
  load_of (Tests f v n y) = 2 + load_of n + load_of y

  pub load_in : Branches → ℕ
  load_in NoBranch = 0
  load_in (Branch v t bs) = load_of t + load_in bs

abbrev mutual
  -- the steps for a node that waits, with the node above it as its last child or on its false side
  pub held_of : Shape → ℕ
  held_of Empty = 0
  held_of (Ends l) = 0
  held_of (Reads f bs) = 1 + held_in bs
  held_of (Tests f v n y) = 1 + held_of n + load_of y

  pub held_in : Branches → ℕ
  held_in NoBranch = 0
  held_in (Branch v t NoBranch) = held_of t
  held_in (Branch v t (Branch w u bs)) = load_of t + held_in (Branch w u bs)
