-- How many rules a tree has, counted from below.
use Rattle.std.specs.Prelude.{ℕ, ◌+◌, min}
use Rattle.trace_tree.specs.Shape.{Shape, Branches, Empty, Ends, Reads, Tests, NoBranch, Branch}
use Rattle.priority_plan.specs.Rules.{with_barrier}

abbrev mutual
  -- none where it is empty, one for a trace, those of all branches, and those of a test's false side, its barrier and its true side
  pub count_of : Shape → ℕ
  count_of Empty = 0
  count_of (Ends l) = 1
  count_of (Reads f bs) = count_in bs
  count_of (Tests f v n y) = with_barrier (count_of n) + count_of y

  pub count_in : Branches → ℕ
  count_in NoBranch = 0
  count_in (Branch v t bs) = count_of t + count_in bs

-- as it is counted in 64 bits, where the greatest number stands for more too
abbrev pub capped : ℕ → ℕ
capped n = min n 18446744073709551615
