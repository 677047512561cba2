-- A chain of the tree's rules, as long as there are levels, the highest first.
use Rattle.std.specs.Prelude.{ℕ, ◌+◌, ◌==◌, if◌then◌else◌, List, [], ◌∷◌, ◌++◌}
use Rattle.maple_base.specs.declared.key.Field.{Field}
use Rattle.maple_base.specs.declared.key.Match.{Match}
use Rattle.maple_base.specs.declared.decision.Rule.{Rule}
use Rattle.maple_base.specs.Keys.{fix}
use Rattle.trace_tree.specs.Shape.{Shape, Branches, Empty, Ends, Reads, Tests, NoBranch, Branch}
use Rattle.priority_plan.specs.Rules.{levels_of, most_levels, with_barrier, fact, barrier_behind}

abbrev mutual
  -- the true side's, the barrier, and the false side's; at a node of values that of the first child with the most levels
  pub chain_of : Shape → Match → ℕ → List Rule
  chain_of Empty m base = []
  chain_of (Ends l) m base = fact l m base ∷ []
  chain_of (Reads f bs) m base = chain_in bs (most_levels bs) f m base
  chain_of (Tests f v n y) m base = chain_of y (fix f v m) (base + with_barrier (levels_of n)) ++ (barrier_behind (levels_of n) (fix f v m) base ++ chain_of n m base)

  pub chain_in : Branches → ℕ → Field → Match → ℕ → List Rule
  chain_in NoBranch most f m base = []
  chain_in (Branch v t bs) most f m base = if levels_of t == most then chain_of t (fix f v m) base else chain_in bs most f m base
