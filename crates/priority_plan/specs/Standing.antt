-- Which rules stand in a tree.
use Rattle.std.specs.Prelude.{◌≡◌, ◌⊎◌, ℕ, ◌+◌, ◌<◌}
use Rattle.maple_base.specs.declared.key.Field.{Field}
use Rattle.maple_base.specs.declared.key.Match.{Match}
use Rattle.maple_base.specs.declared.decision.Rule.{Rule}
use Rattle.maple_base.specs.Keys.{fix}
use Rattle.trace_tree.specs.Shape.{Shape, Branches, Empty, Ends, Reads, Tests, NoBranch, Branch}
use Rattle.priority_plan.specs.declared.rows.Row.{Row}
use Rattle.priority_plan.specs.declared.rows.Row.TheVariants.{Fact, Barrier}
use Rattle.priority_plan.specs.Rules.{levels_of, with_barrier, fact, barrier}

abbrev pub rule_of : Row → Rule
rule_of (Fact r) = r
rule_of (Barrier r) = r

-- the barrier behind so many levels, if there is one
abbrev pub IsOwn : Row → ℕ → Match → ℕ → Type 0
IsOwn x n m base = (0 < n) × (Barrier (barrier m (base + with_barrier n)) ≡ x)

abbrev mutual
  -- x is one of the rules of a part of a tree
  pub Stands : Row → Shape → Match → ℕ → Type 0
  Stands x Empty m base = ⊥
  Stands x (Ends l) m base = Fact (fact l m base) ≡ x
  Stands x (Reads f bs) m base = StandsIn x bs f m base
  Stands x (Tests f v n y) m base = Stands x y (fix f v m) (base + with_barrier (levels_of n)) ⊎ (IsOwn x (levels_of n) (fix f v m) base ⊎ Stands x n m base)

  pub StandsIn : Row → Branches → Field → Match → ℕ → Type 0
  StandsIn x NoBranch f m base = ⊥
  StandsIn x (Branch v t bs) f m base = Stands x t (fix f v m) base ⊎ StandsIn x bs f m base
