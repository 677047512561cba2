-- Chains of rules, each of which must stand below the next, and what they show.
use Rattle.std.specs.Prelude.{ℕ, ◌<◌, ◌≤◌, List, [], ◌∷◌, Contains}
use Rattle.maple_base.specs.declared.decision.Rule.{Rule}
use Rattle.trace_tree.specs.Shape.{Shape}
use Rattle.priority_plan.specs.Rules.{levels_of, rules_of, MustStandBelow}

-- each stands so to the next
abbrev pub EachBelowNext : {X : Type 0} → (X → X → Type 0) → List X → Type 0
EachBelowNext R [] = Unit {0}
EachBelowNext R (x ∷ []) = Unit {0}
EachBelowNext R (x ∷ y ∷ xs) = R x y × EachBelowNext R (y ∷ xs)

-- numbers of the tree's rules, from 1, that keep their order
pub record KeepsOrder (t : Shape) (number : Rule → ℕ) : Type 0 where
  pub from : (r : Rule) → Contains (rules_of t) r → 1 ≤ number r
  pub rises : (r q : Rule) → MustStandBelow t r q → number r < number q

-- whatever numbers keep the order, where there is a level some rule has one that is not below the number of levels
abbrev pub LeastLevels : Type 0
LeastLevels = (t : Shape) (number : Rule → ℕ) → KeepsOrder t number → 0 < levels_of t → (r : Rule) × Contains (rules_of t) r × (levels_of t ≤ number r)
