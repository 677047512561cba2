-- What holds of the rules of a tree, and of their priorities.
use Rattle.std.specs.Prelude.{◌≡◌, ℕ, ◌+◌, ◌<◌, ◌≤◌, Bool, List, length, Contains, IsTrue}
use Rattle.maple_base.specs.declared.decision.Rule.{Rule}
use Rattle.maple_base.specs.declared.items.Item.{Item}
use Rattle.trace_tree.specs.declared.node.Leaf.{Leaf}
use Rattle.trace_tree.specs.Shape.{Shape}
use Rattle.trace_tree.specs.Growth.{insert, admits}
use Rattle.trace_tree.specs.Kept.{kept}
use Rattle.priority_plan.specs.Rules.{levels_of, rules_of, MustStandBelow, rules_needed}

-- priorities begin at 1
abbrev pub NoneLower : Type 0
NoneLower = (t : Shape) (r : Rule) → Contains (rules_of t) r → 1 ≤ r.priority

-- the greatest priority is the number of levels
pub record IsGreatest (rs : List Rule) (n : ℕ) : Type 0 where
  pub bound : (r : Rule) → Contains rs r → r.priority ≤ n
  pub reached : 0 < n → (r : Rule) × Contains rs r × (r.priority ≡ n)

abbrev pub LevelsLaw : Type 0
LevelsLaw = (t : Shape) → IsGreatest (rules_of t) (levels_of t)

-- a rule that must stand below another has the lesser priority
abbrev pub BelowLaw : Type 0
BelowLaw = (t : Shape) (r q : Rule) → MustStandBelow t r q → r.priority < q.priority

-- a tree has no more levels than rules
abbrev pub FewLevels : Type 0
FewLevels = (t : Shape) → levels_of t ≤ rules_needed t

-- a further trace brings its fact and at most a barrier for each of its items
abbrev pub FewMore : Type 0
FewMore = (items : List Item) (leaf : Leaf) (t : Shape) → IsTrue (admits items t) → rules_needed (insert items leaf t) ≤ rules_needed t + (length items + 1)

-- the second tree has no more levels than the first, and no more rules
pub record HasNoMore (t u : Shape) : Type 0 where
  pub levels : levels_of u ≤ levels_of t
  pub rules : rules_needed u ≤ rules_needed t

-- neither number rises when leaves go
abbrev pub KeptHasNoMore : Type 0
KeptHasNoMore = (p : Leaf → Bool) (t : Shape) → HasNoMore t (kept p t)
