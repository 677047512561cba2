-- What holds of traces, and of the rules of traces that a switch can be led to.
use Rattle.std.specs.Prelude.{◌≡◌, ℕ, ◌<◌, Bool, List, [], ◌∷◌, ◌++◌}
use Rattle.std.specs.List.{AllByRecursion}
use Rattle.maple_base.specs.RuleLists.{Rules}
use Rattle.trace_tree.specs.declared.node.Leaf.{Leaf}
use Rattle.trace_tree.specs.declared.node.Trace.{Trace}
use Rattle.trace_tree.specs.Stands.{has_other_number}
use Rattle.update_plan.specs.Batches.{no_rules}
use Rattle.switch_session.specs.Parts.{IsList}
use Rattle.switch_traces.specs.Traces.{those}
use Rattle.switch_traces.specs.Lists.{AreRulesOf, AreFit}

-- their rules meet the conditions of a list that a session is aimed at
abbrev pub RulesAreList : Type 0
RulesAreList = (capacity : ℕ) (traces : List Trace) (rules : Rules) → AreFit capacity traces → AreRulesOf traces rules → IsList capacity rules

-- when some of them go a switch can be led to the others
abbrev pub FewerAreFit : Type 0
FewerAreFit = (capacity : ℕ) (p : Leaf → Bool) (traces : List Trace) → AreFit capacity traces → AreFit capacity (those p traces)

-- to none it can be led, and none have no rules and no others
pub record NoneAreFit : Type 0 where
  pub fit : (capacity : ℕ) → AreFit capacity []
  pub rules : AreRulesOf [] no_rules
  pub only : (rules : Rules) → AreRulesOf [] rules → rules ≡ no_rules

-- the trace that was put in last is the one that its number takes out
abbrev pub LastGoes : Type 0
LastGoes = (traces : List Trace) (r : Trace) → AllByRecursion (λ (x : Trace). x.number < r.number) traces
    → those (has_other_number r.number) (traces ++ r ∷ []) ≡ traces
