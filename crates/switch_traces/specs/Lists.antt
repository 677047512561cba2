-- The rules of traces, and which traces a switch can be led to.
use Rattle.std.specs.Prelude.{ℕ, ◌≤◌, List, Contains}
use Rattle.std.specs.List.Sorted.{IsPermutation}
use Rattle.maple_base.specs.Keys.{anything}
use Rattle.maple_base.specs.RuleLists.{Rules}
use Rattle.of10_codec.specs.RuleOrder.{AreInOrder}
use Rattle.trace_tree.specs.declared.node.Trace.{Trace}
use Rattle.trace_tree.specs.Shape.{Empty}
use Rattle.trace_tree.specs.Growth.{scratch, AreAdmitted, AllAskOnce}
use Rattle.priority_plan.specs.Rules.{facts_of, barriers_of, level_limit, levels_of, rules_needed}
use Rattle.rule_builder.specs.Laws.{AllAskNormally, IsToController}

-- the rules of these traces' tree, facts and barriers each in the order of rules
pub record AreRulesOf (traces : List Trace) (rules : Rules) : Type 0 where
  pub facts : IsPermutation (facts_of (scratch traces) anything 0) rules.facts
  pub facts_order : AreInOrder rules.facts
  pub barriers : IsPermutation (barriers_of (scratch traces) anything 0) rules.barriers
  pub barriers_order : AreInOrder rules.barriers

-- traces to whose rules a switch that has room for so many can be led: a tree takes each behind the ones before it, each asks as runs ask, and none
-- decides the controller's port alone
pub record AreFit (capacity : ℕ) (traces : List Trace) : Type 0 where
  pub admitted : AreAdmitted Empty traces
  pub once : AllAskOnce traces
  pub normal : AllAskNormally traces
  pub elsewhere : (x : Trace) → Contains traces x → IsToController x → ⊥
  pub levels : levels_of (scratch traces) ≤ level_limit
  pub rules : rules_needed (scratch traces) ≤ capacity
