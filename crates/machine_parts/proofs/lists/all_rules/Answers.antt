use Rattle.std.proofs.Common.{◌++◌, sym, ap, ◌∙◌, subst, List}
use Rattle.std.specs.List.Sorted.{IsPermutation}
use Rattle.std.proofs.lemmas.List.Sorted.{IsPermutation-append}
use Rattle.maple_base.specs.declared.decision.Rule.{Rule}
use Rattle.maple_base.specs.Keys.{anything}
use Rattle.priority_plan.specs.Rules.{facts_of, barriers_of, rules_of}
use Rattle.trace_tree.specs.Growth.{scratch}
use Rattle.machine_parts.proofs.lists.all_rules.Goals as goal

pub returns : goal.returns
returns c =
    let tree = scratch c.args.traces.now.traces in
    let made = c.in_ok-extend_from_slice.ensures.items ∙ ap (λ (l : List Rule). l ++ c.barriers.result.now) (c.in_ok-list.ensures.items ∙ c.facts.ensures) ∙ ap (λ (l : List Rule). c.in_ok-rules.rules.facts ++ l) c.barriers.ensures in
    subst (λ l. IsPermutation (rules_of tree) l) (sym made)
    (IsPermutation-append (facts_of tree anything 0) c.in_ok-rules.rules.facts (barriers_of tree anything 0) c.in_ok-rules.rules.barriers c.in_ok-rules.ensures.facts c.in_ok-rules.ensures.barriers)
