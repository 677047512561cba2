-- The rules of fit traces are a list for a session, and fewer traces are fit.
use Rattle.std.proofs.Common.{◌≡◌, ◌≤◌, List, [], ◌∷◌, get_or, refl, ap, ◌∙◌, subst, arith}
use Rattle.std.specs.Prelude.{filter, Contains}
use Rattle.std.specs.List.Sorted.{IsPermutation}
use Rattle.std.proofs.lemmas.List.Sums.{list_all-from_AllPass}
use Rattle.std.proofs.lemmas.List.Elements.{All-nil, All-filter, All-contains, All-contains_itself, Contains-get_or}
use Rattle.std.proofs.lemmas.List.Sorted.{IsPermutation-refl, IsPermutation-sym, IsPermutation-append, Contains-permutation, length_permutation}
use Rattle.maple_base.specs.declared.decision.Rule.{Rule}
use Rattle.maple_base.specs.Keys.{match_normal, anything}
use Rattle.maple_base.specs.RuleLists.{Rules}
use Rattle.trace_tree.specs.Shape.{Empty}
use Rattle.trace_tree.specs.Kept.{kept}
use Rattle.trace_tree.specs.Growth.{scratch}
use Rattle.trace_tree.specs.Stands.{of_leaf}
use Rattle.trace_tree.proofs.Apart.{admitted_filter}
use Rattle.trace_tree.proofs.Keeping.{kept_grown}
use Rattle.trace_tree.proofs.Numbers.{once_filter}
use Rattle.priority_plan.specs.Rules.{facts_of, barriers_of, level_limit, levels_of, rules_of, rules_needed}
use Rattle.priority_plan.proofs.Shrinks.{kept_no_more}
use Rattle.rule_builder.specs.Laws.{AsksNormally}
use Rattle.rule_builder.proofs.Distinct.{distinct_law}
use Rattle.rule_builder.proofs.Forms.{normal_law, fact_law, barrier_law}
use Rattle.update_plan.specs.Batches.{rules_of as listed}
use Rattle.switch_traces.specs.Traces.{those}
use Rattle.switch_traces.specs.Laws.{RulesAreList, FewerAreFit, NoneAreFit}

pub rules_are_list : RulesAreList
rules_are_list capacity traces rules fit are =
    let t = scratch traces in
    let facts = facts_of t anything 0 in
    let barriers = barriers_of t anything 0 in
    let whole : IsPermutation (rules_of t) (listed rules) = IsPermutation-append facts rules.facts barriers rules.barriers are.facts are.barriers in
    let back = IsPermutation-sym (rules_of t) (listed rules) whole in
    let few = length_permutation (rules_of t) (listed rules) whole in
    let fact = λ (r : Rule) (h : Contains rules.facts r). Contains-permutation rules.facts facts r (IsPermutation-sym facts rules.facts are.facts) h in
    let barrier = λ (r : Rule) (h : Contains rules.barriers r).
    barrier_law t r (Contains-permutation rules.barriers barriers r (IsPermutation-sym barriers rules.barriers are.barriers) h) in
    record {
      target = record {
        room = omega (arith, few, fit.rules);
        distinct = distinct_law traces (listed rules) fit.admitted fit.once whole;
        fact = λ r h. fact_law traces r fit.admitted fit.elsewhere (fact r h);
        barrier = λ r h. (barrier r h).0;
        plain = λ r h. let b = barrier r h in (b.1, b.2);
      };
      normal = list_all-from_AllPass (λ (r : Rule). match_normal r.of) (listed rules)
          (λ k d lt. let r = get_or (listed rules) k d in
          normal_law traces r fit.admitted fit.normal (Contains-permutation (listed rules) (rules_of t) r back (Contains-get_or (listed rules) k d lt)));
    }

pub fewer_are_fit : FewerAreFit
fewer_are_fit capacity p traces fit =
    let q = of_leaf p in
    let t = scratch traces in
    let less = kept_no_more p t in
    let same : kept p t ≡ scratch (those p traces) = kept_grown p traces Empty tt fit.admitted in
    record {
      admitted = admitted_filter q traces fit.admitted;
      once = once_filter traces q fit.once;
      normal = All-filter q AsksNormally traces fit.normal;
      elsewhere = λ x h. fit.elsewhere x (All-contains (Contains traces) (filter q traces) x (All-filter q (Contains traces) traces (All-contains_itself traces)) h);
      levels = subst (λ u. levels_of u ≤ level_limit) same (omega (arith, less.levels, fit.levels));
      rules = subst (λ u. rules_needed u ≤ capacity) same (omega (arith, less.rules, fit.rules));
    }

nil_only : (rules : List Rule) → IsPermutation [] rules → rules ≡ []
nil_only [] h = refl
nil_only (r ∷ rules) h = let e = length_permutation [] (r ∷ rules) h in absurd (omega (arith, e))

abbrev listing : List Rule → List Rule → Rules
listing facts barriers = record { facts = facts; barriers = barriers }

pub none_are_fit : NoneAreFit
none_are_fit = record {
  fit = λ capacity. record {
    admitted = tt;
    once = tt;
    normal = All-nil AsksNormally;
    elsewhere = λ x h. absurd (omega (arith, h.1));
    levels = omega arith;
    rules = omega arith;
  };
  rules = record {
    facts = IsPermutation-refl [];
    facts_order = λ k d low lt. absurd (omega (arith, lt));
    barriers = IsPermutation-refl [];
    barriers_order = λ k d low lt. absurd (omega (arith, lt));
  };
  only = λ rules are.
      ap (λ facts. listing facts rules.barriers) (nil_only rules.facts are.facts) ∙ ap (λ barriers. listing [] barriers) (nil_only rules.barriers are.barriers);
}
