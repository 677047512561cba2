use Rattle.std.proofs.Common.{rules, subst, Ok, Err}
use Rattle.std.specs.List.Sorted.{IsBinarySearchResult}
use Rattle.std.specs.Ordering.{nat_cmp}
use Rattle.std.specs.Cmp.Lexicographic.{slice_cmp}
use Rattle.std.proofs.lemmas.List.Sorted.{answers_always}
use Rattle.update_plan.specs.Lookups.{rule_key}
use Rattle.update_plan.proofs.Keys.{found_at, none_found}
use Rattle.update_plan.proofs.lookup.rule_at.Goals as goal

pub returns-in-Ok-clause-at : goal.returns-in-Ok-clause-at
returns-in-Ok-clause-at c =
    let by_key = c.in-Ok.ensures.position rule_key (answers_always _ _ _ (λ f a r g called. search rules)) in
    let here = subst (λ k. IsBinarySearchResult (λ y. slice_cmp nat_cmp (rule_key y) k) c.args.index.now (Ok c.in-Ok.place)) c.pair_key-key.ensures by_key in
    found_at c.args.of.now c.args.priority c.args.index.now c.in-Ok.place c.index-index-place.result here c.index-index-place.is

pub returns-in-Err-clause-at : goal.returns-in-Err-clause-at
returns-in-Err-clause-at c =
    let by_key = c.in-Err.ensures.position rule_key (answers_always _ _ _ (λ f a r g called. search rules)) in
    let here = subst (λ k. IsBinarySearchResult (λ y. slice_cmp nat_cmp (rule_key y) k) c.args.index.now (Err c.in-Err.field-0)) c.pair_key-key.ensures by_key in
    none_found c.args.of.now c.args.priority c.args.index.now c.in-Err.field-0 c.requires here
