use Rattle.std.proofs.Common.{rules}
use Rattle.std.specs.List.Sorted.{IsPermutation}
use Rattle.std.proofs.lemmas.List.Sorted.{answers_always}
use Rattle.update_plan.specs.Batches.{rules_of}
use Rattle.update_plan.specs.Lookups.{rule_key}
use Rattle.update_plan.proofs.Distinct.{distinct_permutation}
use Rattle.update_plan.proofs.lookup.index_of.Goals as goal

pub returns-clause-index : goal.returns-clause-index
returns-clause-index c =
    let same : IsPermutation (rules_of c.args.list.now) c.sort_by_key.new.self.items = search rules in
    record { sorted = c.in_ok-sort_by_key.ensures.sorted rule_key (answers_always _ _ _ (λ f a r g called. search rules)); distinct = distinct_permutation (rules_of c.args.list.now) c.sort_by_key.new.self.items same c.requires }
