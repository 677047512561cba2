use Rattle.std.proofs.Common.{◌≡◌, ap, rules}
use Rattle.std.specs.Ordering.{is_lt}
use Rattle.std.proofs.lemmas.List.Sorted.{answers_always, ranks_by}
use Rattle.maple_base.specs.declared.decision.Rule.{Rule}
use Rattle.of10_codec.specs.RuleOrder.{rule_cmp}
use Rattle.of10_codec.proofs.RuleOrders.{rule_cmp_total}
use Rattle.of10_codec.proofs.rule_order.in_order.Goals as goal

pub returns : goal.returns
returns c =
    record {
      same = c.in_ok-sort_by.ensures.permutation;
      order = c.in_ok-sort_by.ensures.sorted (λ x y. is_lt (rule_cmp x y)) (ranks_by rule_cmp_total (λ (r : Rule). r)) (answers_always _ _ _ (λ f a r g called. let e : r ≡ rule_cmp a.0.now a.1.0.now = search rules in ap is_lt e));
    }
