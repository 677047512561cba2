use Rattle.std.proofs.Common.{sym, ◌∙◌}
use Rattle.of10_codec.proofs.RuleOrders.{by_priority, by_bytes}
use Rattle.of10_codec.proofs.rule_order.compare_rules.Goals as goal

pub returns-then-is_ne : goal.returns-then-is_ne
returns-then-is_ne c = by_priority c.args.rule.now c.args.other.now _ c.cmp-by_priority.ensures (sym c.is_ne.ensures ∙ c.if-is_ne.true)

pub returns : goal.returns
returns c =
    by_bytes c.args.rule.now c.args.other.now _ _ _ _ c.cmp-by_priority.ensures (sym c.is_ne.ensures ∙ c.if-is_ne.false) c.bytes_of.ensures.value c.bytes_of-2.ensures.value c.cmp.ensures
