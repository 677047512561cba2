use Rattle.net_cases.proofs.Traces.{asks_further}
use Rattle.net_cases.proofs.admission.asks_once.Goals as goal

pub loop-item-preserved : goal.loop-item-preserved
loop-item-preserved c = asks_further c.args.items.now c.loop-item.item-index _ _ _ _ c.loop-item-test.true c.deref.ensures.value c.if-not-is_new.ensures c.in_ok-fix.ensures c.loop-item.invariant
