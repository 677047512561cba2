use Rattle.std.proofs.Common.{◌≡◌, ◌+◌, ◌-◌, ◌<◌, length, take, drop, sym, ap, subst, arith, length-drop}
use Rattle.std.proofs.lemmas.List.{length-take-le}
use Rattle.policy_outline.specs.Bounds.{Within, most_counted}
use Rattle.policy_outline.specs.Counting.{Counter, counted, counted_all}
use Rattle.policy_outline.proofs.Growing.{event_within, event_count, within_more, event_on}
use Rattle.policy_outline.proofs.counter.Counter.count_all.Goals as goal

pub count-requires-clause-within : goal.count-requires-clause-within
count-requires-clause-within c =
    let es = c.args.events.now in
    let i = c.loop-event.event-index in
    let few : c.args.from + i < length es = omega (arith, length-drop c.args.from es, length-take-le (length es - c.args.from) (drop c.args.from es) (omega (arith, length-drop c.args.from es)), c.loop-event-test.true) in
    within_more (c.args.from + i) most_counted c.loop-event.self (omega (arith, few)) c.loop-event.invariant.1

pub loop-event-preserved : goal.loop-event-preserved
loop-event-preserved c =
    let es = c.args.events.now in
    let i = c.loop-event.event-index in
    let added = take (length es - c.args.from) (drop c.args.from es) in
    let x = c.event-item.result in
    let s = c.loop-event.self in
    let same : c.count.new.self ≡ counted x s = c.in_ok-count.ensures in (
      event_on added i x s c.count.new.self (counted_all added c.args.self.now) c.loop-event-test.true c.event-item.is same c.loop-event.invariant.0,
      subst (Within (c.args.from + (i + 1))) (sym same) (within_more (c.args.from + i + 1) (c.args.from + (i + 1)) (counted x s) (omega arith) (event_within (c.args.from + i) x s c.loop-event.invariant.1)),
      omega (arith, ap (λ (d : Counter). length d.counts) same, event_count x s, c.loop-event.invariant.2),
    )
