use Rattle.std.proofs.Common.{◌≡◌, ◌+◌, ◌≤◌, drop, length}
use Rattle.maple_base.specs.PolicyLimits.{most_bytes}
use Rattle.policy_outline.specs.Bounds.{Within}
use Rattle.policy_outline.specs.Counting.{counted_all}
use Rattle.policy_outline.proofs.counter.Counter.count_all.Given as goal

-- the other events are counted next
abbrev pub invariant-loop-event : goal.invariant-loop-event
invariant-loop-event l =
    (counted_all (drop l.event-index l.added) l.self ≡ counted_all l.added l.initial.self) × Within (l.from + l.event-index) l.self × (length l.self.counts ≤ most_bytes)
