use Rattle.policy_outline.proofs.CountedLimits.{Scans}
use Rattle.policy_outline.proofs.scan.scan.Given as goal

abbrev pub invariant-loop-token : goal.invariant-loop-token
invariant-loop-token l = Scans l.counts l.token l.whole l.begun l.ended l.nodes.items
