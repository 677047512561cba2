use Rattle.worker_crew.specs.Takers.{IsTakerOf}
use Rattle.thread_tests.proofs.crew_tests.trade.Given as goal

abbrev pub invariant-loop-i : goal.invariant-loop-i
invariant-loop-i g l = IsTakerOf l.jobs l.pass
