use Rattle.std.proofs.Common.{◌≡◌}
use Rattle.worker_crew.specs.Takers.{IsTakerOf}
use Rattle.machine_desk.specs.Tending.{Done, Tends, at}
use Rattle.machine_desk.proofs.tending.Tender.await_all.Given as goal

abbrev pub invariant-loop : goal.invariant-loop
invariant-loop g l = IsTakerOf l.self.jobs.now l.taker × (l.desk.footing ≡ l.fn.desk.footing) × Tends Done (at l.fn.desk l.fn.taker) (at l.desk l.taker)
