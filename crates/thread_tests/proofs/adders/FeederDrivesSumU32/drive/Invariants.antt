use Rattle.std.proofs.Common.{◌≡◌}
use Rattle.history_lock.specs.Passes.{IsPassOf, leads, opening, parts}
use Rattle.worker_crew.specs.Takers.{IsTakerOf, shares}
use Rattle.thread_tests.proofs.adders.FeederDrivesSumU32.drive.Given as goal

abbrev pub invariant-loop-item : goal.invariant-loop-item
invariant-loop-item g l =
    IsPassOf l.hall l.pass × (opening l.pass ≡ opening l.fn.pass) × (parts l.pass ≡ parts l.fn.pass) × (leads l.pass ≡ leads l.fn.pass) × IsTakerOf l.jobs l.taker × (shares l.taker ≡ shares l.fn.taker)
    × (l.self ≡ l.fn.self)

abbrev pub invariant-loop : goal.invariant-loop
invariant-loop g l =
    IsPassOf l.hall l.pass × (opening l.pass ≡ opening l.fn.pass) × (parts l.pass ≡ parts l.fn.pass) × (leads l.pass ≡ leads l.fn.pass) × IsTakerOf l.jobs l.taker × (shares l.taker ≡ shares l.fn.taker)
    × (l.self ≡ l.fn.self)
