use Rattle.std.proofs.Common.{◌≡◌, Ok}
use Rattle.history_lock.specs.Passes.{IsPassOf, known, leads, opening, parts}
use Rattle.worker_crew.specs.Takers.{IsTakerOf, account, shares}
use Rattle.worker_crew.specs.Tasks.{Toiled}
use Rattle.worker_crew.proofs.worker.serve.Given as goal

abbrev pub invariant-loop : goal.invariant-loop
invariant-loop g l =
    IsPassOf l.hall l.pass × (parts l.pass ≡ parts l.fn.pass) × (opening l.pass ≡ opening l.fn.pass) × (leads l.pass ≡ leads l.fn.pass) × IsTakerOf l.jobs l.taker × (shares l.taker ≡ shares l.fn.taker)
    × Toiled (g.W.Works.makes l.works) (known l.fn.pass) (account l.fn.taker) (Ok tt) (known l.pass) (account l.taker)
