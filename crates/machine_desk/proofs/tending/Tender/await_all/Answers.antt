use Rattle.std.proofs.Common.{◌≡◌, false, arith}
use Rattle.std.specs.Prelude.{◌==◌}
use Rattle.std.proofs.lemmas.Bool.Decides.{nat_tests}
use Rattle.worker_crew.specs.Takers.{account}
use Rattle.machine_desk.specs.Tending.{Done, at}
use Rattle.machine_desk.proofs.Rounding.{fails_then, slept, told_then, wears_out}
use Rattle.machine_desk.proofs.tending.Tender.await_all.Goals as goal

pub returns-in_default-clause-broken : goal.returns-in_default-clause-broken
returns-in_default-clause-broken g c =
    wears_out Done (at c.args.desk.now c.args.taker.now) c.loop.desk c.open_jobs.new.desk (account c.loop.taker) c.loop.invariant.2 c.in_default.ensures.worn

pub returns-in-Some-broken-clause-broken : goal.returns-in-Some-broken-clause-broken
returns-in-Some-broken-clause-broken g c =
    let seen = at c.open_jobs.new.desk c.loop.taker in
    let behind = at c.works_alone.new.desk c.works_alone.new.taker in
    let many : (c.in-Ok.count == 0) ≡ false = (let more = c.if-count-eq0.false in grind (arith, nat_tests)) in
    let still = slept Done c.in-Ok-false.field-0 seen behind c.in-Ok-false.field-0-test c.in-Ok-false.ensures.goes_on in
    told_then Done (at c.args.desk.now c.args.taker.now) c.loop.desk c.open_jobs.new.desk (account c.loop.taker) c.loop.invariant.2 c.in-Ok.count c.in-Ok.ensures.asks
    many behind still.0 still.1 c.in-Some-broken.cause c.broken_by.result c.broken_by.new.desk c.broken_by.ensures.breaks

pub returns-in-Err-clause-broken : goal.returns-in-Err-clause-broken
returns-in-Err-clause-broken g c =
    let many : (c.in-Ok.count == 0) ≡ false = (let more = c.if-count-eq0.false in grind (arith, nat_tests)) in
    fails_then Done (at c.args.desk.now c.args.taker.now) c.loop.desk c.open_jobs.new.desk (account c.loop.taker) c.loop.invariant.2 c.in-Ok.count c.in-Ok.ensures.asks
    many (at c.works_alone.new.desk c.works_alone.new.taker) c.in-Err.cause c.in-Err.ensures.fails
