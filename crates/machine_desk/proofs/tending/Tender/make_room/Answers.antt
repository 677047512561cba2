use Rattle.std.proofs.Common.{◌≡◌, true, false, arith}
use Rattle.std.specs.Prelude.{nat_lt}
use Rattle.std.proofs.lemmas.Bool.Decides.{nat_tests}
use Rattle.worker_crew.specs.Takers.{account}
use Rattle.machine_desk.specs.Tending.{Room, at}
use Rattle.machine_desk.proofs.Rounding.{fails_then, reaches_so, slept, told_then, wears_out}
use Rattle.machine_desk.proofs.tending.Tender.make_room.Goals as goal

pub returns-in_default-clause-broken : goal.returns-in_default-clause-broken
returns-in_default-clause-broken g c =
    wears_out Room (at c.args.desk.now c.args.taker.now) c.loop.desk c.open_jobs.new.desk (account c.loop.taker) c.loop.invariant.2 c.in_default.ensures.worn

pub returns-then-count-lt-MOST_OPEN-clause-room : goal.returns-then-count-lt-MOST_OPEN-clause-room
returns-then-count-lt-MOST_OPEN-clause-room g c =
    let few : nat_lt c.in-Ok.count 4096 ≡ true = (let less = c.if-count-lt-MOST_OPEN.true in grind (arith, nat_tests)) in
    reaches_so Room (at c.args.desk.now c.args.taker.now) c.loop.desk c.open_jobs.new.desk (account c.loop.taker) c.loop.invariant.2 c.in-Ok.count c.in-Ok.ensures.asks few

pub returns-in-Some-broken-clause-broken : goal.returns-in-Some-broken-clause-broken
returns-in-Some-broken-clause-broken g c =
    let seen = at c.open_jobs.new.desk c.loop.taker in
    let behind = at c.works_one.new.desk c.works_one.new.taker in
    let many : nat_lt c.in-Ok.count 4096 ≡ false = (let more = c.if-count-lt-MOST_OPEN.false in grind (arith, nat_tests)) in
    let still = slept Room c.in-Ok-false.field-0 seen behind c.in-Ok-false.field-0-test c.in-Ok-false.ensures.goes_on in
    told_then Room (at c.args.desk.now c.args.taker.now) c.loop.desk c.open_jobs.new.desk (account c.loop.taker) c.loop.invariant.2 c.in-Ok.count c.in-Ok.ensures.asks
    many behind still.0 still.1 c.in-Some-broken.cause c.broken_by.result c.broken_by.new.desk c.broken_by.ensures.breaks

pub returns-in-Err-clause-broken : goal.returns-in-Err-clause-broken
returns-in-Err-clause-broken g c =
    let many : nat_lt c.in-Ok.count 4096 ≡ false = (let more = c.if-count-lt-MOST_OPEN.false in grind (arith, nat_tests)) in
    fails_then Room (at c.args.desk.now c.args.taker.now) c.loop.desk c.open_jobs.new.desk (account c.loop.taker) c.loop.invariant.2 c.in-Ok.count c.in-Ok.ensures.asks
    many (at c.works_one.new.desk c.works_one.new.taker) c.in-Err.cause c.in-Err.ensures.fails
