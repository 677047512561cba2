use Rattle.sim_turns.proofs.Called.{is_taken, turns_by}
use Rattle.sim_channels.proofs.Staged.{on_err}
use Rattle.sim_channels.specs.Channels.{bench}
use Rattle.std.proofs.Common.{map, refl}
use Rattle.sim_steps.proofs.Broken.{broken_here}
use Rattle.sim_turns.proofs.turning.turn_told.Goals as goal

pub tell_turn-requires-clause-taken : goal.tell_turn-requires-clause-taken
tell_turn-requires-clause-taken g c =
    let f = g.D.Device.meaning in
    let t = c.in_ok-turned.ensures in
    is_taken c.args.at c.in_ok-turned.turned t.bytes c.args.driver.now (map f c.args.devices.now) (map f c.turn_at.new.devices) c.requires.fits
    c.requires.waits t.turns t.memory

pub returns-clause-told : goal.returns-clause-told
returns-clause-told g c =
    let f = g.D.Device.meaning in
    let before = map f c.args.devices.now in
    let behind = map f c.turn_at.new.devices in
    c.in_ok-tell_turn.ensures.told before behind c.requires.fits
    (turns_by c.args.at c.in_ok-turned.turned before behind c.new-bytes.result.items c.turn_at.new.out.items c.deref.result.now c.in_ok-turned.ensures
    c.new-bytes.ensures.items c.deref.ensures.value)

-- ---- it stops

pub returns-in_err-turned-clause-broken : goal.returns-in_err-turned-clause-broken
returns-in_err-turned-clause-broken g c =
    let old = c.args.driver.now in on_err c.from_residual.result (broken_here (bench old (map g.D.Device.meaning c.args.devices.now)) old.desk.past refl)

pub returns-in_err-tell_turn-clause-broken : goal.returns-in_err-tell_turn-clause-broken
returns-in_err-tell_turn-clause-broken g c =
    let f = g.D.Device.meaning in
    let before = map f c.args.devices.now in
    let behind = map f c.turn_at.new.devices in
    on_err c.from_residual-in_err-tell_turn.result
    (c.in_err-tell_turn.ensures.broken before behind c.requires.fits
    (turns_by c.args.at c.in_ok-turned.turned before behind c.new-bytes.result.items c.turn_at.new.out.items c.deref.result.now c.in_ok-turned.ensures
    c.new-bytes.ensures.items c.deref.ensures.value))
