use Rattle.std.proofs.Common.{◌≡◌, ◌+◌, length, map, arith}
use Rattle.std.proofs.lemmas.List.{length-map}
use Rattle.sim_channels.proofs.Waits.{waits_within}
use Rattle.sim_turns.proofs.Counted.{carried_count}
use Rattle.sim_turns.proofs.Obeyed.{takes_behind}
use Rattle.sim_channels.proofs.Staged.{on_err}
use Rattle.sim_steps.proofs.Broken.{broken_stretch}
use Rattle.sim_turns.proofs.turning.take_turn.Goals as goal

pub attend-requires-clause-within : goal.attend-requires-clause-within
attend-requires-clause-within g c =
    let f = g.D.Device.meaning in
    omega (arith, waits_within c.args.driver.now c.args.at c.requires.waits, c.requires.fits.places, length-map c.args.devices.now f)

pub returns-clause-taken : goal.returns-clause-taken
returns-clause-taken g c = takes_behind (c.args.at + 1) c.in_ok-turned.turned _ _ _ c.in_ok-turned.ensures.told.one c.in_ok-attend.ensures.carried

pub returns-clause-tires : goal.returns-clause-tires
returns-clause-tires g c =
    let f = g.D.Device.meaning in
    let mid = c.turn_told.new.devices in
    let last = c.attend.new.devices in
    let long : length (map f mid) ≡ length (map f last) = omega (arith, length-map mid f, length-map last f, c.attend.auto.devices) in
    let few =
    carried_count c.driving_laws.ensures c.turn_told.new.driver c.attend.new.driver (map f mid) (map f last) c.in_ok-turned.ensures.told.fits
    c.in_ok-attend.ensures.fits
    long c.in_ok-attend.ensures.carried in
    omega (arith, c.in_ok-turned.ensures.tires)

pub returns-in_err-attend-clause-broken : goal.returns-in_err-attend-clause-broken
returns-in_err-attend-clause-broken g c =
    let one = c.in_ok-turned.ensures.told.one in
    on_err c.from_residual-in_err-attend.result (broken_stretch _ _ _ _ c.attend.new.driver.desk.past one.stretch c.in_err-attend.ensures.broken)
