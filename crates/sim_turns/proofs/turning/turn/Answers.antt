use Rattle.std.proofs.Common.{◌≡◌, ◌+◌, ◌-◌, ◌<◌, ℕ, true, false, map, sym, ◌∙◌, subst, arith}
use Rattle.machine_steps.specs.declared.note.Note.TheVariants as notes
use Rattle.script_text.specs.Orders.Order.{Turn}
use Rattle.sim_steps.specs.Benches.{is_plugged}
use Rattle.sim_steps.specs.Parts.{IsExhausted, IsTurnAt}
use Rattle.sim_steps.specs.Stretches.{Obeyed}
use Rattle.sim_channels.specs.Channels.{bench}
use Rattle.sim_turns.specs.Taking.{TakesSome}
use Rattle.sim_turns.proofs.Obeyed.{absent_obeyed, told_last, turn_obeyed}
use Rattle.sim_turns.proofs.Pending.{exhausted}
use Rattle.std.proofs.lemmas.Result.{on_err_weaker}
use Rattle.sim_steps.proofs.Broken.{broken_stretch}
use Rattle.sim_turns.proofs.turning.turn.Goals as goal

pub returns-then-not-is_plugged_at-clause-obeyed : goal.returns-then-not-is_plugged_at-clause-obeyed
returns-then-not-is_plugged_at-clause-obeyed g c =
    let ds = map g.D.Device.meaning c.args.devices.now in
    let place = c.args.place in
    let a = bench c.args.driver.now ds in
    let d = bench c.note.new.driver ds in
    let e : (place - 1) + 1 ≡ place = omega (arith, c.requires.among) in
    let absent = subst (λ (n : ℕ). is_plugged n c.args.driver.now.desk.now ≡ false) e (sym c.is_plugged_at.ensures ∙ c.if-not-is_plugged_at.true) in
    told_last c.resting_laws.ensures c.args.driver.now c.note.new.driver ds c.requires.fits (notes.Absent place) (Obeyed (Turn place c.args.count) a d)
    (λ asked calm still. absent_obeyed place c.args.count a a d calm still absent asked) c.note.result c.note.ensures.fits c.note.ensures.rest
    c.note.ensures.told

pub returns-clause-obeyed : goal.returns-clause-obeyed
returns-clause-obeyed g c =
    let ds = map g.D.Device.meaning c.take_turns.new.devices in
    let place = c.args.place in
    let mid = c.take_turns.new.driver in
    let new = c.note-2.new.driver in
    let a = bench c.args.driver.now (map g.D.Device.meaning c.args.devices.now) in
    let b = bench mid ds in
    let d = bench new ds in
    let taken = c.in_ok-turns.turns in
    let h = c.in_ok-turns.ensures in
    let e : (place - 1) + 1 ≡ place = omega (arith, c.requires.among) in
    let some = subst (λ (n : ℕ). TakesSome (IsTurnAt n) taken a b) e h.taken in
    let plugged = subst (λ (n : ℕ). is_plugged n c.args.driver.now.desk.now ≡ true) e (sym c.is_plugged_at.ensures ∙ c.if-not-is_plugged_at.false) in
    let fewer : taken < c.args.count → IsExhausted place b =
    λ less. subst (λ (n : ℕ). IsExhausted n b) e (exhausted mid ds h.fits (place - 1) (h.fewer less)) in
    told_last c.resting_laws.ensures mid new ds h.fits (notes.TurnedAll place taken) (Obeyed (Turn place c.args.count) a d)
    (λ asked calm still. turn_obeyed place c.args.count a b d calm still taken some plugged h.most fewer asked) c.note-2.result c.note-2.ensures.fits
    c.note-2.ensures.rest c.note-2.ensures.told

-- ---- it stops

pub returns-clause-broken : goal.returns-clause-broken
returns-clause-broken g c =
    let h = c.in_ok-turns.ensures in
    let ds = map g.D.Device.meaning c.take_turns.new.devices in
    on_err_weaker c.note-2.result
    (λ stops. broken_stretch _ _ _ _ c.note-2.new.driver.desk.past h.taken.stretch (stops ds (sym h.fits.places))) c.note-2.ensures.broken
