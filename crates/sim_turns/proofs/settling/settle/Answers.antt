use Rattle.std.proofs.Common.{◌≡◌, ◌+◌, ℕ, length, map, refl, sym, subst, inl, inr, arith}
use Rattle.std.proofs.lemmas.List.{length-map}
use Rattle.machine_steps.specs.declared.note.Note.TheVariants as notes
use Rattle.script_text.specs.Orders.Order.{Settle}
use Rattle.sim_steps.specs.Parts.{EndsSettling, IsLowestTurn, most_turns}
use Rattle.sim_steps.specs.Stretches.{Obeyed}
use Rattle.sim_channels.specs.Channels.{bench}
use Rattle.sim_channels.proofs.Others.{same_then}
use Rattle.sim_turns.specs.Taking.{TakesSome}
use Rattle.sim_turns.proofs.Counted.{carried_count}
use Rattle.sim_turns.proofs.Obeyed.{lowest_turn, settle_obeyed, takes_more, takes_on, told_last}
use Rattle.sim_turns.proofs.Pending.{none_lower, none_pends, pends}
use Rattle.sim_channels.proofs.Staged.{on_err}
use Rattle.std.proofs.lemmas.Result.{on_err_weaker}
use Rattle.sim_steps.proofs.Broken.{broken_stretch}
use Rattle.sim_turns.proofs.settling.settle.Goals as goal

-- each turn uses up one of the turns, or an open session
pub loop-at-smaller : goal.loop-at-smaller
loop-at-smaller g c =
    let f = g.D.Device.meaning in
    let mid = c.take_turn.new.devices in
    let last = c.catch_up-in-Some.new.devices in
    let h = c.in_ok-catch_up-2.ensures in
    let long : length (map f mid) ≡ length (map f last) = omega (arith, length-map mid f, length-map last f, c.catch_up-in-Some.auto.devices) in
    let few =
    carried_count c.driving_laws.ensures c.take_turn.new.driver c.catch_up-in-Some.new.self (map f mid) (map f last) c.in_ok-take_turn.ensures.fits h.fits long
    h.carried in
    omega (arith, few, c.in_ok-take_turn.ensures.tires, c.dealt.ensures.dealt, c.dealt.ensures.most, c.loop-at.invariant.most, c.if-taken-eq-MOST_TURNS.false)

pub loop-at-preserved : goal.loop-at-preserved
loop-at-preserved g c =
    let f = g.D.Device.meaning in
    let ds = map f c.loop-at.devices in
    let place = c.in-Some.at + 1 in
    let old = c.args.driver.now in
    let mid = c.take_turn.new.driver in
    let a = bench old (map f c.args.devices.now) in
    let b = bench c.loop-at.driver ds in
    let d = bench mid (map f c.take_turn.new.devices) in
    let e = bench c.catch_up-in-Some.new.self (map f c.catch_up-in-Some.new.devices) in
    let turned = c.in_ok-take_turn.field-0 in
    let h = c.in_ok-take_turn.ensures in
    let k = c.in_ok-catch_up-2.ensures in
    let first = c.in-Some.ensures in
    let was = c.loop-at.invariant in
    let is =
    lowest_turn place turned b d h.taken (pends c.loop-at.driver ds was.fits c.in-Some.at first.waits)
    (none_lower c.loop-at.driver ds was.fits c.in-Some.at first.lowest) in
    let taken =
    subst (λ (n : ℕ). TakesSome IsLowestTurn (c.loop-at.taken + n) a d) (sym c.dealt.ensures.dealt)
    (takes_more IsLowestTurn c.loop-at.taken a b d place turned was.some h.taken is) in
    record {
      fits = k.fits;
      rest = k.rest;
      done = k.done;
      same =
          same_then old mid c.catch_up-in-Some.new.self (same_then old c.loop-at.driver mid was.same c.take_turn.ensures.same) c.catch_up-in-Some.ensures.same;
      some = takes_on IsLowestTurn (c.loop-at.taken + c.dealt.result) a d e taken k.carried;
      most = omega (arith, c.dealt.ensures.most, was.most, c.if-taken-eq-MOST_TURNS.false);
    }

-- ---- the turns are used up

pub returns-then-taken-eq-MOST_TURNS-clause-obeyed : goal.returns-then-taken-eq-MOST_TURNS-clause-obeyed
returns-then-taken-eq-MOST_TURNS-clause-obeyed g c =
    let ds = map g.D.Device.meaning c.loop-at.devices in
    let taken = c.loop-at.taken in
    let said = notes.Unsettled taken in
    let a = bench c.args.driver.now (map g.D.Device.meaning c.args.devices.now) in
    let b = bench c.loop-at.driver ds in
    let d = bench c.note.new.driver ds in
    let h = c.loop-at.invariant in
    let all : taken ≡ most_turns = omega arith in
    let ends : EndsSettling taken said b = inr (all, refl, c.in-Some.at + 1, pends c.loop-at.driver ds h.fits c.in-Some.at c.in-Some.ensures.waits) in
    told_last c.resting_laws.ensures c.loop-at.driver c.note.new.driver ds h.fits said (Obeyed Settle a d)
    (λ asked calm still. settle_obeyed a b d taken said calm still h.some h.most ends asked)
    c.note.result c.note.ensures.fits c.note.ensures.rest c.note.ensures.told

-- ---- no message waits

pub returns-clause-obeyed : goal.returns-clause-obeyed
returns-clause-obeyed g c =
    let ds = map g.D.Device.meaning c.loop-at.devices in
    let taken = c.loop-at.taken in
    let said = notes.Settled taken in
    let a = bench c.args.driver.now (map g.D.Device.meaning c.args.devices.now) in
    let b = bench c.loop-at.driver ds in
    let d = bench c.note-2.new.driver ds in
    let h = c.loop-at.invariant in
    let ends : EndsSettling taken said b = inl (refl, none_pends c.loop-at.driver ds h.fits c.in_default.ensures) in
    told_last c.resting_laws.ensures c.loop-at.driver c.note-2.new.driver ds h.fits said (Obeyed Settle a d)
    (λ asked calm still. settle_obeyed a b d taken said calm still h.some h.most ends asked)
    c.note-2.result c.note-2.ensures.fits c.note-2.ensures.rest c.note-2.ensures.told

-- ---- it stops

pub returns-then-taken-eq-MOST_TURNS-clause-broken : goal.returns-then-taken-eq-MOST_TURNS-clause-broken
returns-then-taken-eq-MOST_TURNS-clause-broken g c =
    let h = c.loop-at.invariant in
    on_err_weaker c.note.result
    (λ stops. broken_stretch _ _ _ _ c.note.new.driver.desk.past h.some.stretch (stops (map g.D.Device.meaning c.loop-at.devices) (sym h.fits.places))) c.note.ensures.broken

pub returns-in_err-take_turn-clause-broken : goal.returns-in_err-take_turn-clause-broken
returns-in_err-take_turn-clause-broken g c =
    on_err c.from_residual-in_err-take_turn.result
    (broken_stretch _ _ _ _ c.take_turn.new.driver.desk.past c.loop-at.invariant.some.stretch c.in_err-take_turn.ensures.broken)

pub returns-in_err-catch_up-2-clause-broken : goal.returns-in_err-catch_up-2-clause-broken
returns-in_err-catch_up-2-clause-broken g c =
    let past = c.catch_up-in-Some.new.self.desk.past in
    on_err c.from_residual-in_err-catch_up-2.result
    (broken_stretch _ _ _ _ past c.loop-at.invariant.some.stretch
    (broken_stretch _ _ _ _ past c.in_ok-take_turn.ensures.taken.stretch c.in_err-catch_up-2.ensures.broken))

pub returns-clause-broken : goal.returns-clause-broken
returns-clause-broken g c =
    let h = c.loop-at.invariant in
    on_err_weaker c.note-2.result
    (λ stops. broken_stretch _ _ _ _ c.note-2.new.driver.desk.past h.some.stretch (stops (map g.D.Device.meaning c.loop-at.devices) (sym h.fits.places))) c.note-2.ensures.broken
