-- A frame comes to a device, behind what others did.
use Rattle.std.proofs.Common.{◌≡◌, ℕ, ◌+◌, Bool, true, false, List, [], ◌∷◌, refl, sym, ◌∙◌, subst, inl, ⊎_elim}
use Rattle.device_port.specs.Devices.{Meaning}
use Rattle.device_port.specs.Devices.Call.{Looking}
use Rattle.sim_steps.specs.Benches.{is_plugged}
use Rattle.sim_steps.specs.Deeds.{Event}
use Rattle.script_text.specs.Orders.Order.{Arrival}
use Rattle.sim_steps.specs.Parts.{IsDrained, JustLooks}
use Rattle.sim_steps.specs.Stretches.{BreaksOff, Carried, Obeyed, Stretch}
use Rattle.sim_steps.proofs.Broken.{broken_behind, broken_by}
use Rattle.sim_steps.proofs.Joining.{carried_ahead, carried_behind, obeyed}
use Rattle.sim_steps.proofs.Moments.{called, stretch_call, stretch_failed}
use Rattle.sim_channels.specs.declared.driver.Driver.{Driver}
use Rattle.sim_channels.specs.Channels.{Fits, IsKept, bench}
use Rattle.sim_channels.specs.Delivering.{Leaves}
use Rattle.machine_desk.specs.Driving.{DrivingLaws}
use Rattle.sim_channels.specs.Looking.{IsCalled}
use Rattle.sim_channels.specs.Resting.{RestingLaws}
use Rattle.sim_channels.specs.Waiting.{IsAtRest}
use Rattle.sim_channels.proofs.Others.{others_beside, others_carried, tends_kept, tends_of}
use Rattle.sim_channels.proofs.Places.{fits_but}
use Rattle.sim_turns.proofs.Aside.{others_aside}
use Rattle.sim_driver.specs.Commands.{Looked}
use Rattle.sim_driver.proofs.Doing.{if_plugged}

-- ---- and the device is left where it failed

module _ (laws : DrivingLaws) (resting : RestingLaws) (d : Driver) (before : List Meaning) (m : Driver) (mid : List Meaning) (at port : ℕ) (frame : List ℕ) (fits : Fits d before)
    (rest : IsAtRest d) (failed : Bool)
    (h : IsCalled at port frame failed d before m mid) where
  abbrev event : Event
  event = called (at + 1) (Looking port frame h.called.seen h.called.bytes) h.called.reply (bench h.ahead before) (bench m mid)

  -- up to there
  pub called_broken : BreaksOff (bench d before) m.desk.past
  called_broken =
      let did = others_beside laws d h.ahead fits.kept h.others before in
      broken_behind (bench d before) did.events (bench h.ahead before) m.desk.past did.runs (broken_by event h.called.calls)

  drained : IsDrained event
  drained by =
      resting.still h.ahead before (tends_kept laws d h.ahead fits.kept (tends_of d h.ahead h.others)) (resting.others d h.ahead fits.kept h.others rest)
      (⊎_elim inl (λ (is : false ≡ true). absurd (cc)) by)

  looked : (e : Driver) (after : List Meaning) → Stretch (event ∷ []) [] (bench h.ahead before) (bench e after)
      → Looked (at + 1) port frame (bench d before) (bench e after)
  looked e after stretch = record {
    event = event;
    stretch =
        carried_ahead (event ∷ []) [] (bench d before) (bench h.ahead before) (bench e after)
        (others_carried laws d h.ahead fits.kept h.others before (sym fits.places)) stretch;
    before = others_aside laws d h.ahead fits.kept h.others before;
    seen = h.called.seen;
    bytes = h.called.bytes;
    reply = h.called.reply;
    deed = refl;
  }

  pub looked_whole : failed ≡ false → Looked (at + 1) port frame (bench d before) (bench m mid)
  looked_whole is =
      looked m mid
      (stretch_call (at + 1) (Looking port frame h.called.seen h.called.bytes) h.called.reply (bench h.ahead before) (bench m mid) refl drained
      (h.called.failed_is ∙ is) h.called.memory h.called.calls)

  pub looked_failed : (e : Driver) → Leaves at m e → failed ≡ true → Looked (at + 1) port frame (bench d before) (bench e mid)
  looked_failed e left is =
      looked e mid
      (stretch_failed (at + 1) (Looking port frame h.called.seen h.called.bytes) h.called.reply (bench h.ahead before) (bench m mid) left.reply
      (bench left.ahead mid) (bench e mid)
      (others_beside laws m left.ahead h.fits.kept left.others mid) refl drained (h.called.failed_is ∙ is) h.called.memory left.memory h.called.calls
      (left.enters mid (sym h.fits.places)))

pub fits_left : (m e : Driver) (at : ℕ) (devices : List Meaning) → Leaves at m e → Fits m devices → Fits e devices
fits_left m e at devices left fits =
    fits_but m e at devices left.kept (record { count = left.places; others = left.spares.others.channels; waiting = left.waiting }) fits

-- ---- and what that brings about was done

pub obeyed_looked : RestingLaws → (d : Driver) (before : List Meaning) (m : Driver) (mid : List Meaning) (e : Driver) (after : List Meaning) (c at port : ℕ) (frame : List ℕ)
    → c ≡ at + 1 → is_plugged c d.desk.now ≡ true
    → Looked (at + 1) port frame (bench d before) (bench m mid) → Carried (bench m mid) (bench e after) → IsKept e → IsAtRest e
    → Obeyed (Arrival c port frame) (bench d before) (bench e after)
obeyed_looked resting d before m mid e after c at port frame place plugged looked carried kept rest =
    let one : Looked c port frame (bench d before) (bench m mid) = subst (λ n. Looked n port frame (bench d before) (bench m mid)) (sym place) looked in
    obeyed (Arrival c port frame) (one.event ∷ []) (bench d before) (bench e after)
    (carried_behind (one.event ∷ []) [] (bench d before) (bench m mid) (bench e after) one.stretch carried)
    (if_plugged c d.desk.now (one.event ∷ []) (JustLooks c port frame (one.event ∷ [])) plugged (one.event, one.seen, one.bytes, one.reply, refl, one.deed))
    (resting.calm e after kept rest) (λ solo. resting.still e after kept rest (inl solo))
