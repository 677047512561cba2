-- An entry that a script asks for is an event, behind what others did.
use Rattle.std.proofs.Common.{◌≡◌, ℕ, true, false, List, [], ◌∷◌, refl, ap, ◌∙◌, inl, inr, ⊎_elim}
use Rattle.std.specs.Prelude.{is_some}
use Rattle.device_port.specs.Devices.{Meaning}
use Rattle.machine_steps.specs.declared.entry.Entry.{Entry}
use Rattle.machine_steps.specs.declared.entry.Entry.TheVariants as entries
use Rattle.machine_steps.specs.declared.reply.Reply.{Reply}
use Rattle.machine_steps.specs.Machine.{State, was_opened}
use Rattle.machine_desk.specs.Desks.{Enters}
use Rattle.world_steps.specs.Worlds.{lacks_memory}
use Rattle.sim_steps.specs.Benches.{Bench, Slot, is_plugged, slot_at}
use Rattle.sim_steps.specs.Deeds.{EntersAt, MayEnter, SlotsBehind}
use Rattle.sim_steps.specs.Deeds.Deed.{Enters as EntersBy}
use Rattle.sim_steps.specs.Parts.{IsDrained, asks, tells_settling}
use Rattle.sim_steps.proofs.Joining.{carried_ahead}
use Rattle.sim_steps.proofs.Moments.{entered, stretch_entry}
use Rattle.sim_steps.proofs.Others.{carried_beside}
use Rattle.sim_channels.specs.Channels.{IsKept, bench, slots_of}
use Rattle.machine_desk.specs.Driving.{DrivingLaws}
use Rattle.sim_channels.specs.Resting.{RestingLaws}
use Rattle.sim_channels.specs.Waiting.{IsAtRest, IsDone}
use Rattle.sim_channels.specs.declared.driver.Driver.{Driver}
use Rattle.sim_channels.proofs.Others.{ahead, opened_stays, others_ahead, others_beside, plugged_stays, tends_kept, tends_of}
use Rattle.sim_turns.specs.Turning.{IsAsked}
use Rattle.sim_turns.proofs.Aside.{others_aside}

-- ---- what an asked entry is

asked_slots : (m : State) (entry : Entry) (reply : Reply) (old new : List Slot) → asks entry ≡ true → new ≡ old → SlotsBehind m entry reply old new
asked_slots m (entries.Heard c input) reply old new asked e = absurd (cc)
asked_slots m (entries.TakeOut c) reply old new asked e = absurd (cc)
asked_slots m entry reply old new asked e = e

-- it may be made where sessions and places are as they were
pub asked_may : (entry : Entry) (a b : Bench) → asks entry ≡ true → b.slots ≡ a.slots → ((c : ℕ) → is_plugged c b.machine ≡ is_plugged c a.machine)
    → ((c : ℕ) → was_opened c b.machine ≡ was_opened c a.machine) → MayEnter entry a → MayEnter entry b
asked_may (entries.Open c) a b asked slots plugged opened may = (ap (λ (ss : List Slot). is_some (slot_at c ss)) slots ∙ may.0, opened c ∙ may.1)
asked_may (entries.Gone c fault) a b asked slots plugged opened may = plugged c ∙ may
asked_may (entries.Heard c input) a b asked slots plugged opened may = absurd (cc)
asked_may (entries.TakeOut c) a b asked slots plugged opened may = absurd (cc)
asked_may (entries.Decide job) a b asked slots plugged opened may = absurd (cc)
asked_may entry a b asked slots plugged opened may = may

-- ---- the event

module _ (laws : DrivingLaws) (resting : RestingLaws) (entry : Entry) (reply : Reply) (old new : Driver) (kept : IsKept old) (enters : Enters old.desk entry reply new.desk)
    (same : new ≡ record old { desk = new.desk }) (devices : List Meaning) where
  abbrev Ahead : Driver
  Ahead = ahead old entry reply new.desk kept enters

  module _ (rest : IsAtRest old) (asked : asks entry ≡ true) (settled : tells_settling (EntersBy entry reply) ≡ true → IsDone old) where
    drained : IsDrained (entered entry reply (bench Ahead devices) (bench new devices))
    drained by =
        let others = others_ahead old entry reply new.desk kept enters in
        resting.still Ahead devices (tends_kept laws old Ahead kept (tends_of old Ahead others)) (resting.others old Ahead kept others rest)
        (⊎_elim inl (λ is. inr (resting.done old Ahead kept others (settled is))) by)

    enters_at : MayEnter entry (bench old devices) → EntersAt entry reply (bench Ahead devices) (bench new devices)
    enters_at may =
        let tends = tends_of old Ahead (others_ahead old entry reply new.desk kept enters) in
        record {
          may =
              asked_may entry (bench old devices) (bench Ahead devices) asked refl (plugged_stays laws old Ahead kept tends)
              (opened_stays laws old Ahead kept tends) may;
          admitted = enters.made.admitted;
          steps = enters.made.steps;
          slots = asked_slots enters.between entry reply _ _ asked (ap (λ (x : Driver). slots_of x.channels.items devices) same);
          past = enters.past;
        }

    -- this entry alone was asked for
    pub asked_over : lacks_memory reply ≡ false → MayEnter entry (bench old devices) → IsAsked entry reply (bench old devices) (bench new devices)
    asked_over memory may =
        let event = entered entry reply (bench Ahead devices) (bench new devices) in
        record {
          event = event;
          stretch = carried_ahead (event ∷ []) [] (bench old devices) (bench Ahead devices) (bench new devices)
              (carried_beside (bench old devices) (bench Ahead devices)
              (others_beside laws old Ahead kept (others_ahead old entry reply new.desk kept enters) devices))
              (stretch_entry entry reply (bench Ahead devices) (bench new devices) asked drained memory (enters_at may));
          before = others_aside laws old Ahead kept (others_ahead old entry reply new.desk kept enters) devices;
          deed = refl;
        }
