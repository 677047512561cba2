-- What others did beside the driver leaves the places as they are, and which sessions are open: so a message waits where one did, and a turn is one from
-- ahead of it.
use Rattle.std.proofs.Common.{◌≡◌, ℕ, ◌+◌, ◌<◌, List, [], ◌∷◌, sym, ap, ◌∙◌, subst, inl, inr}
use Rattle.device_port.specs.Devices.{Meaning}
use Rattle.machine_steps.specs.declared.note.Note.{Note}
use Rattle.maple_base.specs.declared.device.Turned.{Turned}
use Rattle.sim_steps.specs.Benches.{Bench, IsPluggedAt, IsSolo, Slot, is_plugged, slot_at}
use Rattle.sim_steps.specs.Parts.{EndsSettling, HasPending, IsExhausted, has_dealt}
use Rattle.sim_steps.proofs.Joining.{carried_ahead}
use Rattle.sim_steps.proofs.Others.{carried_beside}
use Rattle.sim_channels.specs.declared.driver.Driver.{Driver}
use Rattle.sim_channels.specs.Channels.{IsKept, OthersDid, bench}
use Rattle.machine_desk.specs.Driving.{DrivingLaws}
use Rattle.sim_channels.specs.Turns.{Waits}
use Rattle.sim_channels.specs.Waiting.{IsAtRestBut}
use Rattle.sim_channels.proofs.Others.{channel_stays, items_stay, others_beside, plugged_stays, tends_fits, tends_of, tends_slots}
use Rattle.sim_turns.specs.Taking.{Tires, ToldOver, plugged_count}
use Rattle.sim_turns.specs.Turning.{IsAside, TakesOne}

aside_then : (a b c : Bench) → IsAside a b → IsAside b c → IsAside a c
aside_then a b c h k = record {
  slots = k.slots ∙ h.slots;
  sessions = λ n. k.sessions n ∙ h.sessions n;
  alone = λ solo. k.alone (subst (λ (x : Bench). IsSolo x.machine) (sym (h.alone solo)) solo) ∙ h.alone solo;
}

-- ---- where a message waits

module _ (a b : Bench) (slots : b.slots ≡ a.slots) (sessions : (c : ℕ) → is_plugged c b.machine ≡ is_plugged c a.machine) where
  plugged_by : (c : ℕ) (s : Slot) → IsPluggedAt c a s → IsPluggedAt c b s
  plugged_by c s is = record { plugged = sessions c ∙ is.plugged; there = ap (slot_at c) slots ∙ is.there }

  pending_by : (c : ℕ) → HasPending c a → HasPending c b
  pending_by c p = record { slot = p.slot; is = plugged_by c p.slot p.is; some = p.some }

module _ (a b : Bench) (h : IsAside a b) where
  pub pending_on : (c : ℕ) → HasPending c a → HasPending c b
  pending_on = pending_by a b h.slots h.sessions

  pub pending_back : (c : ℕ) → HasPending c b → HasPending c a
  pending_back = pending_by b a (sym h.slots) (λ n. sym (h.sessions n))

  pub exhausted_on : (c : ℕ) → IsExhausted c a → IsExhausted c b
  exhausted_on c none s is = none s (plugged_by b a (sym h.slots) (λ n. sym (h.sessions n)) c s is)

  pub ends_on : (taken : ℕ) (said : Note) → EndsSettling taken said a → EndsSettling taken said b
  ends_on taken said (inl (is, none)) = inl (is, λ c p. none c (pending_back c p))
  ends_on taken said (inr (all, is, c, p)) = inr (all, is, c, pending_on c p)

-- ---- what a turn brings about at once

pub record Brings (at : ℕ) (turned : Turned) (bytes : List ℕ) (old new : Driver) : Type 0 where
  pub rest : IsAtRestBut at new
  pub told : ToldOver at turned bytes old new
  pub tires : Tires turned old new

-- ---- what stands behind it

module _ (laws : DrivingLaws) (old mid : Driver) (kept : IsKept old) (h : OthersDid old mid) where
  pub others_aside : (ds : List Meaning) → IsAside (bench old ds) (bench mid ds)
  others_aside ds = record {
    slots = tends_slots laws old mid kept (tends_of old mid h) ds;
    sessions = plugged_stays laws old mid kept (tends_of old mid h);
    alone = λ solo. ap (λ (d : Driver). bench d ds) (h.alone (kept.crew.none solo));
  }

  takes_ahead : (ds : List Meaning) (c : ℕ) (turned : Turned) (d : Bench) → TakesOne c turned (bench mid ds) d → TakesOne c turned (bench old ds) d
  takes_ahead ds c turned d one = record {
    event = one.event;
    bytes = one.bytes;
    reply = one.reply;
    stretch =
        carried_ahead (one.event ∷ []) [] (bench old ds) (bench mid ds) d (carried_beside (bench old ds) (bench mid ds) (others_beside laws old mid kept h ds))
        one.stretch;
    before = aside_then (bench old ds) (bench mid ds) one.event.before (others_aside ds) one.before;
    deed = one.deed;
  }

  pub waits_on : (at : ℕ) → Waits at old → Waits at mid
  waits_on at w = record { channel = w.channel; there = channel_stays laws old mid kept (tends_of old mid h) at ∙ w.there; plugged = w.plugged; some = w.some }

  pub brings_ahead : (at : ℕ) (turned : Turned) (bytes : List ℕ) (new : Driver) → Brings at turned bytes mid new → Brings at turned bytes old new
  brings_ahead at turned bytes new b = record {
    rest = b.rest;
    told = λ before behind fits turns.
        (let is = b.told before behind (tends_fits laws old mid kept (tends_of old mid h) before fits) turns in
        record { fits = is.fits; one = takes_ahead before (at + 1) turned (bench new behind) is.one });
    tires = subst (λ ks. plugged_count new.channels.items < plugged_count ks + has_dealt turned) (items_stay laws old mid kept (tends_of old mid h)) b.tires;
  }
