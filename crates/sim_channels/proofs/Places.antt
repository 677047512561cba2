-- What is kept, and what is left to do, where at most one place changed.
use Rattle.std.proofs.Common.{◌≡◌, ℕ, ◌+◌, true, false, List, length, set, refl, sym, ap, ◌∙◌, subst, ⊎_elim, arith}
use Rattle.std.specs.Prelude.{Some, is_some}
use Rattle.std.specs.List.{slice_get}
use Rattle.std.proofs.lemmas.Bool.{cases_eq}
use Rattle.std.proofs.lemmas.Option.{slice_get_within}
use Rattle.world_steps.specs.Worlds.{lacks_memory}
use Rattle.machine_desk.specs.Desks.{Enters}
use Rattle.device_port.specs.Devices.{Meaning}
use Rattle.machine_steps.specs.declared.entry.Entry.{Entry}
use Rattle.machine_steps.specs.declared.reply.Reply.{Reply}
use Rattle.machine_steps.specs.Machine.{session_at}
use Rattle.sim_steps.specs.Benches.{is_plugged}
use Rattle.sim_channels.specs.declared.channel.Channel.{Channel}
use Rattle.machine_desk.specs.declared.inbound.Stage.{Stage}
use Rattle.sim_channels.specs.declared.driver.Driver.{Driver}
use Rattle.sim_channels.specs.Channels.{Fits, IsKept, bench, slots_of}
use Rattle.machine_desk.specs.Driving.{DrivingLaws}
use Rattle.sim_channels.specs.Resting.{DoesAt}
use Rattle.sim_channels.specs.Waiting.{IsAtRest, IsAtRestBut, IsHeard, IsOffered, IsTaken, WhilePlugged}
use Rattle.sim_channels.proofs.Keeping.{messages_same}
use Rattle.sim_channels.proofs.Kept.{plugged_at}
use Rattle.sim_channels.proofs.Others.{alone_back, places_alone}
use Rattle.sim_channels.proofs.Resting.{stage_plugged}
use Rattle.sim_channels.proofs.Slots.{item_at, slots_alike}
use Rattle.sim_channels.specs.Hearing.{KeepsChannels}

-- an index is this one or another
pub by_index : (at here : ℕ) {P : Type 0} → (at ≡ here → P) → ((at ≡ here → ⊥) → P) → P
by_index at here same other = ⊎_elim same other (cases_eq at here)

-- a list of the same length has an element there too
pub there_too : {X Y : Type 0} (xs : List X) (ys : List Y) (at : ℕ) (y : Y) → length xs ≡ length ys → slice_get ys at ≡ Some y → (x : X) × (slice_get xs at ≡ Some x)
there_too xs ys at y same e = item_at xs at (let h = slice_get_within ys at y e in omega (arith, h, same))

abbrev pub with_stage : Stage → Channel → Channel
with_stage stage k = record k { inbound = record k.inbound { stage = stage } }

-- the machine was given an entry, with memory enough, and the channel with this index has this stage behind it; nothing else changes
pub record EntersAndStages (at : ℕ) (entry : Entry) (reply : Reply) (stage : Stage) (old new : Driver) : Type 0 where
  pub enters : Enters old.desk entry reply new.desk
  pub memory : lacks_memory reply ≡ false
  pub channel : Channel
  pub there : slice_get old.channels.items at ≡ Some channel
  pub rest : new ≡ record old { desk = new.desk; channels = new.channels }
  pub channels : new.channels.items ≡ set old.channels.items at (with_stage stage channel)

-- no bench shows a stage
pub staged_slots : (at : ℕ) (entry : Entry) (reply : Reply) (stage : Stage) (d e : Driver) → EntersAndStages at entry reply stage d e → (devices : List Meaning)
    → bench e devices ≡ bench (record d { desk = e.desk }) devices
staged_slots at entry reply stage d e h devices =
    ap (λ ss. record { past = e.desk.past; machine = e.desk.now; slots = ss })
    (ap (λ ks. slots_of ks devices) h.channels ∙ slots_alike d.channels.items devices at h.channel (with_stage stage h.channel) h.there refl refl)

-- ---- the devices

pub fits_but : (d e : Driver) (here : ℕ) (devices : List Meaning) → IsKept e → KeepsChannels here d e → Fits d devices → Fits e devices
fits_but d e here devices kept keeps fits = record {
  kept = kept;
  places = keeps.count ∙ fits.places;
  waiting = λ at k dev there here_is. by_index at here
      (λ same. (let old = there_too d.channels.items e.channels.items at k (sym keeps.count) there in
      keeps.waiting old.0 k (ap (λ n. slice_get d.channels.items n) (sym same) ∙ old.1) (ap (λ n. slice_get e.channels.items n) (sym same) ∙ there) ∙ fits.waiting at old.0 dev old.1 here_is))
      (λ other. fits.waiting at k dev (sym (keeps.others at other) ∙ there) here_is);
}

pub fits_same : (d e : Driver) (devices : List Meaning) → IsKept e → e.channels.items ≡ d.channels.items → Fits d devices → Fits e devices
fits_same d e devices kept same fits = record {
  kept = kept;
  places = ap (λ (xs : List Channel). length xs) same ∙ fits.places;
  waiting = λ at k dev there here_is. fits.waiting at k dev (ap (λ (xs : List Channel). slice_get xs at) (sym same) ∙ there) here_is;
}

-- ---- what is left to do

-- of a channel that stays
pub while_still : (P : Channel → Type 0) (at : ℕ) (d e : Driver) → slice_get e.channels.items at ≡ slice_get d.channels.items at → WhilePlugged P at d → WhilePlugged P at e
while_still P at d e same h k there plugged = h k (sym same ∙ there) plugged

pub taken_still : (laws : DrivingLaws) (at : ℕ) (d e : Driver) → IsKept d → IsKept e → session_at (at + 1) e.desk.now ≡ session_at (at + 1) d.desk.now → IsTaken at d → IsTaken at e
taken_still laws at d e kept also session taken k there plugged =
    let open_before : is_plugged (at + 1) d.desk.now ≡ true = sym (ap is_some session) ∙ plugged_at e at k also there plugged in
    let place = places_alone d.channels.items d.desk.now kept.sessions (at + 1) open_before in
    let was = item_at d.channels.items at (omega (arith, place.1)) in
    messages_same laws (at + 1) d.desk.now e.desk.now kept.reached also.reached open_before session ∙ taken was.0 was.1 (stage_plugged d at was.0 kept was.1 open_before)

-- something was done at one place
pub done_beside : (laws : DrivingLaws) (here : ℕ) (d e : Driver) → IsKept d → IsAtRestBut here d → DoesAt here d e → IsAtRestBut here e
done_beside laws here d e kept rest h = record {
  done = λ behind.
      (let alone = alone_back d e h.same behind in
      record {
        jobs = h.jobs alone;
        taken = λ at. by_index at here (λ same. subst (λ n. IsTaken n e) (sym same) (h.taken alone))
            (λ other. taken_still laws at d e kept h.kept (h.others.sessions alone (at + 1) (λ f. other (omega (arith, f)))) ((rest.done alone).taken at));
      });
  offered = λ at. by_index at here (λ same. subst (λ n. IsOffered n e) (sym same) h.offered) (λ other. while_still _ at d e (h.others.channels at other) (rest.offered at));
  heard = λ at other. while_still _ at d e (h.others.channels at other) (rest.heard at other);
}

pub but_here : (here : ℕ) (d : Driver) → IsAtRest d → IsAtRestBut here d
but_here here d rest = record { done = rest.done; offered = rest.offered; heard = λ at other. rest.heard at }

pub all_heard : (here : ℕ) (d : Driver) → IsAtRestBut here d → IsHeard here d → IsAtRest d
all_heard here d rest heard =
    record { done = rest.done; offered = rest.offered; heard = λ at. by_index at here (λ same. subst (λ n. IsHeard n d) (sym same) heard) (rest.heard at) }
