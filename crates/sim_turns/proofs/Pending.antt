-- A message waits in a device of the bench just where its channel tells so.
use Rattle.std.proofs.Common.{◌≡◌, ℕ, zero, suc, ◌+◌, ◌<◌, List, [], ◌∷◌, length, refl, sym, ap, ◌∙◌, subst, arith}
use Rattle.std.specs.Prelude.{Some}
use Rattle.std.specs.List.{slice_get}
use Rattle.of10_codec.specs.declared.message.Message.{Message}
use Rattle.device_port.specs.Devices.{Meaning}
use Rattle.sim_steps.specs.Benches.{Slot, is_plugged}
use Rattle.sim_steps.specs.Parts.{HasPending, IsExhausted}
use Rattle.machine_desk.specs.Hearing.{is_live}
use Rattle.sim_channels.specs.Channels.{Fits, bench, slot_by, slots_of}
use Rattle.sim_channels.specs.declared.driver.Driver.{Driver}
use Rattle.sim_channels.specs.Turns.{NoneBefore, Waits}
use Rattle.sim_channels.proofs.Kept.{staged_at}
use Rattle.machine_desk.proofs.Opened.{live_is}
use Rattle.sim_channels.proofs.Slots.{slot_next, slots_found, slots_get}
use Rattle.sim_channels.proofs.Waits.{waits_within}

pub there_is : {X : Type 0} (xs : List X) (i : ℕ) → i < length xs → (x : X) × (slice_get xs i ≡ Some x)
there_is [] i h = absurd (omega arith)
there_is (x ∷ xs) zero h = (x, refl)
there_is (x ∷ xs) (suc i) h = there_is xs i (omega arith)

some_there : (xs : List Message) → 0 < length xs → xs ≡ [] → ⊥
some_there xs h e = let f : length xs ≡ 0 = ap length e in omega arith

some_waits : (xs : List Message) → (xs ≡ [] → ⊥) → 0 < length xs
some_waits [] h = absurd (h refl)
some_waits (x ∷ xs) h = omega arith

-- the device at a place, by the index of its channel
record WaitsAt (c : ℕ) (driver : Driver) : Type 0 where
  at : ℕ
  place : c ≡ at + 1
  waits : Waits at driver

module _ (driver : Driver) (devices : List Meaning) (fits : Fits driver devices) where
  pub pends : (at : ℕ) → Waits at driver → HasPending (at + 1) (bench driver devices)
  pends at h =
      let within : at < length driver.channels.items = waits_within driver at h in
      let d = there_is devices at (omega (arith, fits.places)) in
      let counted : h.channel.waiting ≡ length d.0.pending = fits.waiting at h.channel d.0 h.there d.1 in
      record {
        slot = slot_by h.channel d.0;
        is = record {
          plugged = staged_at driver at h.channel fits.kept h.there ∙ ap is_live h.plugged;
          there = slot_next at (slots_of driver.channels.items devices) ∙ slots_get driver.channels.items devices at h.channel d.0 h.there d.1;
        };
        some = some_there d.0.pending (subst (λ n. 0 < n) counted h.some);
      }

  waits_by : (c : ℕ) → HasPending c (bench driver devices) → WaitsAt c driver
  waits_by c h =
      let f = slots_found driver.channels.items devices c h.slot h.is.there in
      let staged = staged_at driver f.at f.channel fits.kept f.there in
      let pending : f.device.pending ≡ [] → ⊥ = λ e. h.some (ap (λ (s : Slot). s.device.pending) f.is ∙ e) in
      let counted : f.channel.waiting ≡ length f.device.pending = fits.waiting f.at f.channel f.device f.there f.behind in
      record {
        at = f.at;
        place = f.place;
        waits = record {
          channel = f.channel;
          there = f.there;
          plugged = live_is f.channel.inbound.stage (sym staged ∙ ap (λ n. is_plugged n driver.desk.now) (sym f.place) ∙ h.is.plugged);
          some = subst (λ n. 0 < n) (sym counted) (some_waits f.device.pending pending);
        };
      }

  pub none_pends : ((at : ℕ) → Waits at driver → ⊥) → (c : ℕ) → HasPending c (bench driver devices) → ⊥
  none_pends none_waits c h = let w = waits_by c h in none_waits w.at w.waits

  pub none_lower : (at : ℕ) → NoneBefore at driver → (c : ℕ) → c < at + 1 → HasPending c (bench driver devices) → ⊥
  none_lower at lower c below h = let w = waits_by c h in lower w.at (omega (arith, w.place)) w.waits

  pub exhausted : (at : ℕ) → (Waits at driver → ⊥) → IsExhausted (at + 1) (bench driver devices)
  exhausted at not s is = go s.device.pending refl
    where
      go : (xs : List Message) → s.device.pending ≡ xs → s.device.pending ≡ []
      go [] e = e
      go (x ∷ xs) e =
          let w = waits_by (at + 1) (record { slot = s; is = is; some = λ f. (let g : x ∷ xs ≡ [] = sym e ∙ f in cc) }) in
          let same : w.at ≡ at = omega (arith, w.place) in
          absurd (not (subst (λ n. Waits n driver) same w.waits))
