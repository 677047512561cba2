-- A driver at rest has a still bench, and hears in order.
use Rattle.sim_channels.proofs.Others.{places_alone}
use Rattle.std.proofs.Common.{◌≡◌, ◌⊎◌, ℕ, ◌+◌, ◌-◌, true, List, [], sym, ap, ◌∙◌, subst, inl, inr, arith}
use Rattle.std.specs.Prelude.{Some}
use Rattle.std.specs.List.{slice_get}
use Rattle.device_port.specs.Devices.{Meaning}
use Rattle.machine_steps.specs.declared.entry.Entry.TheVariants as entries
use Rattle.machine_steps.specs.declared.entry.Input.{Input}
use Rattle.machine_steps.specs.declared.reply.Reply.{Reply}
use Rattle.world_steps.specs.Worlds.{messages_for}
use Rattle.sim_steps.specs.Benches.{IsPluggedAt, IsSolo, Slot, is_plugged}
use Rattle.sim_steps.specs.Deeds.Deed.{Enters}
use Rattle.sim_steps.specs.Parts.{HearsInOrder, IsCalm, IsHeardOut, IsStill}
use Rattle.sim_channels.specs.declared.channel.Channel.{Channel}
use Rattle.machine_desk.specs.declared.inbound.Stage.TheVariants.{Live}
use Rattle.sim_channels.specs.declared.driver.Driver.{Driver}
use Rattle.sim_channels.specs.Channels.{IsKept, WorksAlone, bench}
use Rattle.sim_channels.specs.Waiting.{IsAtRest, IsDone, IsOffered, NoneWaits}
use Rattle.machine_desk.proofs.Opened.{live_is}
use Rattle.sim_channels.proofs.Kept.{staged_at}
use Rattle.sim_channels.proofs.Slots.{SlotBy, item_at, slots_found}

-- the channel of an open session
pub record PluggedBy (c : ℕ) (driver : Driver) : Type 0 where
  pub at : ℕ
  pub place : c ≡ at + 1
  pub channel : Channel
  pub there : slice_get driver.channels.items at ≡ Some channel
  pub plugged : channel.inbound.stage ≡ Live

pub stage_plugged : (driver : Driver) (at : ℕ) (k : Channel) → IsKept driver → slice_get driver.channels.items at ≡ Some k → is_plugged (at + 1) driver.desk.now ≡ true → k.inbound.stage ≡ Live
stage_plugged driver at k kept there open_now = live_is k.inbound.stage (sym (staged_at driver at k kept there) ∙ open_now)

pub plugged_by : (driver : Driver) (c : ℕ) → IsKept driver → is_plugged c driver.desk.now ≡ true → PluggedBy c driver
plugged_by driver c kept open_now =
    let place = places_alone driver.channels.items driver.desk.now kept.sessions c open_now in
    let found = item_at driver.channels.items (c - 1) (omega (arith, place.0, place.1)) in
    let is : c ≡ (c - 1) + 1 = omega (arith, place.0) in
    record { at = c - 1; place = is; channel = found.0; there = found.1; plugged = stage_plugged driver (c - 1) found.0 kept found.1 (ap (λ n. is_plugged n driver.desk.now) (sym is) ∙ open_now) }

-- the slot of an open session, by its channel and its device
pub record SlotPlugged (c : ℕ) (driver : Driver) (devices : List Meaning) (s : Slot) : Type 0 where
  pub slot : SlotBy driver.channels.items devices c s
  pub plugged : slot.channel.inbound.stage ≡ Live

pub slot_plugged : (driver : Driver) (devices : List Meaning) (c : ℕ) (s : Slot) → IsKept driver → IsPluggedAt c (bench driver devices) s → SlotPlugged c driver devices s
slot_plugged driver devices c s kept is =
    let found = slots_found driver.channels.items devices c s is.there in
    record { slot = found; plugged = stage_plugged driver found.at found.channel kept found.there (ap (λ n. is_plugged n driver.desk.now) (sym found.place) ∙ is.plugged) }

pub none_to : (driver : Driver) (devices : List Meaning) → IsKept driver → ((at : ℕ) → IsOffered at driver) → (c : ℕ) (s : Slot) → IsPluggedAt c (bench driver devices) s → s.to ≡ []
none_to driver devices kept offered c s is =
    let h = slot_plugged driver devices c s kept is in
    ap (λ (x : Slot). x.to) h.slot.is ∙ offered h.slot.at h.slot.channel h.slot.there h.plugged

module _ (driver : Driver) (devices : List Meaning) (kept : IsKept driver) (rest : IsAtRest driver) where
  pub rest_is_calm : IsCalm (bench driver devices)
  rest_is_calm = record {
    offered = none_to driver devices kept rest.offered;
    heard = λ c s is.
        (let h = slot_plugged driver devices c s kept is in
        subst (λ (x : Slot). IsHeardOut x.from) (sym h.slot.is) (rest.heard h.slot.at h.slot.channel h.slot.there h.plugged));
  }

  done_is_still : IsDone driver → IsStill (bench driver devices)
  done_is_still done = record {
    machine =
        record {
          jobs = done.jobs;
          taken = λ c open_now.
              (let h = plugged_by driver c kept open_now in
              ap (λ n. messages_for n driver.desk.now) h.place ∙ done.taken h.at h.channel h.there h.plugged);
        };
    calm = rest_is_calm;
  }

  -- who works alone has done all
  pub rest_is_still : IsSolo driver.desk.now ⊎ IsDone driver → IsStill (bench driver devices)
  rest_is_still (inl solo) = done_is_still (rest.done (kept.crew.none solo))
  rest_is_still (inr done) = done_is_still done

-- of the place where all was offered something may be heard, while no packet waits, unless somebody works beside
pub hears_in_order : (driver : Driver) (devices : List Meaning) (at : ℕ) (input : Input) (reply : Reply) → IsKept driver → (WorksAlone driver → NoneWaits driver.desk) → IsOffered at driver
    → HearsInOrder (Enters (entries.Heard (at + 1) input) reply) (bench driver devices)
hears_in_order driver devices at input reply kept jobs offered = (
  (λ solo. jobs (kept.crew.none solo)),
  (λ s is.
      (let h = slot_plugged driver devices (at + 1) s kept is in
      let same : h.slot.at ≡ at = omega (arith, h.slot.place) in
      ap (λ (x : Slot). x.to) h.slot.is ∙ offered h.slot.channel (ap (slice_get driver.channels.items) (sym same) ∙ h.slot.there) h.plugged)),
)
