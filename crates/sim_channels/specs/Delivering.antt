-- What the parts of a delivery do.
use Rattle.std.specs.Prelude.{◌≡◌, ℕ, ◌+◌, ◌<◌, Bool, true, false, List, [], ◌∷◌, length, Option, Some, None}
use Rattle.std.specs.List.{AllByRecursion, slice_get}
use Rattle.of10_stream.specs.Steps.{beginning}
use Rattle.device_port.specs.declared.device.Took.{Took}
use Rattle.device_port.specs.declared.device.Took.TheVariants.{Taken, Failed}
use Rattle.device_port.specs.Devices.{Meaning}
use Rattle.machine_moves.specs.Sends.{CanBeOffered}
use Rattle.machine_desk.specs.Desks.{DeskView, Enters}
use Rattle.of10_codec.specs.declared.message.Message.{Message}
use Rattle.machine_steps.specs.declared.entry.Entry.TheVariants.{Gone, TakeOut}
use Rattle.machine_steps.specs.declared.reply.Reply.{Reply}
use Rattle.machine_steps.specs.declared.reply.Reply.TheVariants.{Out}
use Rattle.machine_steps.specs.Histories.{Turn}
use Rattle.machine_steps.specs.Machine.{State}
use Rattle.world_steps.specs.Worlds.{lacks_memory, messages_for}
use Rattle.sim_steps.specs.Deeds.{EntersAt, OffersNext}
use Rattle.sim_steps.specs.Stretches.{Carried}
use Rattle.sim_channels.specs.declared.channel.Channel.{Channel}
use Rattle.machine_desk.specs.declared.inbound.Stage.TheVariants.{Live, Unopened}
use Rattle.sim_channels.specs.declared.driver.Driver.{Driver}
use Rattle.sim_channels.specs.Channels.{CarriedOver, Fits, IsKept, IsSame, OthersDid, bench, slot_by}
use Rattle.sim_channels.specs.Staging.{HasStage}
use Rattle.sim_channels.specs.Waiting.{IsHeard, IsLeft, IsQuiet, IsTaken, NoneWaits, StaysBut, WhilePlugged}

-- what was taken out for the device can be offered
abbrev pub CanOffer : ℕ → Driver → Type 0
CanOffer at driver = WhilePlugged (λ k. AllByRecursion CanBeOffered k.to) at driver

-- what stays at all other places, and what was heard here
pub record Spares (at : ℕ) (old new : Driver) : Type 0 where
  pub others : StaysBut (IsQuiet old) at old new
  pub heard : IsHeard at old → IsHeard at new
  pub jobs : NoneWaits old.desk → NoneWaits new.desk
  pub same : IsSame old new

-- ---- the messages are taken out

-- the machine ahead of the last of these turns
abbrev pub ahead_of_last : List Turn → State → State
ahead_of_last [] m = m
ahead_of_last (t ∷ ts) m = ahead_of_last ts t.before

-- these messages waited for a connection behind what others did, and were taken out, as these bytes
pub record TakesMessages (connection : ℕ) (bytes : List ℕ) (messages : List Message) (a b : DeskView) : Type 0 where
  pub enters : Enters a (TakeOut connection) (Out bytes) b
  pub are : messages ≡ messages_for connection enters.between

pub record TakesOut (at : ℕ) (old new : Driver) : Type 0 where
  pub kept : IsKept new
  pub carried : CarriedOver old new
  pub places : length new.channels.items ≡ length old.channels.items
  pub waiting : (k l : Channel) → slice_get old.channels.items at ≡ Some k → slice_get new.channels.items at ≡ Some l → l.waiting ≡ k.waiting
  pub spares : Spares at old new
  pub taken : IsTaken at new
  pub plugged : HasStage at Live new
  pub can : CanOffer at new

-- ---- the next message is offered

abbrev pub took_by : Bool → Took
took_by true = Failed
took_by false = Taken

-- by whether the device failed: the channel and the device, before and behind
pub record OffersFirst (failed : Bool) (k : Channel) (d : Meaning) (l : Channel) (e : Meaning) : Type 0 where
  pub bytes : List ℕ
  pub offers : OffersNext bytes (took_by failed) (slot_by k d) (slot_by l e)
  pub inbound : l.inbound ≡ k.inbound
  pub waiting : l.waiting ≡ length e.pending
  pub can : AllByRecursion CanBeOffered l.to
  pub fewer : failed ≡ false → length l.to < length k.to

-- the device failed, and its session ends, behind what others did
pub record Leaves (at : ℕ) (old new : Driver) : Type 0 where
  pub kept : IsKept new
  pub ahead : Driver
  pub others : OthersDid old ahead
  pub reply : Reply
  pub memory : lacks_memory reply ≡ false
  pub enters :
      (devices : List Meaning) → length devices ≡ length old.channels.items → EntersAt (Gone (at + 1) true) reply (bench ahead devices) (bench new devices)
  pub places : length new.channels.items ≡ length old.channels.items
  pub spares : Spares at old new
  pub left : IsLeft at new
  pub waiting : (k l : Channel) → slice_get old.channels.items at ≡ Some k → slice_get new.channels.items at ≡ Some l → l.waiting ≡ k.waiting

-- the next message is offered to the device at a place
pub record OffersAt (at : ℕ) (old : Driver) (before : List Meaning) (new : Driver) (after : List Meaning) : Type 0 where
  pub fits : Fits new after
  pub carried : Carried (bench old before) (bench new after)
  pub spares : Spares at old new
  pub taken : IsQuiet old → IsTaken at old → IsTaken at new

-- ---- all of it

-- messages are taken out for the device at a place, and offered to it
pub record Delivers (at : ℕ) (old : Driver) (before : List Meaning) (new : Driver) (after : List Meaning) : Type 0 where
  pub fits : Fits new after
  pub carried : Carried (bench old before) (bench new after)
  pub spares : Spares at old new
  pub taken : IsQuiet old → IsTaken at new

-- how many messages are to be offered
abbrev pub left_in : Option Channel → ℕ
left_in (Some k) = length k.to
left_in None = 0

abbrev pub offers_left : ℕ → Driver → ℕ
offers_left at driver = left_in (slice_get driver.channels.items at)

-- the device took a message in, and others may be offered
pub record MayGoOn (at : ℕ) (old new : Driver) : Type 0 where
  pub plugged : HasStage at Live new
  pub can : CanOffer at new
  pub fewer : offers_left at new < offers_left at old

-- by whether the device took a message in; else it was left
abbrev pub GoesOn : Bool → ℕ → Driver → Driver → Type 0
GoesOn true at old new = MayGoOn at old new
GoesOn false at old new = IsLeft at new

-- ---- at first

pub record IsUnused (k : Channel) : Type 0 where
  pub stage : k.inbound.stage ≡ Unopened
  pub to : k.to ≡ []
  pub from : k.inbound.from.stream ≡ beginning
  pub waiting : k.waiting ≡ 0
