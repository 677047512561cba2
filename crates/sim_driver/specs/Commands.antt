-- What is done of an order, ahead of what that brings about.
use Rattle.std.specs.Prelude.{◌≡◌, ℕ, List, [], ◌∷◌}
use Rattle.maple_base.specs.declared.device.Seen.{Seen}
use Rattle.device_port.specs.Devices.{Meaning}
use Rattle.device_port.specs.Devices.Call.{Looking}
use Rattle.machine_steps.specs.declared.entry.Entry.{Entry}
use Rattle.machine_steps.specs.declared.reply.Reply.{Reply}
use Rattle.script_text.specs.Orders.{Order}
use Rattle.sim_steps.specs.Benches.{Bench}
use Rattle.sim_steps.specs.Deeds.{Event}
use Rattle.sim_steps.specs.Deeds.Deed.{Calls}
use Rattle.sim_steps.specs.Parts.{RenewsBy}
use Rattle.sim_steps.specs.Stretches.{Obeyed, Stretch}
use Rattle.sim_channels.specs.Channels.{Fits, IsKept, IsSame, bench}
use Rattle.sim_channels.specs.declared.driver.Driver.{Driver}
use Rattle.sim_channels.specs.Waiting.{IsQuiet, NoneWaits, StaysBut}
use Rattle.sim_channels.specs.Hearing.{KeepsChannels}
use Rattle.sim_turns.specs.Turning.{IsAside, IsAsked}

-- at one place a session was opened or ended, and all others are as they were
pub record IsChanged (at : ℕ) (old new : Driver) : Type 0 where
  pub kept : IsKept new
  pub stays : StaysBut (IsQuiet old) at old new
  pub channels : KeepsChannels at old new
  pub jobs : NoneWaits old.desk → NoneWaits new.desk
  pub same : IsSame old new

-- an entry alone was asked for
abbrev pub AsksFor : Entry → Driver → Driver → Type 0
AsksFor entry old new = (devices : List Meaning) → Fits old devices → (reply : Reply) × IsAsked entry reply (bench old devices) (bench new devices)

-- another policy alone was asked for, or to tell why a text is of none
abbrev pub AsksToRenew : List ℕ → Driver → Driver → Type 0
AsksToRenew text old new = RenewsBy text (λ (entry : Entry). AsksFor entry old new)

-- a driver over devices obeyed an order, and these stand behind it
abbrev pub ObeyedBy : Order → Driver → List Meaning → Driver → List Meaning → Type 0
ObeyedBy o old before new after = Obeyed o (bench old before) (bench new after)

-- an order was obeyed, whatever the devices are
abbrev pub ObeyedOver : Order → Driver → Driver → Type 0
ObeyedOver o old new = (devices : List Meaning) → Fits old devices → Obeyed o (bench old devices) (bench new devices)

-- a frame came to a device, behind what others did; its session ended where it failed
pub record Looked (c port : ℕ) (frame : List ℕ) (a b : Bench) : Type 0 where
  pub event : Event
  pub stretch : Stretch (event ∷ []) [] a b
  pub before : IsAside a event.before
  pub seen : Seen
  pub bytes : List ℕ
  pub reply : Reply
  pub deed : event.deed ≡ Calls c (Looking port frame seen bytes) reply
