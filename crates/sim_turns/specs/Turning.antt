-- What is done when a script asks for an entry, and when a device takes a turn; and what others may do ahead of either.
use Rattle.std.specs.Prelude.{◌≡◌, ℕ, List, [], ◌∷◌}
use Rattle.maple_base.specs.declared.device.Turned.{Turned}
use Rattle.device_port.specs.Devices.{Meaning}
use Rattle.device_port.specs.Devices.Call.{Turning}
use Rattle.machine_steps.specs.declared.entry.Entry.{Entry}
use Rattle.machine_steps.specs.declared.entry.Entry.TheVariants as entries
use Rattle.machine_steps.specs.declared.note.Note.{Note}
use Rattle.machine_steps.specs.declared.reply.Reply.{Reply}
use Rattle.machine_steps.specs.declared.reply.Reply.TheVariants.{Done}
use Rattle.sim_steps.specs.Benches.{Bench, IsSolo, is_plugged}
use Rattle.sim_steps.specs.Deeds.{Deed, Event}
use Rattle.sim_steps.specs.Deeds.Deed.{Enters, Calls}
use Rattle.sim_steps.specs.Stretches.{Stretch}
use Rattle.sim_channels.specs.Channels.{Fits, bench}
use Rattle.sim_channels.specs.declared.driver.Driver.{Driver}

-- what others did leaves the places as they are, and which sessions are open; where nobody works beside there are no others
pub record IsAside (a b : Bench) : Type 0 where
  pub slots : b.slots ≡ a.slots
  pub sessions : (c : ℕ) → is_plugged c b.machine ≡ is_plugged c a.machine
  pub alone : IsSolo a.machine → b ≡ a

-- this entry alone, with this reply, was asked for, behind what others did
pub record IsAsked (entry : Entry) (reply : Reply) (a b : Bench) : Type 0 where
  pub event : Event
  pub stretch : Stretch (event ∷ []) [] a b
  pub before : IsAside a event.before
  pub deed : event.deed ≡ Enters entry reply

abbrev pub noting : Note → Deed
noting note = Enters (entries.Note note) Done

-- so a note was told, whatever the devices are
abbrev pub ToldSo : Note → Driver → Driver → Type 0
ToldSo note old new = (devices : List Meaning) → Fits old devices → IsAsked (entries.Note note) Done (bench old devices) (bench new devices)

-- the channels are still those of the devices
abbrev pub FitsStill : Driver → Driver → Type 0
FitsStill old new = (devices : List Meaning) → Fits old devices → Fits new devices

-- the device at a place takes a turn, behind what others did
pub record TakesOne (c : ℕ) (turned : Turned) (a b : Bench) : Type 0 where
  pub event : Event
  pub bytes : List ℕ
  pub reply : Reply
  pub stretch : Stretch (event ∷ []) [] a b
  pub before : IsAside a event.before
  pub deed : event.deed ≡ Calls c (Turning turned bytes) reply
