-- How the session of a device stands, and what opens and ends it.
use Rattle.std.specs.Prelude.{◌≡◌, ℕ, Bool, false, Some}
use Rattle.std.specs.List.{slice_get}
use Rattle.world_steps.specs.Worlds.{lacks_memory}
use Rattle.machine_desk.specs.declared.inbound.Inbound.{Inbound}
use Rattle.machine_desk.specs.declared.inbound.Stage.{Stage}
use Rattle.machine_desk.specs.Desks.{DeskView}
use Rattle.machine_desk.specs.Hearing.{Closes, Opens}
use Rattle.machine_desk.specs.Connections.{Moves}
use Rattle.sim_channels.specs.declared.channel.Channel.{Channel}
use Rattle.sim_channels.specs.declared.driver.Driver.{Driver}
use Rattle.sim_channels.specs.Channels.{places, with_inbound}

-- the channel with this index has this stage
pub record HasStage (at : ℕ) (stage : Stage) (driver : Driver) : Type 0 where
  pub channel : Channel
  pub there : slice_get driver.channels.items at ≡ Some channel
  pub is : channel.inbound.stage ≡ stage

-- a session was opened for the device with this index, or the device is left as the machine had no place for it
abbrev pub OpensAt : ℕ → Driver → Driver → Type 0
OpensAt at old new = Moves places with_inbound at Opens old new

-- a session was ended at the desk, and that takes no memory
abbrev pub ClosesWell : Bool → DeskView → Inbound → DeskView → Inbound → Type 0
ClosesWell fault a i b j = (closes : Closes fault a i b j) × (lacks_memory closes.reply ≡ false)

-- the session of the device with this index was ended, as its link failed or not
abbrev pub ClosesAt : ℕ → Bool → Driver → Driver → Type 0
ClosesAt at fault old new = Moves places with_inbound at (ClosesWell fault) old new
