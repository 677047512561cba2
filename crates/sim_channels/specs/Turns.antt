-- Which devices have a message to deal with, and what a turn of one leaves of its channel.
use Rattle.std.specs.Prelude.{◌≡◌, ℕ, ◌+◌, ◌<◌, Bool, nat_lt, ◌&&◌, List, set, Some}
use Rattle.std.specs.List.{slice_get}
use Rattle.machine_desk.specs.Hearing.{Feeds, IsSameSession, is_live}
use Rattle.sim_channels.specs.declared.channel.Channel.{Channel}
use Rattle.machine_desk.specs.declared.inbound.Stage.TheVariants.{Live}
use Rattle.sim_channels.specs.declared.driver.Driver.{Driver}

-- a message waits in the device with this index, whose session is open
pub record Waits (at : ℕ) (driver : Driver) : Type 0 where
  pub channel : Channel
  pub there : slice_get driver.channels.items at ≡ Some channel
  pub plugged : channel.inbound.stage ≡ Live
  pub some : 0 < channel.waiting

abbrev pub waits_in : Channel → Bool
waits_in k = is_live k.inbound.stage && nat_lt 0 k.waiting

-- no message waits in any device ahead of the one with this index
abbrev pub NoneBefore : ℕ → Driver → Type 0
NoneBefore at driver = (i : ℕ) → i < at → Waits i driver → ⊥

-- this is the first device in which a message waits
pub record IsLowest (at : ℕ) (driver : Driver) : Type 0 where
  pub waits : Waits at driver
  pub lowest : NoneBefore at driver

-- the channel with this index changes so, and the others stay
pub record ChannelMoves (at : ℕ) (Moves : Channel → Channel → Type 0) (old new : Driver) : Type 0 where
  pub before : Channel
  pub behind : Channel
  pub there : slice_get old.channels.items at ≡ Some before
  pub set_is : new.channels.items ≡ set old.channels.items at behind
  pub moves : Moves before behind

-- these bytes came from the device, and one message less waits in it
pub record Appends (bytes : List ℕ) (k l : Channel) : Type 0 where
  pub feeds : Feeds bytes k.inbound l.inbound
  pub to : l.to ≡ k.to
  pub waiting : k.waiting ≡ l.waiting + 1

-- of a channel only where its bytes are stored changes
pub record IsUnmoved (k l : Channel) : Type 0 where
  pub stream : l.inbound.from.stream ≡ k.inbound.from.stream
  pub session : IsSameSession k.inbound l.inbound
  pub to : l.to ≡ k.to
  pub waiting : l.waiting ≡ k.waiting
