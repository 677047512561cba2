-- What hearing leaves of the channels.
use Rattle.std.specs.Prelude.{◌≡◌, ℕ, length, Some}
use Rattle.std.specs.List.{slice_get}
use Rattle.machine_desk.specs.Connections.{OthersStay}
use Rattle.sim_channels.specs.declared.channel.Channel.{Channel}
use Rattle.sim_channels.specs.declared.driver.Driver.{Driver}
use Rattle.sim_channels.specs.Channels.{places}

-- at one place the stream of what came goes on, and the session may end; of it nothing else changes, and nothing of other channels
pub record KeepsChannels (here : ℕ) (old new : Driver) : Type 0 where
  pub count : length new.channels.items ≡ length old.channels.items
  pub others : OthersStay places here old new
  pub waiting : (k l : Channel) → slice_get old.channels.items here ≡ Some k → slice_get new.channels.items here ≡ Some l → l.waiting ≡ k.waiting
