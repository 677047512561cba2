-- What keeps what is known of a place of which nothing is left to do.
use Rattle.std.specs.Prelude.{◌≡◌, ◌⊎◌, ℕ, ◌+◌, List}
use Rattle.std.specs.List.{slice_get}
use Rattle.device_port.specs.Devices.{Meaning}
use Rattle.machine_steps.specs.Machine.{session_at}
use Rattle.sim_steps.specs.Benches.{IsSolo}
use Rattle.sim_steps.specs.Parts.{IsCalm, IsStill}
use Rattle.sim_channels.specs.declared.driver.Driver.{Driver}
use Rattle.sim_channels.specs.Channels.{IsKept, IsSame, OthersDid, WorksAlone, bench}
use Rattle.sim_channels.specs.Waiting.{IsAtRest, IsAtRestBut, IsDone, IsHeard, IsLeft, IsOffered, IsTaken, NoneWaits, StaysBut}

-- it holds of a place as long as the channel stays as it is
abbrev pub StandsByChannel : (ℕ → Driver → Type 0) → Type 0
StandsByChannel Holds = (at : ℕ) (old new : Driver) → slice_get new.channels.items at ≡ slice_get old.channels.items at → Holds at old → Holds at new

-- nothing is left to do at this place
pub record NothingIsLeft (at : ℕ) (driver : Driver) : Type 0 where
  pub taken : IsTaken at driver
  pub offered : IsOffered at driver
  pub heard : IsHeard at driver

-- something was done at one place, where all is offered then, and, where the driver works alone, no packet waits and all was taken out
pub record DoesAt (here : ℕ) (old new : Driver) : Type 0 where
  pub kept : IsKept new
  pub same : IsSame old new
  pub others : StaysBut (WorksAlone old) here old new
  pub jobs : WorksAlone old → NoneWaits new.desk
  pub taken : WorksAlone old → IsTaken here new
  pub offered : IsOffered here new

pub record RestingLaws : Type 0 where
  -- what leaves the session of a device as it is gives the machine no message for it
  pub taken :
      (at : ℕ) (old new : Driver) → IsKept old → IsKept new → session_at (at + 1) new.desk.now ≡ session_at (at + 1) old.desk.now
      → IsTaken at old → IsTaken at new
  -- what was offered and what was heard stay so as long as the channel does
  pub offered : StandsByChannel IsOffered
  pub heard : StandsByChannel IsHeard
  -- for a device that was left there is nothing to do
  pub left : (at : ℕ) (driver : Driver) → IsLeft at driver → NothingIsLeft at driver
  -- what is done at one place gives the others nothing to do
  pub beside : (here : ℕ) (old new : Driver) → IsKept old → IsAtRestBut here old → DoesAt here old new → IsAtRestBut here new
  -- to be at rest is to be so but for what came from a place, and to have heard that
  pub but : (here : ℕ) (driver : Driver) → IsAtRest driver → IsAtRestBut here driver
  pub all : (here : ℕ) (driver : Driver) → IsAtRestBut here driver → IsHeard here driver → IsAtRest driver
  -- what others do gives a driver nothing to do
  pub others : (old new : Driver) → IsKept old → OthersDid old new → IsAtRest old → IsAtRest new
  pub done : (old new : Driver) → IsKept old → OthersDid old new → IsDone old → IsDone new
  -- the bench of a driver at rest is calm, and still where all is done, as it is where nobody can work beside
  pub calm : (driver : Driver) (devices : List Meaning) → IsKept driver → IsAtRest driver → IsCalm (bench driver devices)
  pub still :
      (driver : Driver) (devices : List Meaning)
      → IsKept driver → IsAtRest driver → IsSolo driver.desk.now ⊎ IsDone driver → IsStill (bench driver devices)
