-- What is left to do at a place, of those whose session is open: what the machine has for the device, what was taken out for it, what came from it.
use Rattle.std.specs.Prelude.{◌≡◌, ℕ, ◌+◌, []}
use Rattle.machine_desk.specs.Connections.{IsDone as IsDoneAt, IsOver, IsTaken as IsTakenAt, OthersStay, WhileLive}
use Rattle.machine_desk.specs.Homes.{IsQuiet as IsQuietAt, LeavesNone}
pub use Rattle.machine_desk.specs.Homes.{NoneWaits}
use Rattle.machine_steps.specs.Machine.{session_at}
use Rattle.sim_steps.specs.Parts.{IsHeardOut}
use Rattle.sim_channels.specs.declared.channel.Channel.{Channel}
use Rattle.sim_channels.specs.declared.driver.Driver.{Driver}
use Rattle.sim_channels.specs.Channels.{WorksAlone, home, places}

-- it holds of the channel with this index, where its session is open
abbrev pub WhilePlugged : (Channel → Type 0) → ℕ → Driver → Type 0
WhilePlugged P at driver = WhileLive places P at driver

-- all that the machine has for the device was taken out
abbrev pub IsTaken : ℕ → Driver → Type 0
IsTaken at driver = IsTakenAt places at driver

-- all that was taken out was offered
abbrev pub IsOffered : ℕ → Driver → Type 0
IsOffered at driver = WhilePlugged (λ k. k.to ≡ []) at driver

-- all that came was heard
abbrev pub IsHeard : ℕ → Driver → Type 0
IsHeard at driver = WhilePlugged (λ k. IsHeardOut k.inbound.from.stream) at driver

-- the device with this index was left, or never had a place: its session is over
abbrev pub IsLeft : ℕ → Driver → Type 0
IsLeft at driver = IsOver places at driver

-- ---- the machine

-- no packet waits, and all was taken out
abbrev pub IsDone : Driver → Type 0
IsDone driver = IsDoneAt places driver

-- nobody changes the machine but the driver: there is nobody, or no packet waits that somebody could answer
abbrev pub IsQuiet : Driver → Type 0
IsQuiet driver = IsQuietAt home driver

-- ---- the driver

-- the driver has nothing left to do: what came was heard, what was taken out was offered; where it works alone, the machine has nothing left either
pub record IsAtRest (driver : Driver) : Type 0 where
  pub done : WorksAlone driver → IsDone driver
  pub offered : (at : ℕ) → IsOffered at driver
  pub heard : (at : ℕ) → IsHeard at driver

-- nothing is left to do but to take out and offer
pub record IsHeardThrough (driver : Driver) : Type 0 where
  pub jobs : LeavesNone home driver
  pub offered : (at : ℕ) → IsOffered at driver
  pub heard : (at : ℕ) → IsHeard at driver

-- nothing is left to do but to hear what came from this place
pub record IsAtRestBut (here : ℕ) (driver : Driver) : Type 0 where
  pub done : WorksAlone driver → IsDone driver
  pub offered : (at : ℕ) → IsOffered at driver
  pub heard : (at : ℕ) → (at ≡ here → ⊥) → IsHeard at driver

-- all other places are as they were; the machine's part of that where this holds
pub record StaysBut (Where : Type 0) (here : ℕ) (old new : Driver) : Type 0 where
  pub sessions : Where → (c : ℕ) → (c ≡ here + 1 → ⊥) → session_at c new.desk.now ≡ session_at c old.desk.now
  pub channels : OthersStay places here old new
