-- Words for private contracts: a turn of a device among the others, some turns one after the other.
use Rattle.std.specs.Prelude.{◌≡◌, ◌≢◌, ℕ, ◌+◌, ◌<◌, if◌then◌else◌, List, [], ◌∷◌, ◌++◌, set, Some}
use Rattle.std.specs.List.{slice_get, AllByRecursion}
use Rattle.maple_base.specs.declared.device.Turned.{Turned}
use Rattle.maple_base.specs.declared.device.Turned.TheVariants.{Processed, Refused as RefusedChange, Failed as FailedTurn, NoMemory as NoMemoryTurn}
use Rattle.device_port.specs.Devices.{Meaning, Turns}
use Rattle.sim_steps.specs.Benches.{Bench}
use Rattle.sim_steps.specs.Deeds.{Event}
use Rattle.sim_steps.specs.Parts.{IsTurnAt, has_dealt, turns_taken}
use Rattle.sim_steps.specs.Stretches.{BreaksOff, Stretch}
use Rattle.machine_desk.specs.Hearing.{is_live}
use Rattle.sim_channels.specs.Channels.{Fits, bench}
use Rattle.sim_channels.specs.declared.channel.Channel.{Channel}
use Rattle.sim_channels.specs.declared.driver.Driver.{Driver}
use Rattle.sim_turns.specs.Turning.{TakesOne}

-- ---- which devices have a message to deal with

-- how many sessions are open
abbrev pub plugged_count : List Channel → ℕ
plugged_count [] = 0
plugged_count (k ∷ ks) = (if is_live k.inbound.stage then 1 else 0) + plugged_count ks

-- no session was opened, and one ended behind a turn in which no message was dealt with
abbrev pub Tires : Turned → Driver → Driver → Type 0
Tires turned old new = plugged_count new.channels.items < plugged_count old.channels.items + has_dealt turned

-- ---- one turn

-- the device with this index takes a turn, and the others stay
pub record TurnsAt (at : ℕ) (turned : Turned) (bytes : List ℕ) (old new : List Meaning) : Type 0 where
  pub before : Meaning
  pub behind : Meaning
  pub there : slice_get old at ≡ Some before
  pub set_is : new ≡ set old at behind
  pub turns : Turns turned bytes before behind

-- so it does, and appends to these bytes; memory doesn't run out
pub record TakesTurnAt (at : ℕ) (turned : Turned) (before : List Meaning) (ahead : List ℕ) (behind : List Meaning) (all : List ℕ) : Type 0 where
  pub bytes : List ℕ
  pub appended : all ≡ ahead ++ bytes
  pub turns : TurnsAt at turned bytes before behind
  pub memory : turned ≢ NoMemoryTurn

-- a turn in which a message was dealt with, or the device failed
abbrev pub IsTaken : Turned → Type 0
IsTaken (Processed xid) = Unit {0}
IsTaken (RefusedChange xid) = Unit {0}
IsTaken FailedTurn = Unit {0}
IsTaken turned = ⊥

-- the device with this index takes a turn, and what that brings about is done
abbrev pub TakesOneBy : ℕ → Turned → Driver → List Meaning → Driver → List Meaning → Type 0
TakesOneBy at turned old before new behind = TakesOne (at + 1) turned (bench old before) (bench new behind)

-- what a turn of a device brings about at once
pub record IsTold (at : ℕ) (turned : Turned) (old new : Driver) (before behind : List Meaning) : Type 0 where
  pub fits : Fits new behind
  pub one : TakesOneBy at turned old before new behind

-- so it is, whatever the devices are
abbrev pub ToldOver : ℕ → Turned → List ℕ → Driver → Driver → Type 0
ToldOver at turned bytes old new =
    (before behind : List Meaning) → Fits old before → TurnsAt at turned bytes before behind → IsTold at turned old new before behind

-- a turn was taken, and how far it was told
abbrev pub BrokenOver : ℕ → Turned → List ℕ → Driver → Driver → Type 0
BrokenOver at turned bytes old new =
    (before behind : List Meaning) → Fits old before → TurnsAt at turned bytes before behind → BreaksOff (bench old before) new.desk.past

-- ---- several turns

-- turns of devices, of each of which P holds; in so many of them a message was dealt with
pub record TakesSome (P : Event → Type 0) (taken : ℕ) (a b : Bench) : Type 0 where
  pub turns : List Event
  pub stretch : Stretch turns [] a b
  pub all : AllByRecursion P turns
  pub count : turns_taken turns ≡ taken

-- so many turns of the device with this index
abbrev pub TakesTurnsBy : ℕ → ℕ → Driver → List Meaning → Driver → List Meaning → Type 0
TakesTurnsBy at taken old before new behind = TakesSome (IsTurnAt (at + 1)) taken (bench old before) (bench new behind)
