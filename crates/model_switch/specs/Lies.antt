-- Which turn appends more than its answer.
use Rattle.std.specs.Prelude.{◌≡◌, ℕ, false, ◌==◌, if◌then◌else◌, List, [], ◌++◌, None}
use Rattle.maple_base.specs.Counts.{next_count}
use Rattle.maple_base.specs.declared.device.Turned.{Turned}
use Rattle.maple_base.specs.declared.device.Turned.TheVariants.{NoMemory as NoMemoryTurn}
use Rattle.device_port.specs.Devices.{Meaning}
use Rattle.model_switch.specs.declared.liar.Liar.{Liar}
use Rattle.model_switch.specs.States.{State, TurnsAt, meaning_of}

-- what a device means that is such a switch, and doesn't keep the specification, for what it says
abbrev pub lying : State → Meaning
lying s = record (meaning_of 0 None s) { keeps = false }

-- so many turns were answered: what the next one appends behind its answer
abbrev pub lie_of : Liar → List ℕ
lie_of a = if next_count a.turns == a.at then a.bytes.items else []

-- the turn that the inner device takes, with these bytes behind what it answers; where memory runs out, nothing
abbrev pub TurnsWith : List ℕ → State → Turned → List ℕ → State → Type 0
TurnsWith lie s NoMemoryTurn bytes t = (bytes ≡ []) × (t ≡ s)
TurnsWith lie s answer bytes t = (said : List ℕ) × (bytes ≡ said ++ lie) × TurnsAt 0 s answer said t

-- the bytes, their turn and the count stay
pub record SameTurns (old new : Liar) : Type 0 where
  pub bytes : new.bytes.items ≡ old.bytes.items
  pub at : new.at ≡ old.at
  pub turns : new.turns ≡ old.turns

-- each turn counts, but for one without memory
pub record CountsTurns (answer : Turned) (old new : Liar) : Type 0 where
  pub bytes : new.bytes.items ≡ old.bytes.items
  pub at : new.at ≡ old.at
  pub lacking : answer ≡ NoMemoryTurn → new.turns ≡ old.turns
  pub counted : (answer ≡ NoMemoryTurn → ⊥) → new.turns ≡ next_count old.turns
