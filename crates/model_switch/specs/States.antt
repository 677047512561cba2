-- What is seen of a model switch, and what its calls do.
use Rattle.std.specs.Prelude.{◌≡◌, ℕ, ◌<◌, ◌-◌, suc, max, Bool, true, false, if◌then◌else◌, List, [], ◌∷◌, ◌++◌, length, Option, Some}
use Rattle.maple_base.specs.declared.device.Turned.{Turned}
use Rattle.maple_base.specs.declared.device.Turned.TheVariants.{Nothing, Refused, Failed as FailedTurn, NoMemory as NoMemoryTurn}
use Rattle.flow_table.specs.Tables.{Entries}
use Rattle.of10_codec.specs.declared.message.Message.{Message}
use Rattle.device_port.specs.declared.device.Took.{Took}
use Rattle.device_port.specs.declared.device.Took.TheVariants.{Taken, Failed as FailedOffer, NoMemory as NoMemoryOffer}
use Rattle.device_port.specs.Switches.{is_barrier, is_flow_mod, message as said}
use Rattle.device_port.specs.Devices.{Meaning, Call, IsOffer}
use Rattle.model_switch.specs.Answers.{Carries, refusal, IsWritten}

-- its datapath id, how many ports it has, its flow table, and the messages that wait, in order
pub record State : Type 0 where
  pub dpid : ℕ
  pub ports : ℕ
  pub table : Entries
  pub pending : List Message

abbrev pub opened : ℕ → ℕ → ℕ → State
opened dpid ports capacity = record { dpid = dpid; ports = ports; table = record { rules = []; capacity = capacity }; pending = [] }

-- how many messages stand ahead of the first barrier
abbrev pub free_count : List Message → ℕ
free_count [] = 0
free_count (m ∷ ms) = if is_barrier m.body then 0 else suc (free_count ms)

-- a message at this place may be next: it stands ahead of the first barrier, or first
abbrev pub IsNext : ℕ → List Message → Type 0
IsNext place pending = place < max 1 (free_count pending)

-- the last place ahead of the first barrier, or the first
abbrev pub last_free : List Message → ℕ
last_free pending = max 1 (free_count pending) - 1

-- the message is put behind the others
pub record Accepts (bytes : List ℕ) (s t : State) : Type 0 where
  pub offered : Message
  pub is : IsOffer offered bytes
  pub now_is : t ≡ record s { pending = s.pending ++ offered ∷ [] }

abbrev pub IsOffered : List ℕ → Took → State → State → Type 0
IsOffered bytes Taken s t = Accepts bytes s t
IsOffered bytes FailedOffer s t = ⊥
IsOffered bytes NoMemoryOffer s t = t ≡ s

-- the message at this place is dealt with, and goes
pub record DealsAt (place : ℕ) (s : State) (answer : Turned) (bytes : List ℕ) (t : State) : Type 0 where
  pub message : Message
  pub ahead : List Message
  pub behind : List Message
  pub stands : s.pending ≡ ahead ++ message ∷ behind
  pub at : length ahead ≡ place
  pub carries : Carries s.dpid s.ports message s.table answer bytes t.table
  pub now_is : t ≡ record s { table = t.table; pending = ahead ++ behind }

-- a turn that takes the message at this place
abbrev pub TurnsAt : ℕ → State → Turned → List ℕ → State → Type 0
TurnsAt place s Nothing bytes t = (s.pending ≡ []) × (bytes ≡ []) × (t ≡ s)
TurnsAt place s FailedTurn bytes t = ⊥
TurnsAt place s NoMemoryTurn bytes t = (bytes ≡ []) × (t ≡ s)
TurnsAt place s answer bytes t = DealsAt place s answer bytes t

-- the first message is a flow mod
abbrev pub is_mod_first : List Message → Bool
is_mod_first [] = false
is_mod_first (m ∷ ms) = is_flow_mod m.body

-- the first message is a flow mod and goes, by the ERROR of a full table with its id; the table stays
pub record RefusesMod (xid : ℕ) (s : State) (bytes : List ℕ) (t : State) : Type 0 where
  pub message : Message
  pub behind : List Message
  pub first : s.pending ≡ message ∷ behind
  pub change : is_flow_mod message.body ≡ true
  pub id : xid ≡ message.xid
  pub says : IsWritten (Some (said message.xid refusal)) bytes
  pub now_is : t ≡ record s { pending = behind }

-- a turn that refuses the first message, unless memory ran out
abbrev pub RefusesFirst : State → Turned → List ℕ → State → Type 0
RefusesFirst s (Refused xid) bytes t = RefusesMod xid s bytes t
RefusesFirst s NoMemoryTurn bytes t = (bytes ≡ []) × (t ≡ s)
RefusesFirst s answer bytes t = ⊥

-- what a device means that is such a switch, with this count of faults, and these calls where it tells them
abbrev pub meaning_of : ℕ → Option (List Call) → State → Meaning
meaning_of faults log s = record { table = s.table.rules; pending = s.pending; dpid = s.dpid; keeps = true; faults = faults; log = log }
