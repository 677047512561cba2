-- What a device means, and what its calls do: a switch behind its connection, as the program sees it.
use Rattle.std.specs.Prelude.{◌≡◌, ◌⊎◌, ℕ, ◌+◌, ◌≤◌, Bool, true, false, List, [], ◌∷◌, ◌++◌, length, Option, Some, None, Result, Ok, Err, Contains}
use Rattle.std.specs.List.{AllByRecursion}
use Rattle.maple_base.specs.Counts.{HasRisen}
use Rattle.maple_base.specs.Ports.{controller_port}
use Rattle.maple_base.specs.Choice.{fits, MayChoose}
use Rattle.maple_base.specs.declared.key.Key.{Key}
use Rattle.maple_base.specs.declared.decision.Rule.{Rule}
use Rattle.maple_base.specs.declared.device.Turned.{Turned}
use Rattle.maple_base.specs.declared.device.Turned.TheVariants.{Nothing, Processed, Refused, Failed as FailedTurn, NoMemory as NoMemoryTurn}
use Rattle.maple_base.specs.declared.device.Seen.{Seen}
use Rattle.maple_base.specs.declared.device.Seen.TheVariants.{Hit, Miss, Failed as FailedLook, NoMemory as NoMemoryLook}
use Rattle.of10_codec.specs.declared.message.Message.{Message}
use Rattle.of10_codec.specs.declared.message.Body.{Body}
use Rattle.of10_codec.specs.declared.message.Body.TheVariants.{Hello, Error, EchoReply, FeaturesRequest, SetConfig, PacketIn, PacketOut, FlowMod, BarrierRequest}
use Rattle.of10_codec.specs.Messages.{Spelled}
use Rattle.of10_codec.specs.Written.{written}
use Rattle.packet_key.specs.Frames.{key_of}
use Rattle.packet_key.specs.declared.malformed.Malformed.{Malformed}
use Rattle.device_port.specs.declared.device.Took.{Took}
use Rattle.device_port.specs.declared.device.Took.TheVariants.{Taken, Failed as FailedOffer, NoMemory as NoMemoryOffer}
use Rattle.device_port.specs.Switches.{Switch, Step, Process, Refuse, Answer, Does, IsFree, change_of}

-- a call, with what was given to it, its answer, and the bytes that it appended
pub data Call : Type 0 where
  Offered : List ℕ → Took → Call
  Turning : Turned → List ℕ → Call
  Looking : ℕ → List ℕ → Seen → List ℕ → Call

-- its flow table, the messages that wait in it, its datapath id, whether it keeps the specification, how often it failed, and its calls where it tells them
pub record Meaning : Type 0 where
  pub table : List Rule
  pub pending : List Message
  pub dpid : ℕ
  pub keeps : Bool
  pub faults : ℕ
  pub log : Option (List Call)

abbrev pub with_call : Call → Option (List Call) → Option (List Call)
with_call call (Some calls) = Some (calls ++ call ∷ [])
with_call call None = None

-- ---- what holds of each device

-- of each call that is answered: what never changes, and the call stands behind the others
pub record Tells (call : Call) (m n : Meaning) : Type 0 where
  pub dpid : n.dpid ≡ m.dpid
  pub keeps : n.keeps ≡ m.keeps
  pub log : n.log ≡ with_call call m.log

-- a call that doesn't fail leaves the count of faults as it was
pub record Goes (call : Call) (m n : Meaning) : Type 0 where
  pub tells : Tells call m n
  pub spared : n.faults ≡ m.faults

-- a call that fails: the count has risen, and table and messages are as before
pub record Fails (call : Call) (m n : Meaning) : Type 0 where
  pub tells : Tells call m n
  pub later : m.faults ≤ n.faults
  pub risen : HasRisen m.faults n.faults
  pub table : n.table ≡ m.table
  pub pending : n.pending ≡ m.pending

-- ---- what holds of one that keeps the specification

abbrev pub switch_of : Meaning → Switch
switch_of m = record { dpid = m.dpid; table = m.table; pending = m.pending; sent = [] }

-- bytes that spell these messages, one behind the other
abbrev pub Spell : List Message → List ℕ → Type 0
Spell [] bytes = bytes ≡ []
Spell (m ∷ ms) bytes = (front rest : List ℕ) × (bytes ≡ front ++ rest) × Spelled m front × Spell ms rest

-- the bytes spell these messages, among others that a switch may send at any moment
pub record SpellAmongFree (ms : List Message) (bytes : List ℕ) : Type 0 where
  pub ahead : List Message
  pub behind : List Message
  pub free_ahead : AllByRecursion IsFree ahead
  pub free_behind : AllByRecursion IsFree behind
  pub spell : Spell (ahead ++ ms ++ behind) bytes

-- one step of its switch, and what is appended spells what that step sends
pub record Steps (step : Step) (bytes : List ℕ) (m n : Meaning) : Type 0 where
  pub behind : Switch
  pub does : Does step (switch_of m) behind
  pub table : n.table ≡ behind.table
  pub pending : n.pending ≡ behind.pending
  pub spell : SpellAmongFree behind.sent bytes

-- a message of this id was processed, or, where it is a barrier, answered
abbrev pub ProcessesOne : ℕ → List ℕ → Meaning → Meaning → Type 0
ProcessesOne xid bytes m n = (x : Message) × (x.xid ≡ xid) × (Steps (Process x) bytes m n ⊎ Steps (Answer x) bytes m n)

-- a change of this id was refused
abbrev pub RefusesOne : ℕ → List ℕ → Meaning → Meaning → Type 0
RefusesOne xid bytes m n = (x : Message) × (x.xid ≡ xid) × Steps (Refuse x) bytes m n

-- one of the messages is a packet that came to the controller
abbrev pub HasPacketIn : List Message → Type 0
HasPacketIn ms =
    (x : Message) × Contains ms x × (buffer total in_port reason : ℕ) × (bytes : List ℕ) × (x.body ≡ PacketIn buffer total in_port reason bytes)

-- why a packet comes to the controller: no rule fits, or a rule sends it (5.4.1, ofp_packet_in_reason)
abbrev pub no_rule : ℕ
no_rule = 0

abbrev pub by_rule : ℕ
by_rule = 1

-- a rule may be chosen that sends to the controller alone; no rule fits
abbrev pub SendsUp : List Rule → Key → Type 0
SendsUp table k = (r : Rule) × MayChoose table k r × (r.actions ≡ controller_port ∷ [])

abbrev pub FitsNone : List Rule → Key → Type 0
FitsNone table k = (r : Rule) → Contains table r → fits r k ≡ false

-- the look-up of a frame's key: a rule may be chosen whose actions these are, or the packet goes to the controller; a frame without a key fits no rule
abbrev pub LooksAt : List Rule → Result Key Malformed → Seen → Type 0
LooksAt table (Ok k) (Hit actions) = (r : Rule) × MayChoose table k r × (r.actions ≡ actions) × (actions ≡ controller_port ∷ [] → ⊥)
LooksAt table (Ok k) (Miss reason) = ((reason ≡ by_rule) × SendsUp table k) ⊎ ((reason ≡ no_rule) × FitsNone table k)
LooksAt table (Err fault) (Miss reason) = reason ≡ no_rule
LooksAt table key seen = ⊥

abbrev pub IsMiss : Seen → Type 0
IsMiss (Miss reason) = Unit {0}
IsMiss seen = ⊥

-- a frame is looked up, nothing changes, and what is appended is of the switch's own accord, at a miss a packet for the controller among it
pub record Looks (port : ℕ) (frame : List ℕ) (seen : Seen) (bytes : List ℕ) (m n : Meaning) : Type 0 where
  pub found : LooksAt m.table (key_of port frame) seen
  pub table : n.table ≡ m.table
  pub pending : n.pending ≡ m.pending
  pub sent : List Message
  pub free : AllByRecursion IsFree sent
  pub spell : Spell sent bytes
  pub tells : IsMiss seen → HasPacketIn sent

-- ---- the calls, by cases of the answer

-- a message that the controller sends: a HELLO, an ERROR, a reply to an echo, a request for features, a configuration, a packet, a change of the flow table, a barrier
abbrev pub IsOfController : Body → Type 0
IsOfController (Hello version) = Unit {0}
IsOfController (Error kind code bytes) = Unit {0}
IsOfController (EchoReply bytes) = Unit {0}
IsOfController FeaturesRequest = Unit {0}
IsOfController (SetConfig miss_send_len) = Unit {0}
IsOfController (PacketOut buffer in_port actions bytes) = Unit {0}
IsOfController (FlowMod of cookie command idle hard priority buffer out_port flags actions) =
    change_of (FlowMod of cookie command idle hard priority buffer out_port flags actions) ≡ None → ⊥
IsOfController BarrierRequest = Unit {0}
IsOfController body = ⊥

-- the bytes are this message, as it is sent
pub record IsOffer (x : Message) (bytes : List ℕ) : Type 0 where
  pub kind : IsOfController x.body
  pub as_written : bytes ≡ written x
  pub spelled : Spelled x bytes

-- just this message stands behind the others; of a device that keeps the specification the table stays
pub record TakesIn (message : List ℕ) (m n : Meaning) : Type 0 where
  pub offered : Message
  pub is : IsOffer offered message
  pub last : n.pending ≡ m.pending ++ offered ∷ []
  pub table : m.keeps ≡ true → n.table ≡ m.table

-- no message waits; of a device that keeps the specification the table stays, and what is appended is of its own accord
pub record Rests (bytes : List ℕ) (m n : Meaning) : Type 0 where
  pub none : m.pending ≡ []
  pub still : n.pending ≡ []
  pub table : m.keeps ≡ true → n.table ≡ m.table
  pub sends : m.keeps ≡ true → SpellAmongFree [] bytes

abbrev pub Offers : List ℕ → Took → Meaning → Meaning → Type 0
Offers message Taken m n = Goes (Offered message Taken) m n × TakesIn message m n
Offers message FailedOffer m n = Fails (Offered message FailedOffer) m n
Offers message NoMemoryOffer m n = n ≡ m

abbrev pub Turns : Turned → List ℕ → Meaning → Meaning → Type 0
Turns Nothing bytes m n = Goes (Turning Nothing bytes) m n × Rests bytes m n
Turns (Processed xid) bytes m n =
    Goes (Turning (Processed xid) bytes) m n × (length m.pending ≡ length n.pending + 1) × (m.keeps ≡ true → ProcessesOne xid bytes m n)
Turns (Refused xid) bytes m n =
    Goes (Turning (Refused xid) bytes) m n × (length m.pending ≡ length n.pending + 1) × (m.keeps ≡ true → RefusesOne xid bytes m n)
Turns FailedTurn bytes m n = Fails (Turning FailedTurn bytes) m n × (bytes ≡ [])
Turns NoMemoryTurn bytes m n = (n ≡ m) × (bytes ≡ [])

abbrev pub Packets : ℕ → List ℕ → Seen → List ℕ → Meaning → Meaning → Type 0
Packets port frame FailedLook bytes m n = Fails (Looking port frame FailedLook bytes) m n × (bytes ≡ [])
Packets port frame NoMemoryLook bytes m n = (n ≡ m) × (bytes ≡ [])
Packets port frame seen bytes m n =
    Goes (Looking port frame seen bytes) m n × (length n.pending ≡ length m.pending) × (m.keeps ≡ true → Looks port frame seen bytes m n)

-- what a call appends
abbrev pub Appends : List ℕ → List ℕ → (List ℕ → Type 0) → Type 0
Appends old new P = (bytes : List ℕ) × (new ≡ old ++ bytes) × P bytes
