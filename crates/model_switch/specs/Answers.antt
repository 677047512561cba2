-- What a model switch answers to a message, just these bytes, and what the message does to its table.
use Rattle.std.specs.Prelude.{◌≡◌, ℕ, zero, suc, Bool, true, false, if◌then◌else◌, List, [], ◌∷◌, ◌++◌, length, Option, Some, None, option_map}
use Rattle.maple_base.specs.OpenFlow.{no_buffer}
use Rattle.maple_base.specs.declared.cells.Port.{Port}
use Rattle.maple_base.specs.declared.decision.TableMod.{TableMod}
use Rattle.maple_base.specs.declared.device.Turned.{Turned}
use Rattle.maple_base.specs.declared.device.Turned.TheVariants.{Processed, Refused, NoMemory as NoMemoryTurn}
use Rattle.maple_base.specs.declared.device.Seen.{Seen}
use Rattle.maple_base.specs.declared.device.Seen.TheVariants.{Hit, Miss, Failed as FailedLook, NoMemory as NoMemoryLook}
use Rattle.flow_table.specs.declared.applied.Applied.{Applied}
use Rattle.flow_table.specs.declared.applied.Applied.TheVariants.{Full}
use Rattle.flow_table.specs.Effects.{answer_of}
use Rattle.flow_table.specs.Tables.{Entries, Leaves}
use Rattle.of10_codec.specs.declared.message.Message.{Message}
use Rattle.of10_codec.specs.declared.message.Body.{Body}
use Rattle.of10_codec.specs.declared.message.Body.TheVariants.{Hello, Error, EchoRequest, EchoReply, FeaturesRequest, FeaturesReply, PacketIn, BarrierRequest, BarrierReply}
use Rattle.of10_codec.specs.Types.{protocol_version}
use Rattle.of10_codec.specs.Messages.{Spelled}
use Rattle.of10_codec.specs.Written.{written}
use Rattle.packet_key.specs.Frames.{key_of}
use Rattle.device_port.specs.Switches.{change_of, message}
use Rattle.device_port.specs.Devices.{LooksAt}

-- the ports 1 to n, all up
abbrev pub ports_up : ℕ → List Port
ports_up zero = []
ports_up (suc n) = ports_up n ++ record { number = suc n; up = true } ∷ []

-- a HELLO is answered by a HELLO, a request for the features by them, with all ports up, an echo by its reply, a barrier by its reply
abbrev pub reply_of : ℕ → ℕ → Body → Option Body
reply_of dpid ports (Hello version) = Some (Hello protocol_version)
reply_of dpid ports FeaturesRequest = Some (FeaturesReply dpid (ports_up ports))
reply_of dpid ports (EchoRequest bytes) = Some (EchoReply bytes)
reply_of dpid ports BarrierRequest = Some BarrierReply
reply_of dpid ports body = None

abbrev pub is_full : Applied → Bool
is_full Full = true
is_full applied = false

-- the message asks for a rule that is new where the table has no room
abbrev pub overfills_by : Option TableMod → Entries → Bool
overfills_by None table = false
overfills_by (Some change) table = is_full (answer_of change table.rules table.capacity)

abbrev pub overfills : Body → Entries → Bool
overfills body table = overfills_by (change_of body) table

-- there is no room for a rule (5.4.4: OFPET_FLOW_MOD_FAILED, OFPFMFC_ALL_TABLES_FULL)
abbrev pub refusal : Body
refusal = Error 3 0 []

-- the one message that is sent, if any, with the id of the message that it answers
abbrev pub answer_to : ℕ → ℕ → Message → Entries → Option Message
answer_to dpid ports m table = option_map (message m.xid) (if overfills m.body table then Some refusal else reply_of dpid ports m.body)

-- the bytes of a message, or none
abbrev pub IsWritten : Option Message → List ℕ → Type 0
IsWritten None bytes = bytes ≡ []
IsWritten (Some m) bytes = (bytes ≡ written m) × Spelled m bytes

-- the table behind a message: a change has its effect where it isn't refused
abbrev pub TableBehind : Option TableMod → Entries → Entries → Type 0
TableBehind None old new = new ≡ old
TableBehind (Some change) old new = Leaves (answer_of change old.rules old.capacity) change old new × (new.capacity ≡ old.capacity)

-- a message is dealt with: refused exactly where it overfills the table
pub record Carries (dpid ports : ℕ) (m : Message) (old : Entries) (answer : Turned) (bytes : List ℕ) (new : Entries) : Type 0 where
  pub answered : answer ≡ (if overfills m.body old then Refused m.xid else Processed m.xid)
  pub says : IsWritten (answer_to dpid ports m old) bytes
  pub table : TableBehind (change_of m.body) old new

-- it is, unless memory ran out
abbrev pub Deals : ℕ → ℕ → Message → Entries → Turned → List ℕ → Entries → Type 0
Deals dpid ports m old NoMemoryTurn bytes new = (bytes ≡ []) × (new ≡ old)
Deals dpid ports m old answer bytes new = Carries dpid ports m old answer bytes new

-- a frame that comes to the controller whole, with the port that it came in by, for this reason
abbrev pub packet_in : ℕ → List ℕ → ℕ → Message
packet_in port frame reason = message 0 (PacketIn no_buffer (length frame) port reason frame)

-- a frame is looked up in the table: just its PACKET_IN is sent at a miss, and nothing at a hit
abbrev pub Sees : ℕ → List ℕ → Entries → Seen → List ℕ → Type 0
Sees port frame table (Hit actions) bytes = LooksAt table.rules (key_of port frame) (Hit actions) × (bytes ≡ [])
Sees port frame table (Miss reason) bytes = LooksAt table.rules (key_of port frame) (Miss reason) × IsWritten (Some (packet_in port frame reason)) bytes
Sees port frame table FailedLook bytes = ⊥
Sees port frame table NoMemoryLook bytes = bytes ≡ []
