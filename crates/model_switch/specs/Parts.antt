-- The parts of an answer, as private functions give them.
use Rattle.std.specs.Prelude.{◌≡◌, ℕ, true, false, List, [], Some}
use Rattle.maple_base.specs.declared.decision.TableMod.{TableMod}
use Rattle.maple_base.specs.declared.device.Turned.{Turned}
use Rattle.maple_base.specs.declared.device.Turned.TheVariants.{Processed, Refused, NoMemory as NoMemoryTurn}
use Rattle.maple_base.specs.declared.device.Seen.{Seen}
use Rattle.maple_base.specs.declared.device.Seen.TheVariants.{Miss, NoMemory as NoMemoryLook}
use Rattle.flow_table.specs.Effects.{answer_of}
use Rattle.flow_table.specs.Tables.{Entries}
use Rattle.of10_codec.specs.declared.message.Message.{Message}
use Rattle.device_port.specs.Switches.{message}
use Rattle.model_switch.specs.Answers.{is_full, refusal, IsWritten, TableBehind, packet_in}

-- this message was said
abbrev pub Says : Message → Turned → List ℕ → Type 0
Says m (Processed xid) bytes = (xid ≡ m.xid) × IsWritten (Some m) bytes
Says m NoMemoryTurn bytes = bytes ≡ []
Says m answer bytes = ⊥

-- that there is no room was said
abbrev pub Refuses : ℕ → Turned → List ℕ → Type 0
Refuses xid (Refused id) bytes = (id ≡ xid) × IsWritten (Some (message xid refusal)) bytes
Refuses xid NoMemoryTurn bytes = bytes ≡ []
Refuses xid answer bytes = ⊥

abbrev pub Changes : ℕ → TableMod → Entries → Turned → List ℕ → Entries → Type 0
Changes xid change old (Processed id) bytes new =
    (id ≡ xid) × (is_full (answer_of change old.rules old.capacity) ≡ false) × (bytes ≡ []) × TableBehind (Some change) old new
Changes xid change old (Refused id) bytes new =
    (id ≡ xid) × (is_full (answer_of change old.rules old.capacity) ≡ true) × IsWritten (Some (message xid refusal)) bytes × TableBehind (Some change) old new
Changes xid change old NoMemoryTurn bytes new = (bytes ≡ []) × (new ≡ old)
Changes xid change old answer bytes new = ⊥

-- a frame was sent to the controller
abbrev pub SendsFrame : ℕ → List ℕ → ℕ → Seen → List ℕ → Type 0
SendsFrame port frame reason (Miss given) bytes = (given ≡ reason) × IsWritten (Some (packet_in port frame reason)) bytes
SendsFrame port frame reason NoMemoryLook bytes = bytes ≡ []
SendsFrame port frame reason seen bytes = ⊥
