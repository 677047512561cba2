-- What the readers of parts of a message give.
use Rattle.std.specs.Prelude.{◌≡◌, ℕ, ◌^◌, ◌/◌, ◌%◌, ◌≤◌, false, ◌==◌, if◌then◌else◌, List, length, drop, Some}
use Rattle.maple_base.specs.declared.cells.Port.{Port}
use Rattle.maple_base.specs.NetworkOrder.{number_at}
use Rattle.of10_codec.specs.declared.lent.BodyRef.{BodyRef}
use Rattle.of10_codec.specs.declared.fault.Bad.TheVariants.{Body}
use Rattle.of10_codec.specs.Types.{protocol_version, header_length, hello_type, type_of}
use Rattle.of10_codec.specs.Messages.{version_of, is_up, SpellsBody, SpellsOutputs}
use Rattle.of10_codec.specs.Faults.{body_faults, first_fault, is_foreign, is_misfit}
use Rattle.of10_codec.specs.Lent.{body_of}

-- six bits of a number from this one on
abbrev pub bits_from : ℕ → ℕ → ℕ
bits_from bit n = n / 2 ^ bit % 2 ^ 6

-- the port that the bytes begin with
abbrev pub port_in : List ℕ → Port
port_in b = record { number = number_at 0 2 b; up = is_up b }

-- the ports of so many actions from a place on
pub record ReadsOutputs (ports : List ℕ) (place count : ℕ) (b : List ℕ) : Type 0 where
  pub number : length ports ≡ count
  pub few : count ≤ 16
  pub spelled : SpellsOutputs ports (drop place b)

-- a body of this type that the bytes spell
pub record ReadsBody (kind : ℕ) (body : BodyRef) (b : List ℕ) : Type 0 where
  pub is_kind : type_of (body_of body) ≡ kind
  pub is_version : version_of (body_of body) ≡ (if kind == hello_type then number_at 0 1 b else protocol_version)
  pub spelled : SpellsBody (body_of body) b

-- the first faulty field of a message of this type stands at this offset
abbrev pub IsFaulty : ℕ → ℕ → List ℕ → Type 0
IsFaulty kind offset b = first_fault kind (body_faults kind b) ≡ Some (Body kind offset)

-- a header of this type and transaction id, without a fault
pub record ReadsHeader (kind xid : ℕ) (b : List ℕ) : Type 0 where
  pub long : header_length ≤ length b
  pub is_kind : number_at 1 1 b ≡ kind
  pub is_xid : number_at 4 4 b ≡ xid
  pub known : is_foreign b ≡ false
  pub whole : is_misfit b ≡ false
