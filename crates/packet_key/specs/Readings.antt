-- What the parts of a key are read from: a number and what stands behind it, and each header by itself.
use Rattle.std.specs.Prelude.{◌≡◌, ℕ, ◌+◌, ◌*◌, Bool, ◌&&◌, ◌==◌, nat_lt, nat_le, if◌then◌else◌, List, length, drop, Option, Some, None}
use Rattle.maple_base.specs.Assigned.{first_type}
use Rattle.maple_base.specs.NetworkOrder.{number_at}
use Rattle.packet_key.specs.Frames.{no_type, snap_header, is_tagged}
use Rattle.packet_key.specs.declared.malformed.Malformed.{Malformed}
use Rattle.packet_key.specs.declared.malformed.Malformed.TheVariants.{Ethernet, Tag}

-- the number that the first bytes spell, and what stands behind them
pub record IsRead (width : ℕ) (bytes : List ℕ) (number : ℕ) (rest : List ℕ) : Type 0 where
  pub value : number ≡ number_at 0 width bytes
  pub behind : rest ≡ drop width bytes
  pub whole : length rest + width ≡ length bytes

-- which header of a frame ahead of the packet is cut short
abbrev pub cut_short : List ℕ → Option Malformed
cut_short frame = if nat_lt (length frame) 14 then Some Ethernet else (if is_tagged frame && nat_lt (length frame) 18 then Some Tag else None)

-- a type or length, and a payload that has a SNAP header
abbrev pub is_snap : ℕ → List ℕ → Bool
is_snap type_or_length payload =
    nat_lt type_or_length first_type && nat_le 8 (length payload) && number_at 0 6 payload == snap_header && nat_le first_type (number_at 6 2 payload)

-- the type that a type or length and a payload have
abbrev pub type_in : ℕ → List ℕ → ℕ
type_in type_or_length payload = if is_snap type_or_length payload then number_at 6 2 payload else (if nat_lt type_or_length first_type then no_type else type_or_length)

-- what stands behind the SNAP header, if there is one
abbrev pub behind_snap : ℕ → List ℕ → List ℕ
behind_snap type_or_length payload = if is_snap type_or_length payload then drop 8 payload else payload

-- the two ports of so many bytes each that stand first
abbrev pub ports_of : ℕ → List ℕ → Option (ℕ × ℕ)
ports_of width segment = if nat_lt (length segment) (2 * width) then None else Some (number_at 0 width segment, number_at width width segment)
