-- How a stream is cut into messages.
use Rattle.std.specs.Prelude.{◌≡◌, ℕ, ◌+◌, true, false, nat_lt, if◌then◌else◌, List, [], ◌∷◌, ◌++◌, length, take, Option, Some, None}
use Rattle.maple_base.specs.NetworkOrder.{number_at}
use Rattle.of10_codec.specs.declared.message.Message.{Message}
use Rattle.of10_codec.specs.declared.fault.Bad.{Bad}
use Rattle.of10_codec.specs.declared.fault.Bad.TheVariants.{Version, Length}
use Rattle.of10_codec.specs.Types.{header_length}
use Rattle.of10_codec.specs.Messages.{Spelled}
use Rattle.of10_codec.specs.Faults.{bad_of, is_foreign}

-- the length that a header tells
abbrev pub told : List ℕ → ℕ
told b = number_at 2 2 b

-- the fault of a header, which shows as soon as its 8 bytes are there: its version, or a length of less than a header's
abbrev pub head_fault : List ℕ → Option Bad
head_fault b = if is_foreign b then Some Version else (if nat_lt (told b) header_length then Some Length else None)

-- the bytes are no whole message, and what is there of the header shows no fault
pub data IsOpen (b : List ℕ) : Type 0 where
  NoHeader : nat_lt (length b) header_length ≡ true → IsOpen b
  NoEnd : nat_lt (length b) header_length ≡ false → head_fault b ≡ None → nat_lt (length b) (told b) ≡ true → IsOpen b

-- all bytes of the message that stands first are there, and have no fault
pub record IsSound (b : List ℕ) : Type 0 where
  pub header : nat_lt (length b) header_length ≡ false
  pub sound : head_fault b ≡ None
  pub whole : nat_lt (length b) (told b) ≡ false
  pub faultless : bad_of (take (told b) b) ≡ None

-- the message that stands first has this fault: its header, or else its bytes, of the length that the header tells
pub data IsBad (bad : Bad) (b : List ℕ) : Type 0 where
  InHeader : nat_lt (length b) header_length ≡ false → head_fault b ≡ Some bad → IsBad bad b
  InMessage : nat_lt (length b) header_length ≡ false → head_fault b ≡ None → nat_lt (length b) (told b) ≡ false → bad_of (take (told b) b) ≡ Some bad → IsBad bad b

-- what stands behind the messages of a stream: a rest that is open, or a fault, with the place of the faulty message's first byte
pub data End : Type 0 where
  Open : End
  Faulty : ℕ → Bad → End

abbrev pub EndsAt : End → ℕ → List ℕ → Type 0
EndsAt Open place b = IsOpen b
EndsAt (Faulty at bad) place b = (at ≡ place) × IsBad bad b

-- from a place of the stream on these messages follow each other, and then comes the end
abbrev pub IsCutFrom : ℕ → List Message → End → List ℕ → Type 0
IsCutFrom place [] end b = EndsAt end place b
IsCutFrom place (m ∷ ms) end b = (front rest : List ℕ) × (b ≡ front ++ rest) × Spelled m front × IsCutFrom (place + length front) ms end rest

-- the stream is cut into these messages, and then comes the end
abbrev pub IsCut : List Message → End → List ℕ → Type 0
IsCut = IsCutFrom 0
