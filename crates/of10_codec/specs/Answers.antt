-- What the errors of reading and writing tell.
use Rattle.std.specs.Prelude.{◌≡◌, ℕ, ◌≤◌, ◌<◌, List, length, Some, None}
use Rattle.of10_codec.specs.declared.message.Message.{Message}
use Rattle.of10_codec.specs.declared.fault.DecodeError.{DecodeError}
use Rattle.of10_codec.specs.declared.fault.DecodeError.TheVariants as reading
use Rattle.of10_codec.specs.declared.fault.EncodeError.{EncodeError}
use Rattle.of10_codec.specs.declared.fault.EncodeError.TheVariants as writing
use Rattle.of10_codec.specs.Types.{most_bytes}
use Rattle.of10_codec.specs.Faults.{bad_of}
use Rattle.of10_codec.specs.Written.{written}

-- a fault is the first one of the bytes; memory runs out only where they have none
abbrev pub IsFaultOf : DecodeError → List ℕ → Type 0
IsFaultOf (reading.Bad bad) b = bad_of b ≡ Some bad
IsFaultOf reading.NoMemory b = bad_of b ≡ None

-- a message was too long, and so long; or memory ran out for one that was not
abbrev pub IsTooLong : EncodeError → Message → Type 0
IsTooLong (writing.TooLong n) m = (n ≡ length (written m)) × (most_bytes < n)
IsTooLong writing.NoMemory m = length (written m) ≤ most_bytes

-- memory ran out only where so many bytes pass the capacity
abbrev pub LackedRoom : EncodeError → ℕ → ℕ → Type 0
LackedRoom (writing.TooLong n) needed capacity = Unit {0}
LackedRoom writing.NoMemory needed capacity = capacity < needed
