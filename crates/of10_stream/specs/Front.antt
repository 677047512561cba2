-- The message that stands first in the rest of a stream.
use Rattle.std.specs.Prelude.{◌≡◌, ℕ, ◌+◌, ◌≤◌, List, length, drop, Some, None}
use Rattle.of10_codec.specs.declared.fault.Bad.{Bad}
use Rattle.of10_codec.specs.Types.{header_length}
use Rattle.of10_stream.specs.Cut.{told, head_fault}
use Rattle.of10_stream.specs.Steps.{Stream}

-- a header without a fault, and all the bytes that it tells
pub record IsWhole (len : ℕ) (b : List ℕ) : Type 0 where
  pub header : header_length ≤ len
  pub is_told : told b ≡ len
  pub whole : len ≤ length b
  pub sound : head_fault b ≡ None

-- a stream whose first fault is met
abbrev pub broken_off : Bad → Stream → Stream
broken_off bad s = record s { broken = Some (s.place, bad) }

-- a stream of which so many more bytes are done with
abbrev pub passed : ℕ → Stream → Stream
passed len s = record s { place = s.place + len; rest = drop len s.rest }
