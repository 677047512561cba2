-- What a read says of a source.
use Rattle.std.specs.Prelude.{ℕ, ◌≤◌, List, take, length, min, ⊤, ◌≡◌, Option}
use Rattle.std.specs.Io.KnownBytes.{Consumes, Keeps, IsAtEnd}
use Rattle.maple_base.specs.Counts.{next_count}
use Rattle.maple_io.specs.declared.source.Got.{Got}
use Rattle.maple_io.specs.declared.source.Got.TheVariants.{Bytes, End, Failed}

-- a read that gives bytes gives one at least, and no more than there is room for
abbrev pub GivesWithin : Got → ℕ → Type 0
GivesWithin (Bytes n) room = (1 ≤ n) × (n ≤ room)
GivesWithin End room = ⊤
GivesWithin Failed room = ⊤

-- the given bytes leave the front, the end comes where none is left, and a failure takes none
abbrev pub ReadsBytes : Option (List ℕ) → Option (List ℕ) → Got → List ℕ → Type 0
ReadsBytes old new (Bytes n) into = Consumes old new (take n into)
ReadsBytes old new End into = IsAtEnd old × Keeps old new
ReadsBytes old new Failed into = Keeps old new

-- how many reads failed after one more read
abbrev pub failed_reads : ℕ → Got → ℕ
failed_reads failed (Bytes n) = failed
failed_reads failed End = failed
failed_reads failed Failed = next_count failed

-- a read that gives bytes gives as many as are left and fit
abbrev pub FillsUp : Got → List ℕ → ℕ → Type 0
FillsUp (Bytes n) left room = n ≡ min (length left) room
FillsUp End left room = ⊤
FillsUp Failed left room = ⊤
