-- What a write says of a sink.
use Rattle.std.specs.Prelude.{ℕ, ◌≤◌, List, [], take, ⊤, ◌≡◌, Option}
use Rattle.std.specs.Io.KnownBytes.{Appends, Keeps}
use Rattle.maple_base.specs.Counts.{next_count}
use Rattle.maple_io.specs.declared.sink.Put.{Put}
use Rattle.maple_io.specs.declared.sink.Put.TheVariants.{Took, Failed, NoMemory}

-- a write that takes bytes takes one at least, and no more than the piece has
abbrev pub TakesWithin : Put → ℕ → Type 0
TakesWithin (Took n) len = (1 ≤ n) × (n ≤ len)
TakesWithin Failed len = ⊤
TakesWithin NoMemory len = ⊤

-- the taken bytes go to the end, and a failure or want of memory adds none
abbrev pub WritesBytes : Option (List ℕ) → Option (List ℕ) → Put → List ℕ → Type 0
WritesBytes old new (Took n) piece = Appends old new (take n piece)
WritesBytes old new Failed piece = Keeps old new
WritesBytes old new NoMemory piece = Keeps old new

-- the bytes of a piece that a write took
abbrev pub taken_of : Put → List ℕ → List ℕ
taken_of (Took n) piece = take n piece
taken_of Failed piece = []
taken_of NoMemory piece = []

-- how many writes failed after one more write
abbrev pub failed_writes : ℕ → Put → ℕ
failed_writes failed (Took n) = failed
failed_writes failed Failed = next_count failed
failed_writes failed NoMemory = failed

-- a write that takes bytes takes the whole piece
abbrev pub TakesAll : Put → ℕ → Type 0
TakesAll (Took n) len = n ≡ len
TakesAll Failed len = ⊤
TakesAll NoMemory len = ⊤
