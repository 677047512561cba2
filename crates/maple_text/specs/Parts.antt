-- The parts of a text round a byte, one after the other.
use Rattle.std.specs.Prelude.{ℕ, ◌+◌, ◌==◌, if◌then◌else◌, List, [], ◌∷◌, Option, Some, None}
use Rattle.std.specs.List.{slice_split}
use Rattle.std.specs.Borrow.{Bor}

-- the parts of what is behind a part
abbrev pub rest_parts : ℕ → Option (Bor (List ℕ)) → List (List ℕ)
rest_parts stop None = []
rest_parts stop (Some rest) = slice_split (λ b. b == stop) rest.now

-- how many bytes stand ahead of the first of this kind
abbrev pub len_to : ℕ → List ℕ → ℕ
len_to stop [] = 0
len_to stop (b ∷ bs) = if b == stop then 0 else 1 + len_to stop bs
