-- The lines of a text.
use Rattle.std.specs.Prelude.{ℕ, ◌+◌, Bool, ◌==◌, if◌then◌else◌, List, [], ◌∷◌, codes}
use Rattle.std.specs.Str.{bytes_eq}

abbrev pub onto_first : ℕ → List (List ℕ) → List (List ℕ)
onto_first b [] = (b ∷ []) ∷ []
onto_first b (l ∷ ls) = (b ∷ l) ∷ ls

-- the lines of a text, each with the line feed that ends it; the last may have none
abbrev pub ended_lines : List ℕ → List (List ℕ)
ended_lines [] = []
ended_lines (b ∷ bs) = if b == 10 then (b ∷ []) ∷ ended_lines bs else onto_first b (ended_lines bs)

-- a line without the line feed that ends it
abbrev pub without_end : List ℕ → List ℕ
without_end [] = []
without_end (b ∷ bs) = if b == 10 then [] else b ∷ without_end bs

-- how many bytes the first line of a text has, with its line feed
abbrev pub line_len : List ℕ → ℕ
line_len [] = 0
line_len (b ∷ bs) = if b == 10 then 1 else 1 + line_len bs

-- the line that ends a policy
abbrev pub is_mark : List ℕ → Bool
is_mark line = bytes_eq (without_end line) (codes "%%")
