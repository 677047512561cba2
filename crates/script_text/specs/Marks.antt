-- The parts of a text about the first line %%, a mark.
use Rattle.std.specs.Prelude.{ℕ, ◌+◌, if◌then◌else◌, List, [], ◌∷◌}
use Rattle.script_text.specs.Lines.{is_mark}

-- the lines ahead of the first mark
abbrev pub ahead_of_mark : List (List ℕ) → List (List ℕ)
ahead_of_mark [] = []
ahead_of_mark (l ∷ ls) = if is_mark l then [] else l ∷ ahead_of_mark ls

-- the lines behind it
abbrev pub behind_mark : List (List ℕ) → List (List ℕ)
behind_mark [] = []
behind_mark (l ∷ ls) = if is_mark l then ls else behind_mark ls

-- how many lines come ahead of those behind it, itself included
abbrev pub lines_to_mark : List (List ℕ) → ℕ
lines_to_mark [] = 0
lines_to_mark (l ∷ ls) = if is_mark l then 1 else 1 + lines_to_mark ls
