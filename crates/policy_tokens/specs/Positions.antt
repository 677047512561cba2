-- Positions in a text: lines and columns. They count from 1, columns by bytes, and a line feed ends its line.
use Rattle.std.specs.Prelude.{◌≡◌, ℕ, ◌+◌, ◌<◌, ◌⊎◌, if◌then◌else◌, fold, List, take}
use Rattle.policy_tokens.specs.declared.token.Position.{Position}
use Rattle.policy_tokens.specs.Bytes.{ends_line}

abbrev pub first_position : Position
first_position = record { line = 1; column = 1 }

-- the position behind a byte
abbrev pub behind : Position → ℕ → Position
behind p b = if ends_line b then record { line = p.line + 1; column = 1 } else record { line = p.line; column = p.column + 1 }

-- the position that has so many bytes of the text ahead of it
abbrev pub position_at : List ℕ → ℕ → Position
position_at text offset = fold behind first_position (take offset text)

-- an earlier line, or the same line and an earlier column
abbrev pub IsAhead : Position → Position → Type 0
IsAhead p q = (p.line < q.line) ⊎ ((p.line ≡ q.line) × (p.column < q.column))
