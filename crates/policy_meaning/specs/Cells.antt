-- What was read in cells.
use Rattle.std.specs.Prelude.{◌≡◌, Bool, true, false, ◌&&◌, ◌==◌, List, [], ◌∷◌, ◌++◌, if◌then◌else◌, Option, Some, None, is_none}
use Rattle.std.specs.Str.{bytes_eq}
use Rattle.maple_base.specs.declared.cells.Cell.{Cell}
use Rattle.maple_base.specs.declared.cells.Cell.TheVariants.{Host, Hop, Up, Num}
use Rattle.maple_base.specs.declared.cells.Value.{Value}
use Rattle.maple_base.specs.Kinds.{of_kind}

abbrev pub same_cell : Cell → Cell → Bool
same_cell (Host m) (Host n) = m == n
same_cell (Hop from to) (Hop start end) = from == start && to == end
same_cell (Up switch port) (Up other number) = switch == other && port == number
same_cell (Num table key) (Num other number) = bytes_eq table other && key == number
same_cell c d = false

-- what was read in a cell
abbrev pub given : Cell → List (Cell × Value) → Option Value
given c [] = None
given c ((d, v) ∷ ds) = if same_cell c d then Some v else given c ds

-- behind those that were read before, no cell is read again
abbrev pub reads_once : List (Cell × Value) → List (Cell × Value) → Bool
reads_once seen [] = true
reads_once seen (c ∷ cs) = is_none (given c.0 seen) && reads_once (seen ++ c ∷ []) cs

-- a value is of its cell's kind
abbrev pub is_of_kind : Cell × Value → Bool
is_of_kind c = of_kind c.0 c.1

-- the environment has in the cells what was read there
abbrev pub Gives : (Cell → Value) → List (Cell × Value) → Type 0
Gives env [] = Unit {0}
Gives env (c ∷ cs) = (env c.0 ≡ c.1) × Gives env cs

abbrev pub SomeGives : List (Cell × Value) → Type 0
SomeGives cs = (env : Cell → Value) × Gives env cs

-- each cell was given with this value
abbrev pub AreGiven : (Cell → Value → Type 0) → List (Cell × Value) → Type 0
AreGiven gave [] = Unit {0}
AreGiven gave (c ∷ cs) = gave c.0 c.1 × AreGiven gave cs
