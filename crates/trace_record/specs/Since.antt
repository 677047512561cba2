-- For private contracts: what a view gives and how often it refused, against an earlier time.
use Rattle.std.specs.Prelude.{ℕ, ◌≤◌}
use Rattle.maple_base.specs.declared.cells.Cell.{Cell}
use Rattle.maple_base.specs.declared.cells.Value.{Value}

pub record IsSince (gave : Cell → Value → Type 0) (refused : ℕ) (now : Cell → Value → Type 0) (risen : ℕ) : Type 0 where
  pub kept : (c : Cell) (v : Value) → gave c v → now c v
  pub count : refused ≤ risen
