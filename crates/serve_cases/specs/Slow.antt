-- What clauses see of a slow board, over a board in memory.
use Rattle.std.specs.Prelude.{◌≡◌, ℕ, None, List}
use Rattle.maple_io.specs.declared.act.Act.{Act}
use Rattle.maple_io.specs.Boards.{BoardView, was_opened}
use Rattle.maple_io.specs.Schedules.{Schedule}

-- its own log, and the counts of the board in memory
pub record SlowView : Type 0 where
  pub log : List Act
  pub failed : ℕ
  pub broken : ℕ

abbrev pub slow_view : List Act → Schedule → SlowView
slow_view log board = record { log = log; failed = board.failed; broken = board.broken }

-- what any board tells; whether a turn is ready, or where there is room, this one doesn't tell
abbrev pub told : SlowView → BoardView
told s = record { log = s.log; failed = s.failed; broken = s.broken; ready = None; roomy = λ c. None }

-- the same connections were opened by both logs
pub record HasOpened (a b : List Act) : Type 0 where
  pub same : (c : ℕ) → was_opened c a ≡ was_opened c b
