-- What clauses see of a board over sockets.
use Rattle.std.specs.Prelude.{ℕ, List, None}
use Rattle.maple_io.specs.declared.act.Act.{Act}
use Rattle.maple_io.specs.Boards.{BoardView}

-- what it did; how many of its calls failed, and how many connections broke
pub record SocketView : Type 0 where
  pub log : List Act
  pub failed : ℕ
  pub broken : ℕ

-- what any board tells: this one tells neither whether a turn is ready, nor of any connection whether there is room to send to it
abbrev pub told : SocketView → BoardView
told s = record { log = s.log; failed = s.failed; broken = s.broken; ready = None; roomy = λ c. None }
