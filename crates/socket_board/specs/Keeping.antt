-- What is true of every board over sockets.
use Rattle.std.specs.Prelude.{◌≡◌, ℕ, ◌+◌, List, Option, None, Some, is_some}
use Rattle.maple_io.specs.declared.act.Act.{Act}
use Rattle.socket_board.specs.declared.sockets.Sockets.{Sockets}
use Rattle.socket_board.specs.Numbers.{AreBelow}
use Rattle.socket_board.specs.Openings.{opened}
use Rattle.socket_board.specs.Starts.{was_started}

-- the number of the next connection
abbrev pub next_of : Option Sockets → ℕ
next_of None = 1
next_of (Some sockets) = sockets.links.next

-- it has sockets where it was started, and the next number is the one behind those of all connections
pub record IsKept (sockets : Option Sockets) (log : List Act) : Type 0 where
  pub numbers : AreBelow (next_of sockets) log
  pub counted : next_of sockets ≡ opened log + 1
  pub started : is_some sockets ≡ was_started log
