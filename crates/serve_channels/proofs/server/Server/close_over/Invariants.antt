use Rattle.std.proofs.Common.{◌≡◌, ◌<◌, ◌-◌, ℕ, true, length}
use Rattle.std.specs.Prelude.{Some}
use Rattle.std.specs.List.{slice_get}
use Rattle.maple_io.specs.Boards.{NoBoardFailed}
use Rattle.machine_desk.specs.Hearing.{is_live}
use Rattle.serve_channels.specs.declared.connection.Connection.{Connection}
use Rattle.serve_channels.specs.Keeping.{Goes, IsServing}
use Rattle.serve_channels.specs.Servers.{IsSame}
use Rattle.serve_channels.specs.Stretches.{IsQuietly}
use Rattle.serve_channels.proofs.Shutting.{Shuts}
use Rattle.serve_channels.proofs.server.Server.close_over.Given as goal

-- some were closed; those ahead are open
abbrev pub invariant-loop-at : goal.invariant-loop-at
invariant-loop-at g l = record {
  goes : Goes Shuts l.fn.self (g.B.Board.tells l.fn.board).log l.self (g.B.Board.tells l.board).log;
  serving : IsServing (g.B.Board.tells l.board).log l.self;
  ahead : (n : ℕ) (k : Connection) → n < l.at → slice_get l.self.connections.items n ≡ Some k → is_live k.inbound.stage ≡ true;
  desk : l.self.desk ≡ l.fn.self.desk;
  quietly : IsQuietly (g.B.Board.tells l.fn.board).log (g.B.Board.tells l.board).log;
  faults : NoBoardFailed (g.B.Board.tells l.fn.board) (g.B.Board.tells l.board);
  same : IsSame l.fn.self l.self;
}

abbrev pub decreases-loop-at : goal.decreases-loop-at
decreases-loop-at g l = length l.self.connections.items - l.at
