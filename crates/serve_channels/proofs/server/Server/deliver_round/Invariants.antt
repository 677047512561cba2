use Rattle.std.proofs.Common.{◌≡◌, []}
use Rattle.maple_io.specs.Boards.{NoBoardFailed}
use Rattle.serve_channels.specs.Delivering.{FewerUnfailed}
use Rattle.serve_channels.specs.Keeping.{Goes, IsServing}
use Rattle.serve_channels.specs.Servers.{IsSame, SameNumbers}
use Rattle.serve_channels.specs.Stretches.{IsQuietly}
use Rattle.serve_channels.proofs.Rounds.{EmptiesBelow, ServesBelow}
use Rattle.serve_channels.proofs.server.Server.deliver_round.Given as goal

-- those ahead were served
abbrev pub invariant-loop-at : goal.invariant-loop-at
invariant-loop-at g l = record {
  goes : Goes (ServesBelow l.at l.self) l.fn.self (g.B.Board.tells l.fn.board).log l.self (g.B.Board.tells l.board).log;
  serving : IsServing (g.B.Board.tells l.board).log l.self;
  empties : l.fn.self.desk.now.jobs ≡ [] → EmptiesBelow l.at l.failed l.self;
  fewer : FewerUnfailed l.failed l.fn.self l.self;
  numbers : SameNumbers l.fn.self l.self;
  quietly : IsQuietly (g.B.Board.tells l.fn.board).log (g.B.Board.tells l.board).log;
  faults : NoBoardFailed (g.B.Board.tells l.fn.board) (g.B.Board.tells l.board);
  same : IsSame l.fn.self l.self;
}
