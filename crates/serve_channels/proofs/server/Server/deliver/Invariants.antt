use Rattle.std.proofs.Common.{◌≡◌, []}
use Rattle.maple_io.specs.Boards.{NoBoardFailed}
use Rattle.serve_channels.specs.Delivering.{unfailed}
use Rattle.serve_channels.specs.Keeping.{Goes, IsServing}
use Rattle.serve_channels.specs.Servers.{IsSame, SameNumbers}
use Rattle.serve_channels.specs.Stretches.{IsQuietly}
use Rattle.serve_channels.proofs.Rounds.{OwnsNone}
use Rattle.serve_channels.proofs.server.Server.deliver.Given as goal

-- what was done in the rounds so far
abbrev pub invariant-rounds : goal.invariant-rounds
invariant-rounds g l = record {
  goes : Goes OwnsNone l.fn.self (g.B.Board.tells l.fn.board).log l.self (g.B.Board.tells l.board).log;
  serving : IsServing (g.B.Board.tells l.board).log l.self;
  none : l.fn.self.desk.now.jobs ≡ [] → l.self.desk.now.jobs ≡ [];
  numbers : SameNumbers l.fn.self l.self;
  quietly : IsQuietly (g.B.Board.tells l.fn.board).log (g.B.Board.tells l.board).log;
  faults : NoBoardFailed (g.B.Board.tells l.fn.board) (g.B.Board.tells l.board);
  same : IsSame l.fn.self l.self;
}

abbrev pub decreases-rounds : goal.decreases-rounds
decreases-rounds g l = unfailed l.self
