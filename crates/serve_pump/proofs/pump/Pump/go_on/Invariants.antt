use Rattle.std.proofs.Common.{◌<◌, List, length}
use Rattle.maple_io.specs.declared.act.Act.{Act}
use Rattle.maple_io.specs.Boards.{NoBoardFailed}
use Rattle.maple_io.specs.Views.{NoWriteFailed, SinkView}
use Rattle.machine_desk.specs.Desks.{DeskLaw}
use Rattle.serve_steps.specs.Parts.{Given}
use Rattle.serve_channels.specs.Keeping.{IsServing}
use Rattle.serve_channels.specs.Servers.{IsSameHall}
use Rattle.serve_pump.specs.Ending.{IsUnderWay}
use Rattle.serve_pump.proofs.pump.Pump.go_on.Given as goal

-- the run is under way still, and nothing failed
abbrev pub invariant-loop : goal.invariant-loop
invariant-loop g l = record {
  way : (given : Given) (before : List Act) (from : SinkView) → IsUnderWay given before from (g.B.Board.tells l.fn.board).log l.fn.self (g.O.Sink.tells l.fn.out)
      → IsUnderWay given before from (g.B.Board.tells l.board).log l.self (g.O.Sink.tells l.out);
  serving : IsServing (g.B.Board.tells l.board).log l.self.server;
  law : DeskLaw l.self.server.desk;
  room : 0 < length l.self.room.items;
  spared : NoBoardFailed (g.B.Board.tells l.fn.board) (g.B.Board.tells l.board);
  no_write : NoWriteFailed (g.O.Sink.tells l.fn.out) (g.O.Sink.tells l.out);
  same : IsSameHall l.fn.self.server l.self.server;
}
