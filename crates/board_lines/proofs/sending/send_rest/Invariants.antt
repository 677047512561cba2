use Rattle.std.proofs.Common.{length}
use Rattle.board_lines.specs.Deliveries.{GoodSends, StepsOn}
use Rattle.maple_io.specs.Boards.{NoBoardFailed, NoLinkBroke}
use Rattle.board_lines.proofs.sending.send_rest.Given as goal

-- sends so far, none of which failed
abbrev pub invariant-loop-queue : goal.invariant-loop-queue
invariant-loop-queue g l = record {
  steps : StepsOn l.fn.queue l.queue (g.B.Board.tells l.fn.board).log (g.B.Board.tells l.board).log;
  answers : GoodSends l.fn.queue.number (g.B.Board.tells l.fn.board).log (g.B.Board.tells l.board).log;
  whole : NoLinkBroke (g.B.Board.tells l.fn.board) (g.B.Board.tells l.board);
  faults : NoBoardFailed (g.B.Board.tells l.fn.board) (g.B.Board.tells l.board);
}

abbrev pub decreases-loop-queue : goal.decreases-loop-queue
decreases-loop-queue g l = length l.queue.rest
