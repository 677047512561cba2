use Rattle.maple_top.proofs.Programs.{never_ran}
use Rattle.maple_top.proofs.program.run_over.Goals as goal

pub returns-in-Err : goal.returns-in-Err
returns-in-Err g c = record {
  ran =
      never_ran (g.I.Source.tells c.args.from.now) (g.I.Source.tells c.run_made.new.from) (g.O.Sink.tells c.args.to.now) (g.O.Sink.tells c.run_made.new.to)
      (g.B.Board.tells c.args.board.now) (g.B.Board.tells c.run_made.new.board) c.args.words.now c.in-Err.ensures.unread c.in-Err.ensures.unwritten c.in-Err.ensures.unserved;
}
