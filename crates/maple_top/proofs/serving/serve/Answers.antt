use Rattle.maple_top.proofs.Commands.{served}
use Rattle.maple_top.proofs.Endings.{closes_board, closes_failed, closes_spared}
use Rattle.maple_top.proofs.serving.serve.Goals as goal

pub returns-clause-run : goal.returns-clause-run
returns-clause-run g c =
    served c.args.policy c.args.settings c.args.listen c.args.control _ (g.B.Board.tells c.args.board.now) (g.B.Board.tells c.run_serve-end.new.board) (g.O.Sink.tells c.args.to.now)
    (g.O.Sink.tells c.run_serve-end.new.out) (g.O.Sink.tells c.conclude.new.output) c.run_serve-end.result c.conclude.result c.run_serve-end.ensures.ends
    c.run_serve-end.ensures.cause.board c.run_serve-end.ensures.cause.no_board c.conclude.ensures.closes

pub returns-clause-fault : goal.returns-clause-fault
returns-clause-fault g c =
    closes_failed (g.O.Sink.tells c.args.to.now) (g.O.Sink.tells c.run_serve-end.new.out) (g.O.Sink.tells c.conclude.new.output) c.run_serve-end.result c.conclude.result
    c.run_serve-end.ensures.cause.writes.fault c.run_serve-end.ensures.cause.writes.spared c.conclude.ensures.closes

pub returns-clause-board_fault : goal.returns-clause-board_fault
returns-clause-board_fault g c =
    λ is. c.run_serve-end.ensures.cause.board
    (closes_board (g.O.Sink.tells c.run_serve-end.new.out) (g.O.Sink.tells c.conclude.new.output) c.run_serve-end.result c.conclude.result c.conclude.ensures.closes is)

pub returns-clause-board_spared : goal.returns-clause-board_spared
returns-clause-board_spared g c =
    λ s. c.run_serve-end.ensures.cause.no_board
    (closes_spared (g.O.Sink.tells c.run_serve-end.new.out) (g.O.Sink.tells c.conclude.new.output) c.run_serve-end.result c.conclude.result c.conclude.ensures.closes s)
