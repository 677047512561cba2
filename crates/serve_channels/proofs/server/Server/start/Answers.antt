use Rattle.serve_channels.proofs.Fresh.{starts, starts_by}
use Rattle.serve_channels.proofs.server.Server.start.Goals as goal

pub returns-clause-starts : goal.returns-clause-starts
returns-clause-starts g c =
    starts c.args.listen c.args.control c.start.result c.args.self.now (g.B.Board.tells c.args.board.now).log (g.B.Board.tells c.start.new.self).log c.start.ensures.log

pub returns-clause-faults : goal.returns-clause-faults
returns-clause-faults g c = starts_by c.start.result (g.B.Board.tells c.args.board.now) (g.B.Board.tells c.start.new.self) c.start.ensures.cause c.start.ensures.spared
