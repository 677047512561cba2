use Rattle.serve_cases.proofs.Opened.{own_on}
use Rattle.serve_cases.proofs.slow_board.SlowBoardBoard.send.Goals as goal

pub invariant_of-self : goal.invariant_of-self
invariant_of-self c =
    own_on c.self.inside.acts.value c.self.inside.board.log c.taking-self-inside.result.value c.args.connection c.take-sent.result c.args.piece.now
    c.taking-self-inside.ensures c.self.invariant
