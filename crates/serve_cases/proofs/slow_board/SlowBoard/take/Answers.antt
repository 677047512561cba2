use Rattle.serve_cases.proofs.Opened.{under_on}
use Rattle.serve_cases.proofs.slow_board.SlowBoard.take.Goals as goal

pub invariant_of-self-2 : goal.invariant_of-self-2
invariant_of-self-2 c =
    under_on c.self.inside.acts.value c.self.inside.board.log c.send.new.self.log c.args.connection c.send.result _
    c.send.ensures.log c.self.invariant
