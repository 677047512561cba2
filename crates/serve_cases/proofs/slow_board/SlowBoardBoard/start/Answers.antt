use Rattle.maple_io.specs.Turns.{started_acts}
use Rattle.serve_cases.proofs.Opened.{both_on}
use Rattle.serve_cases.proofs.slow_board.SlowBoardBoard.start.Goals as goal

pub invariant_of-self : goal.invariant_of-self
invariant_of-self c =
    both_on c.self.inside.acts.value c.self.inside.board.log (started_acts c.args.listen c.args.control c.start-started.result)
    c.starting-self-inside.result.value c.start-started.new.self.log c.starting-self-inside.ensures c.start-started.ensures.log c.self.invariant
