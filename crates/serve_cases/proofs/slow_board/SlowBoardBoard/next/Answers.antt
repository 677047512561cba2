use Rattle.std.proofs.Common.{ap}
use Rattle.maple_io.specs.Turns.{given_acts}
use Rattle.serve_cases.specs.Slow.{SlowView}
use Rattle.serve_cases.proofs.Opened.{both_on, opens_anew}
use Rattle.serve_cases.proofs.slow_board.SlowBoardBoard.next.Goals as goal

pub invariant_of-self : goal.invariant_of-self
invariant_of-self c =
    both_on c.self.inside.acts.value c.self.inside.board.log (given_acts c.next-turn.result c.next-turn.new.into)
    c.giving-self-inside.result.value c.next-turn.new.self.log c.giving-self-inside.ensures c.next-turn.ensures.log c.self.invariant

pub returns-clause-anew : goal.returns-clause-anew
returns-clause-anew c =
    opens_anew c.next-turn.result c.self.inside.acts.value c.self.inside.board.log c.args.self.now.log
    (ap (λ (s : SlowView). s.log) c.self.view_is) c.self.invariant c.next-turn.ensures.anew
