use Rattle.std.proofs.Common.{refl}
use Rattle.serve_steps.specs.declared.end.ServeEnd.TheVariants as ends
use Rattle.serve_steps.specs.Parts.{given}
use Rattle.serve_pump.proofs.Closed.{cause_of, never_ran}
use Rattle.serve_pump.proofs.Going.{caused_well}
use Rattle.serve_pump.proofs.serve.run_serve.Goals as goal

pub returns-in_default-clause-ends : goal.returns-in_default-clause-ends
returns-in_default-clause-ends g c =
    never_ran c.ending_laws.ensures (given c.args.policy c.args.settings c.args.start.now c.args.first_line c.args.listen c.args.control)
    (g.B.Board.tells c.args.board.now) (g.O.Sink.tells c.args.out.now)

pub returns-in_default-clause-cause : goal.returns-in_default-clause-cause
returns-in_default-clause-cause g c =
    let board = g.B.Board.tells c.args.board.now in
    let to = g.O.Sink.tells c.args.out.now in
    cause_of ends.NoMemory board board to to (caused_well ends.NoMemory board board to to (λ e. absurd (cc)) (λ e. absurd (cc)) refl refl)
