use Rattle.std.proofs.Common.{◌≡◌, ◌≤◌, ◌∙◌, length, rules, subst, sym}
use Rattle.std.specs.Prelude.{Some}
use Rattle.history_lock.specs.Histories.{AreAllPositions, HasSeenLegal}
use Rattle.history_lock.specs.Passes.{known}
use Rattle.machine_sharing.specs.Sharing.{Turns}
use Rattle.serve_steps.specs.declared.end.ServeEnd.{ServeEnd}
use Rattle.serve_steps.specs.Runs.{HasCause, HasRun}
use Rattle.serve_pump.specs.Beginning.{given_by}
use Rattle.serve_pump.proofs.Closed.{cause_of, closed_alone}
use Rattle.serve_pump.proofs.alone.alone.Goals as goal

pub returns-clause-ends : goal.returns-clause-ends
returns-clause-ends g c =
    let given = given_by c.args.opening.start.value c.args.startup.now in
    let start = c.args.opening.start.value in
    let opened = c.requires.opened in
    let old_board = g.B.Board.tells c.args.board.now in
    let new_board = g.B.Board.tells c.at_pass.new.board in
    let old = g.O.Sink.tells c.args.out.now in
    let new = g.O.Sink.tells c.at_pass.new.out in
    let last = known c.at_pass.result.pass.now in
    let enough : last.number ≤ length last.seen = search rules in
    let all : AreAllPositions (length last.seen) last.own = search rules in
    let closed = c.close_hall.ensures.legal in
    let legal : HasSeenLegal Turns last = (closed.0, (closed.1.0, search rules, search rules)) in
    let opens : last.opening ≡ Some start = c.at_pass.ensures.hall.1 ∙ opened.ahead.opens in
    let run =
    closed_alone c.ending_laws.ensures given start opened.machine last opens legal c.at_pass.result.end old_board new_board old new c.at_pass.ensures.drove
    enough all in
    subst (λ (end : ServeEnd). HasRun end given old_board new_board old new) (sym c.into_end-end.ensures.end) run

pub returns-clause-cause : goal.returns-clause-cause
returns-clause-cause g c =
    let old_board = g.B.Board.tells c.args.board.now in
    let new_board = g.B.Board.tells c.at_pass.new.board in
    let old = g.O.Sink.tells c.args.out.now in
    let new = g.O.Sink.tells c.at_pass.new.out in
    subst (λ (end : ServeEnd). HasCause end old_board new_board old new) (sym c.into_end-end.ensures.end)
    (cause_of c.at_pass.result.end old_board new_board old new c.at_pass.ensures.drove.caused)
