use Rattle.std.proofs.Common.{◌≡◌, refl, ap, ◌∙◌, subst, sym}
use Rattle.std.specs.Prelude.{Err, Ok}
use Rattle.serve_steps.specs.declared.end.ServeEnd.{ServeEnd}
use Rattle.serve_steps.specs.declared.end.ServeEnd.TheVariants as ends
use Rattle.serve_pump.specs.declared.pump.TurnStop.{TurnStop}
use Rattle.serve_pump.specs.declared.startup.Begun.{Begun}
use Rattle.serve_pump.specs.declared.startup.Begun.TheVariants as begun
use Rattle.serve_pump.specs.Beginning.{given_at}
use Rattle.serve_pump.specs.Ending.{IsCaused, RanAt}
use Rattle.serve_pump.proofs.Going.{caused_behind, caused_by, caused_well, failed_begun, hall_of, hall_then, quit_begun, refused_begun, stopped_begun, way_begun}
use Rattle.serve_pump.proofs.pump.Pump.run.Goals as goal

pub returns-in-Ok-Listening-clause-ran : goal.returns-in-Ok-Listening-clause-ran
returns-in-Ok-Listening-clause-ran g c =
    let how = rw c.in-Ok-Listening.is at c.in-Ok-Listening.field-0-is in
    let is : c.begin-begun.result ≡ Ok begun.Listening = c.in-Ok-Listening.is ∙ ap (λ (b : Begun). Ok b) how in
    let given = given_at c.args.self.now.server c.args.startup.now in
    let log = (g.B.Board.tells c.args.board.now).log in
    let old = g.O.Sink.tells c.args.out.now in
    c.go_on.ensures.goes given log old
    (way_begun c.begin_laws.ensures given log (g.B.Board.tells c.begin-begun.new.board).log c.begin-begun.new.self c.law.ensures old
    (g.O.Sink.tells c.begin-begun.new.out)
    (rw is at c.begin-begun.ensures.begins))

pub returns-in-Ok-Listening-clause-caused : goal.returns-in-Ok-Listening-clause-caused
returns-in-Ok-Listening-clause-caused g c =
    caused_behind c.go_on.result (g.B.Board.tells c.args.board.now) (g.B.Board.tells c.begin-begun.new.board) (g.B.Board.tells c.go_on.new.board)
    (g.O.Sink.tells c.args.out.now) (g.O.Sink.tells c.begin-begun.new.out) (g.O.Sink.tells c.go_on.new.out) (c.begin-begun.ensures.spared (λ e. absurd (cc)))
    (c.begin-begun.ensures.no_write (λ e. absurd (cc))) c.go_on.ensures.caused

pub returns-in-Ok-Listening-clause-same : goal.returns-in-Ok-Listening-clause-same
returns-in-Ok-Listening-clause-same g c =
    hall_then c.args.self.now.server c.begin-begun.new.self.server c.go_on.new.self.server
    (hall_of c.args.self.now.server c.begin-begun.new.self.server c.begin-begun.ensures.same) c.go_on.ensures.same

pub returns-in-Ok-Quit-clause-ran : goal.returns-in-Ok-Quit-clause-ran
returns-in-Ok-Quit-clause-ran g c =
    let how = rw c.in-Ok-Quit.is at c.in-Ok-Quit.field-0-is in
    let is : c.begin-begun.result ≡ Ok begun.Quit = c.in-Ok-Quit.is ∙ ap (λ (b : Begun). Ok b) how in
    quit_begun c.begin_laws.ensures (given_at c.args.self.now.server c.args.startup.now) (g.B.Board.tells c.args.board.now).log
    (g.B.Board.tells c.begin-begun.new.board).log c.begin-begun.new.self c.law.ensures (g.O.Sink.tells c.args.out.now) (g.O.Sink.tells c.begin-begun.new.out)
    (rw is at c.begin-begun.ensures.begins)

pub returns-in-Ok-Quit-clause-caused : goal.returns-in-Ok-Quit-clause-caused
returns-in-Ok-Quit-clause-caused g c =
    caused_well ends.Done (g.B.Board.tells c.args.board.now) (g.B.Board.tells c.begin-begun.new.board) (g.O.Sink.tells c.args.out.now)
    (g.O.Sink.tells c.begin-begun.new.out) (λ e. absurd (cc)) (λ e. absurd (cc)) (c.begin-begun.ensures.spared (λ e. absurd (cc)))
    (c.begin-begun.ensures.no_write (λ e. absurd (cc)))

pub returns-in-Ok-Quit-clause-same : goal.returns-in-Ok-Quit-clause-same
returns-in-Ok-Quit-clause-same g c = hall_of c.args.self.now.server c.begin-begun.new.self.server c.begin-begun.ensures.same

pub returns-in-Ok-Refused-clause-ran : goal.returns-in-Ok-Refused-clause-ran
returns-in-Ok-Refused-clause-ran g c =
    let how = rw c.in-Ok-Refused.is at c.in-Ok-Refused.field-0-is in
    let is : c.begin-begun.result ≡ Ok (begun.Refused c.in-Ok-Refused.line c.in-Ok-Refused.kind) = c.in-Ok-Refused.is ∙ ap (λ (b : Begun). Ok b) how in
    refused_begun c.begin_laws.ensures (given_at c.args.self.now.server c.args.startup.now) (g.B.Board.tells c.args.board.now).log
    (g.B.Board.tells c.begin-begun.new.board).log c.begin-begun.new.self c.law.ensures (g.O.Sink.tells c.args.out.now) (g.O.Sink.tells c.begin-begun.new.out)
    c.in-Ok-Refused.line c.in-Ok-Refused.kind (rw is at c.begin-begun.ensures.begins)

pub returns-in-Ok-Refused-clause-caused : goal.returns-in-Ok-Refused-clause-caused
returns-in-Ok-Refused-clause-caused g c =
    caused_well (ends.Script c.in-Ok-Refused.line c.in-Ok-Refused.kind) (g.B.Board.tells c.args.board.now) (g.B.Board.tells c.begin-begun.new.board)
    (g.O.Sink.tells c.args.out.now) (g.O.Sink.tells c.begin-begun.new.out) (λ e. absurd (cc)) (λ e. absurd (cc))
    (c.begin-begun.ensures.spared (λ e. absurd (cc))) (c.begin-begun.ensures.no_write (λ e. absurd (cc)))

pub returns-in-Ok-Refused-clause-same : goal.returns-in-Ok-Refused-clause-same
returns-in-Ok-Refused-clause-same g c = hall_of c.args.self.now.server c.begin-begun.new.self.server c.begin-begun.ensures.same

pub returns-in-Err-clause-ran : goal.returns-in-Err-clause-ran
returns-in-Err-clause-ran g c =
    let given = given_at c.args.self.now.server c.args.startup.now in
    let old_board = g.B.Board.tells c.args.board.now in
    let new_board = g.B.Board.tells c.begin-begun.new.board in
    let old = g.O.Sink.tells c.args.out.now in
    let new = g.O.Sink.tells c.begin-begun.new.out in
    let p = c.begin-begun.new.self in
    subst (λ (end : ServeEnd). RanAt end given old_board.log new_board.log p.server.desk old new) (sym c.end_of.ensures)
    (stopped_begun c.begin_laws.ensures given old_board.log new_board.log p c.law.ensures old new c.in-Err.ensures.breaks c.in-Err.stop
    (λ e.
    failed_begun c.begin_laws.ensures given old_board.log new_board.log p c.law.ensures old new old_board new_board refl refl
    (c.in-Err.ensures.failed (ap (λ (stop : TurnStop). Err stop) e))))

pub returns-in-Err-clause-caused : goal.returns-in-Err-clause-caused
returns-in-Err-clause-caused g c =
    let old_board = g.B.Board.tells c.args.board.now in
    let new_board = g.B.Board.tells c.begin-begun.new.board in
    let old = g.O.Sink.tells c.args.out.now in
    let new = g.O.Sink.tells c.begin-begun.new.out in
    let told = c.in-Err.ensures in
    subst (λ (end : ServeEnd). IsCaused end old_board new_board old new) (sym c.end_of.ensures)
    (caused_by c.in-Err.stop c.begin-begun.new.self.server.desk.worn old_board new_board old new
    (λ e. (told.failed (ap (λ (stop : TurnStop). Err stop) e)).failed) (λ n. told.spared (λ e. n (cc)))
    (λ e. told.write (ap (λ (stop : TurnStop). Err stop) e)) (λ n. told.no_write (λ e. n (cc))))

pub returns-in-Err-clause-same : goal.returns-in-Err-clause-same
returns-in-Err-clause-same g c = hall_of c.args.self.now.server c.begin-begun.new.self.server c.begin-begun.ensures.same
