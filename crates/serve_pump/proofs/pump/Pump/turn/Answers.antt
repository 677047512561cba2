use Rattle.std.proofs.Common.{◌≡◌, Err, ap, ◌∙◌, refl}
use Rattle.core_machine.proofs.Hearing.{on_err}
use Rattle.serve_pump.specs.declared.pump.Pump.{Pump}
use Rattle.serve_pump.specs.declared.pump.TurnStop.{TurnStop}
use Rattle.serve_pump.specs.declared.pump.TurnStop.TheVariants as stops
use Rattle.serve_pump.proofs.Turned.{breaks_followed, breaks_told, serving_told, turned_by, turns_by}
use Rattle.serve_pump.proofs.pump.Pump.turn.Goals as goal

pub returns-in-Err-clause-failed : goal.returns-in-Err-clause-failed
returns-in-Err-clause-failed g c = λ e.
    let same : c.in-Err.stop ≡ stops.Board = cc in
    c.in-Err.ensures.failed (ap (λ (stop : TurnStop). Err stop) same) (g.O.Sink.tells c.args.out.now)

pub follow-followed-requires-clause-turned : goal.follow-followed-requires-clause-turned
follow-followed-requires-clause-turned g c =
    turned_by c.in-Ok.turn c.args.self.now c.next.new.self (g.B.Board.tells c.args.board.now) (g.B.Board.tells c.next.new.board) c.in-Ok.ensures.received
    c.mark.new.self c.mark.ensures c.requires.serving

pub returns-in_err-ended-clause-breaks : goal.returns-in_err-ended-clause-breaks
returns-in_err-ended-clause-breaks g c =
    on_err c.from_residual.result _
    (breaks_followed c.in-Ok.turn c.args.self.now c.next.new.self (g.B.Board.tells c.args.board.now) (g.B.Board.tells c.next.new.board) c.in-Ok.ensures.received
    c.mark.new.self c.mark.ensures c.follow-followed.new.self _ c.turn_laws.ensures.report c.follow-followed.ensures.same.footing c.follow-followed.ensures.quietly
    c.law.ensures (g.O.Sink.tells c.args.out.now))

pub returns-in-Ok-reported-clause-turns : goal.returns-in-Ok-reported-clause-turns
returns-in-Ok-reported-clause-turns g c =
    let f = c.follow-followed.new.self in
    let done = c.in_ok-ended.ensures in
    let told = c.in-Ok-reported.ensures in
    let q : Pump = record f { server = c.report-reported.new.self } in
    turns_by c.in-Ok.turn c.args.self.now c.next.new.self (g.B.Board.tells c.args.board.now) (g.B.Board.tells c.next.new.board) c.in-Ok.ensures.received
    c.mark.new.self c.mark.ensures f _ done.follows q (g.O.Sink.tells c.args.out.now) (g.O.Sink.tells c.report-reported.new.out) c.turn_laws.ensures
    c.in_ok-ended.ended done.reads done.live done.still told.goes told.reports told.rest told.still refl c.law-2.ensures

pub returns-in-Ok-reported-clause-serving : goal.returns-in-Ok-reported-clause-serving
returns-in-Ok-reported-clause-serving g c =
    let f = c.follow-followed.new.self in
    let q : Pump = record f { server = c.report-reported.new.self } in
    serving_told c.in-Ok.turn c.args.self.now c.next.new.self (g.B.Board.tells c.args.board.now) (g.B.Board.tells c.next.new.board) c.in-Ok.ensures.received
    c.mark.new.self c.mark.ensures f _ c.in_ok-ended.ensures.follows q (g.O.Sink.tells c.args.out.now) (g.O.Sink.tells c.report-reported.new.out)
    c.requires.serving c.in-Ok-reported.ensures.goes

pub returns-in-Err-reported-clause-breaks : goal.returns-in-Err-reported-clause-breaks
returns-in-Err-reported-clause-breaks g c =
    let f = c.follow-followed.new.self in
    let q : Pump = record f { server = c.report-reported.new.self } in
    breaks_told c.in-Ok.turn c.args.self.now c.next.new.self (g.B.Board.tells c.args.board.now) (g.B.Board.tells c.next.new.board) c.in-Ok.ensures.received
    c.mark.new.self c.mark.ensures f _ c.in_ok-ended.ensures.follows q (g.O.Sink.tells c.args.out.now) (g.O.Sink.tells c.report-reported.new.out)
    c.turn_laws.ensures.report c.in-Err-reported.stop c.in-Err-reported.ensures.reports (c.report-reported.ensures.same.footing ∙ c.follow-followed.ensures.same.footing)
    c.follow-followed.ensures.quietly c.law-2.ensures
