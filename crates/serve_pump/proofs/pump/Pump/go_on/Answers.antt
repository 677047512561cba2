use Rattle.std.proofs.Common.{◌<◌, refl, ap, ◌∙◌, subst, sym}
use Rattle.std.specs.Prelude.{Err}
use Rattle.serve_steps.specs.declared.end.ServeEnd.{ServeEnd}
use Rattle.serve_steps.specs.declared.end.ServeEnd.TheVariants as ends
use Rattle.serve_pump.specs.declared.pump.TurnStop.{TurnStop}
use Rattle.serve_pump.specs.Ending.{IsCaused, RanAt, end_of}
use Rattle.serve_pump.proofs.Going.{caused_behind, caused_by, caused_well, done_at, failed_at, hall_self, hall_then, stopped_at, under_way_on}
use Rattle.serve_pump.proofs.pump.Pump.go_on.Goals as goal

pub loop-init : goal.loop-init
loop-init g c = record {
  way = λ given before from way. way;
  serving = c.requires.serving;
  law = c.law.ensures;
  room = c.requires.room;
  spared = refl;
  no_write = refl;
  same = hall_self c.args.self.now.server;
}

pub loop-preserved : goal.loop-preserved
loop-preserved g c =
    let i = c.loop.invariant in
    let old_board = g.B.Board.tells c.loop.board in
    let new_board = g.B.Board.tells c.turn-turned.new.board in
    let old = g.O.Sink.tells c.loop.out in
    let new = g.O.Sink.tells c.turn-turned.new.out in
    record {
      way = λ given before from way.
          (let now = i.way given before from way in
          under_way_on given before from old new old_board.log new_board.log c.loop.self c.turn-turned.new.self now c.in-Ok-false.field-0
          c.in-Ok-false.field-0-test (c.in-Ok-false.ensures.turns given before now.first now.parts now.goes_on));
      serving = c.in-Ok-false.ensures.serving;
      law = c.law-in-loop.ensures;
      room = subst (λ n. 0 < n) (sym c.turn-turned.ensures.room) i.room;
      spared = c.turn-turned.ensures.spared (λ e. absurd (cc)) ∙ i.spared;
      no_write = c.turn-turned.ensures.no_write (λ e. absurd (cc)) ∙ i.no_write;
      same = hall_then c.args.self.now.server c.loop.self.server c.turn-turned.new.self.server i.same c.turn-turned.ensures.same;
    }

pub returns-in-Ok-true-clause-goes : goal.returns-in-Ok-true-clause-goes
returns-in-Ok-true-clause-goes g c = λ given before from way.
    let old_board = g.B.Board.tells c.loop.board in
    let new_board = g.B.Board.tells c.turn-turned.new.board in
    let old = g.O.Sink.tells c.loop.out in
    let new = g.O.Sink.tells c.turn-turned.new.out in
    let now = c.loop.invariant.way given before from way in
    done_at given before from old new old_board.log new_board.log c.loop.self c.turn-turned.new.self now c.begin_laws.ensures.report c.in-Ok-true.field-0
    c.in-Ok-true.field-0-test (c.in-Ok-true.ensures.turns given before now.first now.parts now.goes_on) c.law-in-loop.ensures

pub returns-in-Ok-true-clause-caused : goal.returns-in-Ok-true-clause-caused
returns-in-Ok-true-clause-caused g c =
    caused_well ends.Done (g.B.Board.tells c.args.board.now) (g.B.Board.tells c.turn-turned.new.board) (g.O.Sink.tells c.args.out.now)
    (g.O.Sink.tells c.turn-turned.new.out) (λ e. absurd (cc)) (λ e. absurd (cc)) (c.turn-turned.ensures.spared (λ e. absurd (cc)) ∙ c.loop.invariant.spared)
    (c.turn-turned.ensures.no_write (λ e. absurd (cc)) ∙ c.loop.invariant.no_write)

pub returns-in-Ok-true-clause-same : goal.returns-in-Ok-true-clause-same
returns-in-Ok-true-clause-same g c =
    hall_then c.args.self.now.server c.loop.self.server c.turn-turned.new.self.server c.loop.invariant.same c.turn-turned.ensures.same

pub returns-in-Err-clause-goes : goal.returns-in-Err-clause-goes
returns-in-Err-clause-goes g c = λ given before from way.
    let old_board = g.B.Board.tells c.loop.board in
    let new_board = g.B.Board.tells c.turn-turned.new.board in
    let old = g.O.Sink.tells c.loop.out in
    let new = g.O.Sink.tells c.turn-turned.new.out in
    let p = c.turn-turned.new.self in
    let now = c.loop.invariant.way given before from way in
    subst (λ (end : ServeEnd). RanAt end given before new_board.log p.server.desk from new) (sym c.end_of.ensures)
    (stopped_at given before from old new old_board.log new_board.log c.loop.self p now c.begin_laws.ensures.report c.loop.invariant.law (c.in-Err.ensures.breaks given before now.first now.parts now.goes_on)
    c.law-in-loop.ensures c.in-Err.stop
    (λ e.
    failed_at given before from old new old_board.log new_board.log c.loop.self p now c.begin_laws.ensures.told old_board new_board refl refl c.law-in-loop.ensures
    (c.in-Err.ensures.failed (ap (λ (stop : TurnStop). Err stop) e))))

pub returns-in-Err-clause-caused : goal.returns-in-Err-clause-caused
returns-in-Err-clause-caused g c =
    let first_board = g.B.Board.tells c.args.board.now in
    let old_board = g.B.Board.tells c.loop.board in
    let new_board = g.B.Board.tells c.turn-turned.new.board in
    let first = g.O.Sink.tells c.args.out.now in
    let old = g.O.Sink.tells c.loop.out in
    let new = g.O.Sink.tells c.turn-turned.new.out in
    let told = c.in-Err.ensures in
    subst (λ (end : ServeEnd). IsCaused end first_board new_board first new) (sym c.end_of.ensures)
    (caused_behind (end_of c.in-Err.stop c.turn-turned.new.self.server.desk.worn) first_board old_board new_board first old new c.loop.invariant.spared
    c.loop.invariant.no_write
    (caused_by c.in-Err.stop c.turn-turned.new.self.server.desk.worn old_board new_board old new (λ e. (told.failed (ap (λ (stop : TurnStop). Err stop) e)).failed)
    (λ n. told.spared (λ e. n (cc))) (λ e. told.write (ap (λ (stop : TurnStop). Err stop) e)) (λ n. told.no_write (λ e. n (cc)))))

pub returns-in-Err-clause-same : goal.returns-in-Err-clause-same
returns-in-Err-clause-same g c =
    hall_then c.args.self.now.server c.loop.self.server c.turn-turned.new.self.server c.loop.invariant.same c.turn-turned.ensures.same
