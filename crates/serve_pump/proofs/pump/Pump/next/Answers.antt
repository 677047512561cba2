use Rattle.std.proofs.Common.{refl}
use Rattle.std.specs.Vec.{with_items}
use Rattle.core_machine.proofs.Hearing.{on_err}
use Rattle.serve_pump.specs.declared.pump.Pump.{Pump}
use Rattle.serve_pump.proofs.Turned.{breaks_given, breaks_unbegun, comes_else, fails_at_board, fails_else, received_in, stays_failed, stays_lacking}
use Rattle.serve_pump.proofs.pump.Pump.next.Goals as goal

pub returns-in_err-turn-clause-breaks : goal.returns-in_err-turn-clause-breaks
returns-in_err-turn-clause-breaks g c =
    let new : Pump = record c.args.self.now { server = c.receive.new.self; room = with_items c.args.self.now.room c.receive.new.into } in
    on_err c.from_residual.result _
    (breaks_given c.args.self.now new c.law.ensures c.receive.ensures.desk c.turn_laws.ensures.report _ _ c.in_err-turn.ensures.stopped.0)

pub returns-in-Failed-clause-breaks : goal.returns-in-Failed-clause-breaks
returns-in-Failed-clause-breaks g c =
    let new : Pump = record c.args.self.now { server = c.receive.new.self; room = with_items c.args.self.now.room c.receive.new.into } in
    breaks_unbegun c.args.self.now new c.law.ensures c.receive.ensures.desk c.turn_laws.ensures.report _ _
    (stays_failed c.in_ok-turn.turn _ c.args.self.now.server c.receive.new.self _ _ c.in-Failed.is c.in_ok-turn.ensures.receives)

pub returns-in-Failed-clause-failed : goal.returns-in-Failed-clause-failed
returns-in-Failed-clause-failed g c = λ e.
    let new : Pump = record c.args.self.now { server = c.receive.new.self; room = with_items c.args.self.now.room c.receive.new.into } in
    fails_at_board c.args.self.now new (g.B.Board.tells c.args.board.now) (g.B.Board.tells c.receive.new.board) c.in_ok-turn.turn c.in-Failed.is c.requires.serving
    (stays_failed c.in_ok-turn.turn _ c.args.self.now.server c.receive.new.self _ _ c.in-Failed.is c.in_ok-turn.ensures.receives) c.in_ok-turn.ensures.faults
    c.receive.ensures.desk refl

pub returns-in-NoMemory-clause-breaks : goal.returns-in-NoMemory-clause-breaks
returns-in-NoMemory-clause-breaks g c =
    let new : Pump = record c.args.self.now { server = c.receive.new.self; room = with_items c.args.self.now.room c.receive.new.into } in
    breaks_unbegun c.args.self.now new c.law.ensures c.receive.ensures.desk c.turn_laws.ensures.report _ _
    (stays_lacking c.in_ok-turn.turn _ c.args.self.now.server c.receive.new.self _ _ c.in-NoMemory.is c.in_ok-turn.ensures.receives)

pub returns-in_default-clause-received : goal.returns-in_default-clause-received
returns-in_default-clause-received g c =
    received_in c.in_ok-turn.turn c.args.self.now c.receive.new.self c.receive.new.into _ (g.B.Board.tells c.args.board.now) (g.B.Board.tells c.receive.new.board) c.receive.auto.into c.deref_mut.ensures.value
    (comes_else c.in_ok-turn.turn c.in_default.not-Failed c.in_default.not-NoMemory) c.in_ok-turn.ensures.receives c.in_ok-turn.ensures.within
    (fails_else c.in_ok-turn.turn _ _ c.in_default.not-Failed c.in_ok-turn.ensures.faults)
