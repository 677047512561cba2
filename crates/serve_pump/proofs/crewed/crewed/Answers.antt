-- The machine, its entries and its replies may go to a worker's thread.
use denote.Param.Send.{sendable}
use Rattle.std.proofs.Common.{◌∙◌, refl, subst}
use Rattle.core_machine.proofs.Sending.{core_send}
use Rattle.history_lock.specs.Passes.{hall, known}
use Rattle.machine_steps.proofs.Sending.{entry_send, reply_send}
use Rattle.worker_crew.specs.Takers.{account}
use Rattle.serve_steps.specs.declared.end.ServeEnd.{ServeEnd}
use Rattle.serve_steps.specs.declared.end.ServeEnd.TheVariants as ends
use Rattle.serve_pump.specs.Beginning.{given_by}
use Rattle.serve_pump.specs.Resting.{RestsBy}
use Rattle.serve_pump.proofs.Beside.{ended}
use Rattle.serve_pump.proofs.Closed.{cause_of, never_ran}
use Rattle.serve_pump.proofs.Going.{caused_well}
use Rattle.serve_pump.proofs.crewed.crewed.Goals as goal

pub with_workers-pass-requires-send-M : goal.with_workers-pass-requires-send-M
with_workers-pass-requires-send-M g c κs within = search (core_send, sendable) depth 60 fits 20000

pub with_workers-pass-requires-send-M-Entry : goal.with_workers-pass-requires-send-M-Entry
with_workers-pass-requires-send-M-Entry g c κs within = search (entry_send, sendable) depth 60 fits 20000

pub with_workers-pass-requires-send-M-Reply : goal.with_workers-pass-requires-send-M-Reply
with_workers-pass-requires-send-M-Reply g c κs within = search (reply_send, sendable) depth 60 fits 20000

pub returns-in_default-clause-ends : goal.returns-in_default-clause-ends
returns-in_default-clause-ends g c =
    never_ran c.ending_laws.ensures (given_by c.args.opening.start.value c.args.startup.now) (g.B.Board.tells c.args.board.now) (g.O.Sink.tells c.args.out.now)

pub returns-in_default-clause-cause : goal.returns-in_default-clause-cause
returns-in_default-clause-cause g c =
    let board = g.B.Board.tells c.args.board.now in
    let to = g.O.Sink.tells c.args.out.now in
    cause_of ends.NoMemory board board to to (caused_well ends.NoMemory board board to to (λ e. absurd (cc)) (λ e. absurd (cc)) refl refl)

pub returns-clause-ends : goal.returns-clause-ends
returns-clause-ends g c =
    let opened = c.requires.opened in
    let run = c.with_workers-pass.result.3 in
    let outcome = c.with_workers-pass.result.2 in
    let crew = c.with_workers-pass.ensures in
    let ran = crew.crewed in
    let opens = crew.stays.1 ∙ opened.ahead.opens in
    let all = c.close_hall-2.ensures in
    let x = known c.with_workers-pass.result.0 in
    let l = known c.tell_rest-end.new.pass in
    let mid = g.O.Sink.tells run.out.now in
    let to = g.O.Sink.tells c.tell_rest-end.new.out in
    let rests = subst (λ (end : ServeEnd). RestsBy end c.tell_rest-end.result x l mid to) c.joined-end.ensures c.tell_rest-end.ensures.rests in
    (ended c.ending_laws.ensures (given_by c.args.opening.start.value c.args.startup.now) c.args.opening.start.value opened.machine opened.ahead.sound c.args.opening.budget
    outcome ran.mine x l ran.account (account c.with_workers-pass.result.1) (g.B.Board.tells c.args.board.now) (g.B.Board.tells run.board.now)
    (g.O.Sink.tells c.args.out.now) mid to ran.toiled ran.number (ran.led opened.ahead.leads) opens (c.tell_rest-end.ensures.stays.1 ∙ opens)
    (crew.stays.2 ∙ c.requires.all) (hall c.with_workers-pass.result.0) all.legal all.enough all.all_own run.end c.tell_rest-end.result ran.drove.2 rests).0

pub returns-clause-cause : goal.returns-clause-cause
returns-clause-cause g c =
    let opened = c.requires.opened in
    let run = c.with_workers-pass.result.3 in
    let outcome = c.with_workers-pass.result.2 in
    let crew = c.with_workers-pass.ensures in
    let ran = crew.crewed in
    let opens = crew.stays.1 ∙ opened.ahead.opens in
    let all = c.close_hall-2.ensures in
    let x = known c.with_workers-pass.result.0 in
    let l = known c.tell_rest-end.new.pass in
    let mid = g.O.Sink.tells run.out.now in
    let to = g.O.Sink.tells c.tell_rest-end.new.out in
    let rests = subst (λ (end : ServeEnd). RestsBy end c.tell_rest-end.result x l mid to) c.joined-end.ensures c.tell_rest-end.ensures.rests in
    (ended c.ending_laws.ensures (given_by c.args.opening.start.value c.args.startup.now) c.args.opening.start.value opened.machine opened.ahead.sound c.args.opening.budget
    outcome ran.mine x l ran.account (account c.with_workers-pass.result.1) (g.B.Board.tells c.args.board.now) (g.B.Board.tells run.board.now)
    (g.O.Sink.tells c.args.out.now) mid to ran.toiled ran.number (ran.led opened.ahead.leads) opens (c.tell_rest-end.ensures.stays.1 ∙ opens)
    (crew.stays.2 ∙ c.requires.all) (hall c.with_workers-pass.result.0) all.legal all.enough all.all_own run.end c.tell_rest-end.result ran.drove.2 rests).1
