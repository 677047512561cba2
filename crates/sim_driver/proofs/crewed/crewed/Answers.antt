-- The machine, its entries and its replies may go to a worker's thread.
use denote.Param.Send.{sendable}
use Rattle.std.proofs.Common.{◌∙◌, length, map, subst, sym}
use Rattle.core_machine.proofs.Sending.{core_send}
use Rattle.history_lock.specs.Passes.{known}
use Rattle.machine_steps.proofs.Sending.{entry_send, reply_send}
use Rattle.worker_crew.specs.Takers.{account}
use Rattle.sim_driver.specs.declared.drive.SimEnd.{SimEnd}
use Rattle.sim_driver.specs.Passes.{given_by}
use Rattle.sim_driver.specs.Runs.{Ends, refused_line}
use Rattle.sim_driver.proofs.Beside.{joined_ends}
use Rattle.sim_driver.proofs.Going.{Known}
use Rattle.sim_driver.proofs.Opened.{never_ran}
use Rattle.sim_driver.proofs.crewed.crewed.Goals as goal

pub with_workers-pass-requires-send-M : goal.with_workers-pass-requires-send-M
with_workers-pass-requires-send-M g c κs within = search (core_send, sendable) depth 60 fits 20000

pub with_workers-pass-requires-send-M-Entry : goal.with_workers-pass-requires-send-M-Entry
with_workers-pass-requires-send-M-Entry g c κs within = search (entry_send, sendable) depth 60 fits 20000

pub with_workers-pass-requires-send-M-Reply : goal.with_workers-pass-requires-send-M-Reply
with_workers-pass-requires-send-M-Reply g c κs within = search (reply_send, sendable) depth 60 fits 20000

pub returns-in_default-clause-ends : goal.returns-in_default-clause-ends
returns-in_default-clause-ends g c =
    let devices = map g.D.Device.meaning c.args.devices.now in
    let given = given_by c.args.opening.start.value devices c.args.script.now c.args.first in
    let opened = c.requires.opened in
    never_ran given (record { laws = c.deed_laws.ensures; ranges = opened.ranges; idle = opened.idle }) devices (g.O.Sink.tells c.args.to.now)

pub returns-clause-ends : goal.returns-clause-ends
returns-clause-ends g c =
    let devices = map g.D.Device.meaning c.args.devices.now in
    let given = given_by c.args.opening.start.value devices c.args.script.now c.args.first in
    let refused = refused_line (length c.args.devices.now) c.args.first c.args.script.now in
    let opened = c.requires.opened in
    let told : Known given = record { laws = c.deed_laws.ensures; ranges = opened.ranges; idle = opened.idle } in
    let run = c.with_workers-pass.result.3 in
    let after = map g.D.Device.meaning run.devices.now in
    let old = g.O.Sink.tells c.args.to.now in
    let new = g.O.Sink.tells run.to.now in
    let crew = c.with_workers-pass.ensures in
    let last = known c.with_workers-pass.result.0 in
    let ran = crew.crewed in
    let all = c.close_hall-2.ensures in
    let ends =
    joined_ends c.hearing_laws.ensures.room c.legal_laws.ensures.turns c.between_laws.ensures.frozen c.between_laws.ensures.stays run.end c.with_workers-pass.result.2 given told refused
    c.args.opening.start.value opened.opened.machine c.requires.beside.0 c.args.opening.budget ran.mine last ran.account (account c.with_workers-pass.result.1)
    after old new
    ran.drove.2 ran.toiled ran.number all.enough (ran.led opened.opened.ahead.leads) all.legal (crew.stays.1 ∙ opened.opened.ahead.opens) all.all_own in
    subst (λ (end : SimEnd). Ends end given after old new) (sym c.joined.ensures) ends
