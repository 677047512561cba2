use Rattle.std.proofs.Common.{◌∙◌, ap, length, map, subst, sym}
use Rattle.machine_desk.specs.Desks.{DeskView}
use Rattle.sim_driver.specs.declared.drive.SimEnd.{SimEnd}
use Rattle.sim_driver.specs.Passes.{DroveAt, EndsAt, given_by}
use Rattle.sim_driver.specs.Runs.{refused_line}
use Rattle.sim_driver.proofs.Beside.{Told, with_memory_drove}
use Rattle.sim_driver.proofs.Opened.{never_drove}
use Rattle.sim_driver.proofs.lines.at_desk.Goals as goal

pub returns-in-Ok-clause-drove : goal.returns-in-Ok-clause-drove
returns-in-Ok-clause-drove g c =
    let devices = map g.D.Device.meaning c.args.devices.now in
    let given = λ (d : DeskView). given_by d.now devices c.args.script.now c.args.first in
    let refused = refused_line (length c.args.devices.now) c.args.first c.args.script.now in
    let last = c.run_lines-end.new.driver.desk in
    let after = map g.D.Device.meaning c.run_lines-end.new.devices in
    let old = g.O.Sink.tells c.args.to.now in
    let new = g.O.Sink.tells c.run_lines-end.new.to in
    let lines = c.run_lines-end.ensures in
    let ends = subst (λ (d : DeskView). EndsAt c.run_lines-end.result (given d) last after old new) c.in-Ok.ensures.desk lines.ends in
    let told : Told c.run_lines-end.result refused old new = record { done = lines.done; script = lines.script; writes = record { fault = lines.fault; spared = lines.spared } } in
    subst (λ (d : DeskView). DroveAt c.with_memory-end.result (given c.args.desk) refused d after old new) (sym c.into_parts-desk.ensures.desk) (
    subst (λ (end : SimEnd). DroveAt end (given c.args.desk) refused last after old new) (sym c.with_memory-end.ensures) (
    with_memory_drove c.run_lines-end.result c.had_memory.result (given c.args.desk) refused last after old new ends told c.had_memory.ensures c.law.ensures.room))

pub returns-in-Err-clause-drove : goal.returns-in-Err-clause-drove
returns-in-Err-clause-drove g c =
    let devices = map g.D.Device.meaning c.args.devices.now in
    let given = given_by c.args.desk.now devices c.args.script.now c.args.first in
    let refused = refused_line (length c.args.devices.now) c.args.first c.args.script.now in
    let opened = c.requires.opened in
    never_drove given (record { laws = c.deed_laws.ensures; ranges = opened.ranges; idle = opened.idle }) refused c.in-Err.desk devices
    (g.O.Sink.tells c.args.to.now)
    (ap (λ (d : DeskView). d.past) c.in-Err.ensures.back.0 ∙ opened.opened.start.none)
