use Rattle.std.proofs.Common.{◌≤◌, length, map, rules, subst, sym}
use Rattle.history_lock.specs.Histories.{AreAllPositions}
use Rattle.history_lock.specs.Passes.{known}
use Rattle.sim_driver.specs.declared.drive.SimEnd.{SimEnd}
use Rattle.sim_driver.specs.Passes.{given_by}
use Rattle.sim_driver.specs.Runs.{Ends, refused_line}
use Rattle.sim_driver.proofs.Halls.{alone_ends}
use Rattle.sim_driver.proofs.alone.alone.Goals as goal

pub returns-clause-ends : goal.returns-clause-ends
returns-clause-ends g c =
    let given = given_by c.args.opening.start.value (map g.D.Device.meaning c.args.devices.now) c.args.script.now c.args.first in
    let refused = refused_line (length c.args.devices.now) c.args.first c.args.script.now in
    let after = map g.D.Device.meaning c.at_pass.new.devices in
    let old = g.O.Sink.tells c.args.to.now in
    let new = g.O.Sink.tells c.at_pass.new.to in
    let last = known c.at_pass.result.pass.now in
    let enough : last.number ≤ length last.seen = search rules in
    let all : AreAllPositions (length last.seen) last.own = search rules in
    let ends = alone_ends c.at_pass.result.end given refused c.args.opening.start.value last after old new enough all c.at_pass.ensures.drove in
    subst (λ (end : SimEnd). Ends end given after old new) (sym c.into_end-end.ensures.end) ends
