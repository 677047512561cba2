use Rattle.std.proofs.Common.{map}
use Rattle.sim_driver.specs.Runs.{given}
use Rattle.sim_driver.proofs.Opened.{never_ran}
use Rattle.sim_driver.proofs.drive.drive.Goals as goal

pub returns-in_default-clause-ends : goal.returns-in_default-clause-ends
returns-in_default-clause-ends g c =
    let devices = map g.D.Device.meaning c.args.devices.now in
    let given = given c.args.policy c.args.settings devices c.args.script.now c.args.first in
    never_ran given (record { laws = c.deed_laws.ensures; ranges = c.requires.ranges; idle = c.requires.idle }) devices (g.O.Sink.tells c.args.to.now)
