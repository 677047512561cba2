use Rattle.sim_channels.proofs.Ended.{leaves}
use Rattle.sim_channels.proofs.driver.Driver.leave.Goals as goal

pub returns-clause-leaves : goal.returns-clause-leaves
returns-clause-leaves g c =
    let h = c.in_ok-close.ensures in
    leaves c.driving_laws.ensures c.args.at c.args.self.now c.close.new.self c.requires.kept c.requires.plugged h.closes h.kept c.close.ensures.same
