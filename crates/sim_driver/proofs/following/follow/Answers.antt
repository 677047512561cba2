use Rattle.std.proofs.Common.{map}
use Rattle.sim_driver.proofs.Reporting.{follows_by}
use Rattle.sim_driver.proofs.following.follow.Goals as goal

pub returns-clause-follows : goal.returns-clause-follows
returns-clause-follows g c =
    let was = c.args.driver.now in
    let before = map g.D.Device.meaning c.args.all.now in
    let after = map g.D.Device.meaning c.obey.new.devices in
    let d = c.obey.new.driver in
    let done = c.in-Ok.ensures in
    let told = c.report.ensures in
    follows_by c.driving_laws.ensures c.resting_laws.ensures d c.report.new.driver after told.rest done.fits done.rest c.report.result c.args.step c.args.text.now was before
    (g.O.Sink.tells c.args.to.now) (g.O.Sink.tells c.report.new.to) done.obeyed told.reports
