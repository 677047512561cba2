use Rattle.std.proofs.Common.{map}
use Rattle.sim_driver.proofs.Reporting.{alone_by, beside_by, finished_alone}
use Rattle.sim_driver.proofs.finishing.finish.Goals as goal

pub returns-then-works_alone-clause-finished : goal.returns-then-works_alone-clause-finished
returns-then-works_alone-clause-finished g c =
    let d = c.args.driver.now in
    let alone = alone_by d.crew c.works_alone.result c.works_alone.ensures c.if-works_alone.true in
    finished_alone c.resting_laws.ensures d (map g.D.Device.meaning c.args.all.now) (g.O.Sink.tells c.args.to.now) c.requires.ready alone

pub finish_beside-requires-clause-beside : goal.finish_beside-requires-clause-beside
finish_beside-requires-clause-beside g c = beside_by c.args.driver.now.crew c.works_alone.result c.works_alone.ensures c.if-works_alone.false
