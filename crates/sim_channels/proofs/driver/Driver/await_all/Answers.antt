use Rattle.std.proofs.Common.{ap}
use Rattle.std.specs.Prelude.{is_some}
use Rattle.sim_channels.proofs.Tended.{done_alone, done_by, same_beside}
use Rattle.sim_channels.proofs.driver.Driver.await_all.Goals as goal

pub returns-in-None-clause-awaits : goal.returns-in-None-clause-awaits
returns-in-None-clause-awaits g c = done_alone c.args.self.now (ap is_some c.in-None.is)

pub returns-in_ok-await_all-in-Some-clause-awaits : goal.returns-in_ok-await_all-in-Some-clause-awaits
returns-in_ok-await_all-in-Some-clause-awaits g c =
    let old = c.args.self.now in
    let e = c.in_ok-await_all-in-Some.ensures in
    let same = same_beside old c.await_all.new.desk c.in-Some.crew c.await_all.new.self c.in-Some.is e.still e.footing in
    done_by old c.await_all.new.desk c.in-Some.crew c.await_all.new.self c.in-Some.is same c.driving_laws.ensures c.tending_laws.ensures.allowed c.requires.kept c.tending_laws.ensures.none e.done
