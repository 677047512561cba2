use Rattle.std.proofs.Common.{Ok, Err, ap}
use Rattle.std.specs.Prelude.{OnOk, Result, is_some}
use Rattle.machine_desk.specs.declared.stopped.Stopped.{Stopped}
use Rattle.machine_desk.specs.Tending.{IsWhole}
use Rattle.sim_channels.specs.Passes.{Attends}
use Rattle.sim_channels.specs.declared.driver.Driver.{Driver}
use Rattle.sim_channels.proofs.Tended.{worked_alone}
use Rattle.sim_channels.proofs.driver.Driver.attend.Goals as goal

pub returns-in-None-clause-attends : goal.returns-in-None-clause-attends
returns-in-None-clause-attends g c = go c.answered.result c.answered.ensures.whole
  where
    old : Driver
    old = c.args.self.now

    go : (r : Result (Unit {0}) Stopped) → OnOk r (IsWhole c.work.result) → OnOk r (Attends c.args.item old (record old { desk = c.work.new.self }))
    go (Err stopped) whole = tt
    go (Ok done) whole =
        worked_alone old c.work.new.self c.args.item c.work.result (ap is_some c.in-None.is) c.work.ensures.footing c.work.ensures.works whole
