use Rattle.std.proofs.Common.{false, refl}
use Rattle.sim_driver.proofs.Sessions.{asked_closed, closed, rest_left}
use Rattle.sim_channels.proofs.Staged.{on_err}
use Rattle.sim_channels.specs.Channels.{bench}
use Rattle.sim_steps.proofs.Broken.{broken_here}
use Rattle.sim_channels.proofs.Broken.{worn_past}
use Rattle.sim_driver.proofs.plugging.close.Goals as goal

pub returns-clause-changes : goal.returns-clause-changes
returns-clause-changes g c =
    let h = c.requires in
    let done = c.in_ok-close.ensures in
    closed c.driving_laws.ensures c.resting_laws.ensures c.args.driver.now c.close.new.self c.args.at h.kept done.kept done.same false done.closes

pub returns-clause-asked : goal.returns-clause-asked
returns-clause-asked g c =
    let h = c.requires in
    let done = c.in_ok-close.ensures in
    asked_closed c.driving_laws.ensures c.resting_laws.ensures c.args.driver.now c.close.new.self c.args.at h.kept done.kept done.same false done.closes refl h.live h.rest

pub returns-clause-rest : goal.returns-clause-rest
returns-clause-rest g c =
    let h = c.requires in
    let done = c.in_ok-close.ensures in
    rest_left c.driving_laws.ensures c.resting_laws.ensures c.args.driver.now c.close.new.self c.args.at h.kept done.kept done.same false done.closes h.rest

pub returns-in_err-close-clause-broken : goal.returns-in_err-close-clause-broken
returns-in_err-close-clause-broken g c =
    let d = c.args.driver.now in
    let b = c.close.new.self.desk in
    on_err c.from_residual.result (λ ds long. broken_here (bench d ds) b.past (worn_past d.desk b c.in_err-close.ensures.worn))
