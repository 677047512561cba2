use Rattle.sim_driver.proofs.Sessions.{asked_opened, broken_open, heard_opened, offered_opened, opened}
use Rattle.sim_channels.proofs.Staged.{on_err}
use Rattle.sim_driver.proofs.plugging.open.Goals as goal

pub returns-clause-changes : goal.returns-clause-changes
returns-clause-changes g c =
    let h = c.requires in
    let done = c.in_ok-open.ensures in
    opened c.driving_laws.ensures c.resting_laws.ensures c.args.driver.now c.open.new.self c.args.at h.kept done.kept done.same done.opens

pub returns-clause-asked : goal.returns-clause-asked
returns-clause-asked g c =
    let h = c.requires in
    let done = c.in_ok-open.ensures in
    asked_opened c.driving_laws.ensures c.resting_laws.ensures c.args.driver.now c.open.new.self c.args.at h.kept done.kept done.same done.opens h.unopened h.rest

pub returns-clause-offered : goal.returns-clause-offered
returns-clause-offered g c =
    let h = c.requires in
    let done = c.in_ok-open.ensures in
    offered_opened c.driving_laws.ensures c.resting_laws.ensures c.args.driver.now c.open.new.self c.args.at h.kept done.kept done.same done.opens h.unopened

pub returns-clause-heard : goal.returns-clause-heard
returns-clause-heard g c =
    let h = c.requires in
    let done = c.in_ok-open.ensures in
    heard_opened c.driving_laws.ensures c.resting_laws.ensures c.args.driver.now c.open.new.self c.args.at h.kept done.kept done.same done.opens h.unopened

pub returns-in_err-open-clause-broken : goal.returns-in_err-open-clause-broken
returns-in_err-open-clause-broken g c =
    let h = c.requires in
    on_err c.from_residual.result
    (broken_open c.driving_laws.ensures c.args.driver.now c.args.at h.kept h.unopened c.open.new.self.desk c.in_err-open.field-0.0 c.in_err-open.ensures.stops)
