use Rattle.std.proofs.Common.{Ok, ap}
use Rattle.sim_channels.specs.Looking.{is_failed}
use Rattle.sim_turns.proofs.Failing.{rest_left}
use Rattle.sim_driver.proofs.Calling.{called_broken, fits_left, looked_failed, looked_whole}
use Rattle.sim_channels.proofs.Staged.{on_err}
use Rattle.sim_channels.specs.Channels.{bench}
use Rattle.std.proofs.Common.{map, subst}
use Rattle.sim_steps.specs.Stretches.{BreaksOff}
use Rattle.sim_channels.proofs.Broken.{worn_past}
use Rattle.sim_driver.proofs.arriving.look.Goals as goal

-- ---- it failed

pub returns-in_ok-leave-in-Failed-clause-fits : goal.returns-in_ok-leave-in-Failed-clause-fits
returns-in_ok-leave-in-Failed-clause-fits g c =
    fits_left c.call.new.self c.leave.new.self c.args.at _ c.in_ok-leave-in-Failed.ensures.leaves c.in_ok-call.ensures.called.fits

pub returns-in_ok-leave-in-Failed-clause-rest : goal.returns-in_ok-leave-in-Failed-clause-rest
returns-in_ok-leave-in-Failed-clause-rest g c =
    let called = c.in_ok-call.ensures.called in
    rest_left c.resting_laws.ensures c.call.new.self c.leave.new.self c.args.at called.fits.kept c.in_ok-leave-in-Failed.ensures.leaves called.rest

pub returns-in_ok-leave-in-Failed-clause-silent : goal.returns-in_ok-leave-in-Failed-clause-silent
returns-in_ok-leave-in-Failed-clause-silent g c = λ is.
    (let resting = c.resting_laws.ensures in
    let e = c.leave.new.self in
    resting.all c.args.at e (returns-in_ok-leave-in-Failed-clause-rest g c) (resting.left c.args.at e c.in_ok-leave-in-Failed.ensures.leaves.left).heard)

pub returns-in_ok-leave-in-Failed-clause-looked : goal.returns-in_ok-leave-in-Failed-clause-looked
returns-in_ok-leave-in-Failed-clause-looked g c =
    let h = c.requires in
    let answer = c.in_ok-call.field-0 in
    looked_failed c.driving_laws.ensures c.resting_laws.ensures c.args.driver.now _ c.call.new.self _ c.args.at c.args.port c.args.frame h.fits h.rest
    (is_failed answer) c.in_ok-call.ensures.called c.leave.new.self c.in_ok-leave-in-Failed.ensures.leaves (ap is_failed c.in-Failed.is)

-- ---- it didn't

pub returns-in-Spoke-clause-looked : goal.returns-in-Spoke-clause-looked
returns-in-Spoke-clause-looked g c =
    let h = c.requires in
    let answer = c.in_ok-call.field-0 in
    looked_whole c.driving_laws.ensures c.resting_laws.ensures c.args.driver.now _ c.call.new.self _ c.args.at c.args.port c.args.frame h.fits h.rest
    (is_failed answer) c.in_ok-call.ensures.called (ap is_failed c.in-Spoke.is)

pub returns-in-Silent-clause-looked : goal.returns-in-Silent-clause-looked
returns-in-Silent-clause-looked g c =
    let h = c.requires in
    let answer = c.in_ok-call.field-0 in
    looked_whole c.driving_laws.ensures c.resting_laws.ensures c.args.driver.now _ c.call.new.self _ c.args.at c.args.port c.args.frame h.fits h.rest
    (is_failed answer) c.in_ok-call.ensures.called (ap is_failed c.in-Silent.is)

pub returns-in-Silent-clause-silent : goal.returns-in-Silent-clause-silent
returns-in-Silent-clause-silent g c = λ is. c.in_ok-call.ensures.silent (ap Ok c.in-Silent.is)

-- ---- it stops

pub returns-in_err-leave-in-Failed-clause-broken : goal.returns-in_err-leave-in-Failed-clause-broken
returns-in_err-leave-in-Failed-clause-broken g c =
    let h = c.requires in
    let f = g.D.Device.meaning in
    let called =
    called_broken c.driving_laws.ensures c.resting_laws.ensures c.args.driver.now (map f c.args.devices.now) c.call.new.self (map f c.call.new.devices) c.args.at c.args.port c.args.frame h.fits h.rest
    (is_failed c.in_ok-call.field-0) c.in_ok-call.ensures.called in
    on_err c.from_residual-in_err-leave-in-Failed.result
    (subst (BreaksOff (bench c.args.driver.now (map f c.args.devices.now))) (worn_past c.call.new.self.desk c.leave.new.self.desk c.in_err-leave-in-Failed.ensures.worn) called)
