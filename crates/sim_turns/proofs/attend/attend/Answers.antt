use Rattle.std.proofs.Common.{map, sym, ap}
use Rattle.std.specs.Prelude.{Ok}
use Rattle.sim_steps.proofs.Joining.{carried_then}
use Rattle.sim_channels.proofs.Places.{fits_but}
use Rattle.sim_turns.proofs.Attending.{at_rest, heard_through, on_six, rests_still}
use Rattle.std.proofs.lemmas.Result.{on_err_weaker, on_ok_weaker}
use Rattle.sim_steps.proofs.Broken.{broken_carried}
use Rattle.sim_turns.proofs.attend.attend.Goals as goal

-- ---- nothing could be heard

pub returns-in-Nobody-clause-fits : goal.returns-in-Nobody-clause-fits
returns-in-Nobody-clause-fits g c =
    let h = c.in_ok-hear_all.ensures in
    fits_but c.args.driver.now c.hear_all.new.driver c.args.at (map g.D.Device.meaning c.args.devices.now) h.kept h.channels c.requires.fits

pub returns-in-Nobody-clause-carried : goal.returns-in-Nobody-clause-carried
returns-in-Nobody-clause-carried g c = c.in_ok-hear_all.ensures.carried (map g.D.Device.meaning c.args.devices.now) (sym c.requires.fits.places)

pub returns-in-Nobody-clause-rest : goal.returns-in-Nobody-clause-rest
returns-in-Nobody-clause-rest g c =
    let h = c.in_ok-hear_all.ensures in
    rests_still c.resting_laws.ensures c.args.at c.args.driver.now c.hear_all.new.driver c.requires.fits.kept h.kept h.channels c.hear_all.ensures.same
    c.requires.rest h.jobs h.heard h.offered
    (h.nobody (ap Ok c.in-Nobody.is))

-- ---- the machine may have messages for the device at this place alone

pub deliver-requires-clause-fits : goal.deliver-requires-clause-fits
deliver-requires-clause-fits g c =
    let h = c.in_ok-hear_all.ensures in
    fits_but c.args.driver.now c.hear_all.new.driver c.args.at (map g.D.Device.meaning c.args.devices.now) h.kept h.channels c.requires.fits

pub returns-in-Itself-clause-carried : goal.returns-in-Itself-clause-carried
returns-in-Itself-clause-carried g c =
    on_ok_weaker _ (carried_then _ _ _ (c.in_ok-hear_all.ensures.carried (map g.D.Device.meaning c.args.devices.now) (sym c.requires.fits.places)))
    c.deliver.ensures.carried

pub returns-in-Itself-clause-rest : goal.returns-in-Itself-clause-rest
returns-in-Itself-clause-rest g c =
    let h = c.in_ok-hear_all.ensures in
    let d = c.deliver.ensures in
    on_six _
    (at_rest c.resting_laws.ensures c.args.at c.args.driver.now c.hear_all.new.driver c.requires.fits.kept h.kept h.channels c.hear_all.ensures.same
    c.requires.rest h.jobs h.heard h.offered (h.itself (ap Ok c.in-Itself.is)) c.deliver.new.self (map g.D.Device.meaning c.deliver.new.devices) d.same)
    d.fits d.taken d.offered d.heard d.others d.jobs

-- ---- or for any

pub deliver_all-requires-clause-fits : goal.deliver_all-requires-clause-fits
deliver_all-requires-clause-fits g c =
    let h = c.in_ok-hear_all.ensures in
    fits_but c.args.driver.now c.hear_all.new.driver c.args.at (map g.D.Device.meaning c.args.devices.now) h.kept h.channels c.requires.fits

pub deliver_all-requires-clause-through : goal.deliver_all-requires-clause-through
deliver_all-requires-clause-through g c =
    let h = c.in_ok-hear_all.ensures in
    heard_through c.resting_laws.ensures c.args.at c.args.driver.now c.hear_all.new.driver c.requires.fits.kept h.kept h.channels c.hear_all.ensures.same
    c.requires.rest h.jobs h.heard h.offered

pub returns-in-Anybody-clause-carried : goal.returns-in-Anybody-clause-carried
returns-in-Anybody-clause-carried g c =
    on_ok_weaker _ (carried_then _ _ _ (c.in_ok-hear_all.ensures.carried (map g.D.Device.meaning c.args.devices.now) (sym c.requires.fits.places)))
    c.deliver_all.ensures.carried

-- ---- it stops

pub returns-in-Itself-clause-broken : goal.returns-in-Itself-clause-broken
returns-in-Itself-clause-broken g c =
    on_err_weaker c.deliver.result
    (broken_carried _ _ c.deliver.new.self.desk.past (c.in_ok-hear_all.ensures.carried (map g.D.Device.meaning c.args.devices.now) (sym c.requires.fits.places)))
    c.deliver.ensures.broken

pub returns-in-Anybody-clause-broken : goal.returns-in-Anybody-clause-broken
returns-in-Anybody-clause-broken g c =
    on_err_weaker c.deliver_all.result
    (broken_carried _ _ c.deliver_all.new.self.desk.past (c.in_ok-hear_all.ensures.carried (map g.D.Device.meaning c.args.devices.now) (sym c.requires.fits.places)))
    c.deliver_all.ensures.broken
