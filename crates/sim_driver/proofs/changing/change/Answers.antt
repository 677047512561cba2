use Rattle.std.proofs.Common.{map, Ok, ap}
use Rattle.machine_steps.specs.declared.entry.Entry.TheVariants as entries
use Rattle.script_text.specs.Orders.Order.{Change}
use Rattle.sim_driver.proofs.Doing.{obeyed_asked, obeyed_done, of_ok, on_ok}
use Rattle.std.proofs.lemmas.Result.{on_err_weaker}
use Rattle.sim_steps.proofs.Broken.{broken_stretch}
use Rattle.sim_driver.proofs.changing.change.Goals as goal

pub returns-then-branch-clause-obeyed : goal.returns-then-branch-clause-obeyed
returns-then-branch-clause-obeyed g c =
    let r = c.deliver_all.result in
    let done = c.deliver_all.ensures in
    let update = c.args.update in
    on_ok r (λ u e.
    obeyed_done c.resting_laws.ensures (Change update) (entries.Change update) c.args.driver.now c.update_network.new.driver _ c.deliver_all.new.self _ (λ es just. just)
    c.requires.fits
    c.in_ok-update_network.ensures.asked (of_ok _ r u e done.carried) (of_ok _ r u e done.fits).kept (of_ok _ r u e done.rest))

pub returns-else-branch-clause-obeyed : goal.returns-else-branch-clause-obeyed
returns-else-branch-clause-obeyed g c =
    let update = c.args.update in
    let done = c.in_ok-update_network.ensures in
    obeyed_asked c.resting_laws.ensures (Change update) (entries.Change update) c.args.driver.now c.update_network.new.driver _ (λ es just. just) c.requires.fits done.asked
    (done.fits _ c.requires.fits).kept
    (done.rest (ap Ok c.if-branch.false))

pub returns-then-branch-clause-broken : goal.returns-then-branch-clause-broken
returns-then-branch-clause-broken g c =
    let asked = c.in_ok-update_network.ensures.asked (map g.D.Device.meaning c.args.devices.now) c.requires.fits in
    on_err_weaker c.deliver_all.result (broken_stretch _ _ _ _ c.deliver_all.new.self.desk.past asked.1.stretch) c.deliver_all.ensures.broken
