use Rattle.std.proofs.Common.{map, Ok, ap}
use Rattle.script_text.specs.Orders.Order.{NewPolicy}
use Rattle.sim_driver.proofs.Doing.{asks_by, obeyed_asked, obeyed_done, of_ok, on_ok}
use Rattle.std.proofs.lemmas.Result.{on_err_weaker}
use Rattle.sim_steps.proofs.Broken.{broken_stretch}
use Rattle.sim_driver.proofs.changing.renew.Goals as goal

pub returns-then-branch-clause-obeyed : goal.returns-then-branch-clause-obeyed
returns-then-branch-clause-obeyed g c =
    let r = c.deliver_all.result in
    let done = c.deliver_all.ensures in
    let text = c.args.text.now in
    let d = c.args.driver.now in
    let m = c.renew_policy.new.driver in
    let by = asks_by text d m c.in_ok-renew_policy.ensures.asked in
    on_ok r (λ u e.
    obeyed_done c.resting_laws.ensures (NewPolicy text) by.entry d m _ c.deliver_all.new.self _ by.obeys c.requires.fits by.asked
    (of_ok _ r u e done.carried) (of_ok _ r u e done.fits).kept (of_ok _ r u e done.rest))

pub returns-else-branch-clause-obeyed : goal.returns-else-branch-clause-obeyed
returns-else-branch-clause-obeyed g c =
    let text = c.args.text.now in
    let d = c.args.driver.now in
    let m = c.renew_policy.new.driver in
    let done = c.in_ok-renew_policy.ensures in
    let by = asks_by text d m done.asked in
    obeyed_asked c.resting_laws.ensures (NewPolicy text) by.entry d m _ by.obeys c.requires.fits by.asked (done.fits _ c.requires.fits).kept
    (done.rest (ap Ok c.if-branch.false))

pub returns-then-branch-clause-broken : goal.returns-then-branch-clause-broken
returns-then-branch-clause-broken g c =
    let by = asks_by c.args.text.now c.args.driver.now c.renew_policy.new.driver c.in_ok-renew_policy.ensures.asked in
    let asked = by.asked (map g.D.Device.meaning c.args.devices.now) c.requires.fits in
    on_err_weaker c.deliver_all.result (broken_stretch _ _ _ _ c.deliver_all.new.self.desk.past asked.1.stretch) c.deliver_all.ensures.broken
