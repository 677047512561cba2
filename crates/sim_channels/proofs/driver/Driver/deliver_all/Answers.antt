use Rattle.std.proofs.Common.{map, arith}
use Rattle.std.proofs.lemmas.List.{length-map}
use Rattle.sim_channels.proofs.Delivered.{delivers_done, delivers_last, delivers_next}
use Rattle.sim_steps.proofs.Broken.{broken_carried}
use Rattle.sim_channels.specs.Channels.{bench}
use Rattle.sim_channels.proofs.Staged.{on_err}
use Rattle.sim_channels.proofs.driver.Driver.deliver_all.Goals as goal

pub loop-at-preserved : goal.loop-at-preserved
loop-at-preserved g c =
    let h = c.in_ok-deliver.ensures in
    delivers_next c.driving_laws.ensures c.loop-at.at c.args.self.now (map g.D.Device.meaning c.args.devices.now) c.loop-at.self (map g.D.Device.meaning c.loop-at.devices) c.deliver.new.self
    (map g.D.Device.meaning c.deliver.new.devices) c.loop-at.invariant h.fits h.carried h.taken h.offered h.heard h.others h.jobs c.deliver.ensures.same

pub returns-clause-rest : goal.returns-clause-rest
returns-clause-rest g c =
    let long = length-map c.loop-at.devices g.D.Device.meaning in
    delivers_last c.loop-at.at c.args.self.now (map g.D.Device.meaning c.args.devices.now) c.loop-at.self (map g.D.Device.meaning c.loop-at.devices) c.loop-at.invariant (omega (arith, long, c.loop-at-test.false, c.loop-at.auto.at-end))

pub returns-clause-done : goal.returns-clause-done
returns-clause-done g c =
    let long = length-map c.loop-at.devices g.D.Device.meaning in
    delivers_done c.loop-at.at c.args.self.now (map g.D.Device.meaning c.args.devices.now) c.loop-at.self (map g.D.Device.meaning c.loop-at.devices) c.loop-at.invariant (omega (arith, long, c.loop-at-test.false, c.loop-at.auto.at-end))

pub returns-in_err-deliver-clause-broken : goal.returns-in_err-deliver-clause-broken
returns-in_err-deliver-clause-broken g c =
    let f = g.D.Device.meaning in
    on_err c.from_residual.result
    (broken_carried (bench c.args.self.now (map f c.args.devices.now)) (bench c.loop-at.self (map f c.loop-at.devices)) c.deliver.new.self.desk.past
    c.loop-at.invariant.carried c.in_err-deliver.ensures.broken)
