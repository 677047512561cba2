use Rattle.std.proofs.Common.{ap}
use Rattle.device_port.specs.Devices.Call.{Offered}
use Rattle.device_port.specs.declared.device.Took.TheVariants.{Failed}
use Rattle.model_switch.proofs.Meant.{failed}
use Rattle.model_switch.proofs.failing.FailingDevice.offer.Goals as goal

pub returns-then-is_due-clause-meets : goal.returns-then-is_due-clause-meets
returns-then-is_due-clause-meets c =
    let fell = failed (Offered c.args.message.now Failed) c.args.self.now.inner.switch c.fail.new.self.inner.switch c.args.self.now.faults c.fail.new.self.faults (ap (λ o. o.switch) c.fail.ensures.inner) c.fail.ensures.grown c.fail.ensures.faults in
    fell
