use Rattle.std.proofs.Common.{[], refl, sym, ap}
use Rattle.std.proofs.lemmas.List.{append-nil}
use Rattle.device_port.specs.Devices.Call.{Looking}
use Rattle.maple_base.specs.declared.device.Seen.TheVariants.{Failed}
use Rattle.model_switch.proofs.Meant.{failed, look_unless_failed}
use Rattle.model_switch.proofs.failing.FailingDevice.packet.Goals as goal

pub returns-then-is_due-clause-meets : goal.returns-then-is_due-clause-meets
returns-then-is_due-clause-meets c =
    let fell = failed (Looking c.args.port c.args.frame.now Failed []) c.args.self.now.inner.switch c.fail.new.self.inner.switch c.args.self.now.faults c.fail.new.self.faults (ap (λ o. o.switch) c.fail.ensures.inner) c.fail.ensures.grown c.fail.ensures.faults in
    ([], sym (append-nil c.args.out.now.items), (fell, refl))

pub returns-clause-just : goal.returns-clause-just
returns-clause-just c =
    let t = c.packet-seen.ensures.just in
    (t.0, t.1, look_unless_failed c.args.port c.args.frame.now c.args.self.now.inner.switch.table c.packet-seen.result t.0 t.2)
