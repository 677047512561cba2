use Rattle.std.proofs.Common.{[], None, refl, sym, ap, arith}
use Rattle.std.proofs.lemmas.List.{append-nil}
use Rattle.device_port.specs.Devices.Call.{Turning}
use Rattle.maple_base.specs.declared.device.Turned.TheVariants.{Failed}
use Rattle.model_switch.proofs.Meant.{failed, turns_meant, turn_unless_failed, untold}
use Rattle.model_switch.proofs.failing.FailingDevice.turn.Goals as goal

pub returns-then-is_due-clause-meets : goal.returns-then-is_due-clause-meets
returns-then-is_due-clause-meets c =
    let fell = failed (Turning Failed []) c.args.self.now.inner.switch c.fail.new.self.inner.switch c.args.self.now.faults c.fail.new.self.faults (ap (λ o. o.switch) c.fail.ensures.inner) c.fail.ensures.grown c.fail.ensures.faults in
    ([], sym (append-nil c.args.out.now.items), (fell, refl))

pub returns-clause-meets : goal.returns-clause-meets
returns-clause-meets c =
    let t = c.turn-turned.ensures.just in
    let n = c.args.self.now.faults in
    (t.0, t.1, turns_meant 0 c.turn-turned.result t.0 c.args.self.now.inner.switch c.turn-turned.new.self.switch n None None (omega arith) t.2 (untold _ _ _))

pub returns-clause-just : goal.returns-clause-just
returns-clause-just c =
    let t = c.turn-turned.ensures.just in
    (t.0, t.1, turn_unless_failed c.args.self.now.inner.switch c.turn-turned.new.self.switch c.turn-turned.result t.0 t.2)
