use Rattle.std.proofs.Common.{None, refl}
use Rattle.model_switch.proofs.Meant.{packets_meant, untold}
use Rattle.model_switch.proofs.orderly.OrderlyDevice.packet.Goals as goal

pub returns-clause-meets : goal.returns-clause-meets
returns-clause-meets c =
    let t = c.packet.ensures in
    let s = c.args.self.now.switch in
    (t.0, t.1, packets_meant c.args.port c.args.frame.now c.packet.result t.0 s s 0 None None refl t.2 (untold _ _ _))
