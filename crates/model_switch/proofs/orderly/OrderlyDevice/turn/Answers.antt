use Rattle.std.proofs.Common.{None, arith}
use Rattle.model_switch.proofs.Meant.{turns_meant, untold}
use Rattle.model_switch.proofs.orderly.OrderlyDevice.turn.Goals as goal

pub returns-clause-meets : goal.returns-clause-meets
returns-clause-meets c =
    let t = c.turn_at.ensures in
    (t.0, t.1, turns_meant 0 c.turn_at.result t.0 c.args.self.now.switch c.turn_at.new.self 0 None None (omega arith) t.2 (untold _ _ _))
