use Rattle.std.proofs.Common.{None, ◌-◌, arith}
use Rattle.model_switch.specs.States.{IsNext}
use Rattle.model_switch.proofs.Meant.{turns_meant, untold}
use Rattle.model_switch.proofs.backward.BackwardDevice.turn.Goals as goal

pub returns-clause-meets : goal.returns-clause-meets
returns-clause-meets c =
    let t = c.turn_at.ensures in
    let s = c.args.self.now.switch in
    let next : IsNext (c.max-place.result - 1) s.pending = omega (arith, c.max-place.ensures, c.free.ensures) in
    (t.0, t.1, turns_meant (c.max-place.result - 1) c.turn_at.result t.0 s c.turn_at.new.self 0 None None next t.2 (untold _ _ _))
