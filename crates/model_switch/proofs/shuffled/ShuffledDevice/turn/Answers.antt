use Rattle.std.proofs.Common.{None, arith}
use Rattle.std.specs.Prelude.{◌%◌}
use Rattle.model_switch.specs.States.{IsNext}
use Rattle.model_switch.proofs.Meant.{turns_meant, untold}
use Rattle.model_switch.proofs.shuffled.ShuffledDevice.turn.Goals as goal

pub returns-clause-meets : goal.returns-clause-meets
returns-clause-meets c =
    let t = c.turn_at-turned.ensures in
    let s = c.args.self.now.switch in
    let next : IsNext (c.next_word.result % c.max.result) s.pending = omega (arith, c.max.ensures, c.free.ensures) in
    (t.0, t.1, turns_meant (c.next_word.result % c.max.result) c.turn_at-turned.result t.0 s c.turn_at-turned.new.self 0 None None next t.2 (untold _ _ _))
