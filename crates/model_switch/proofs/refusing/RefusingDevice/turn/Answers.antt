use Rattle.model_switch.specs.Refusals.{is_refused}
use Rattle.model_switch.proofs.Meant.{refusing_meant}
use Rattle.model_switch.proofs.refusing.RefusingDevice.turn.Goals as goal

pub returns-clause-meets : goal.returns-clause-meets
returns-clause-meets c =
    let t = c.turn_mod-turned.ensures.just in
    (t.0, t.1, refusing_meant (is_refused c.args.self.now) c.turn_mod-turned.result t.0 c.args.self.now.inner.switch c.turn_mod-turned.new.self.inner.switch t.2)
