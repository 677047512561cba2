use Rattle.std.proofs.Common.{refl}
use Rattle.machine_desk.proofs.Staged.{closes_staged}
use Rattle.machine_desk.proofs.desk.Desk.close.Goals as goal

pub returns-clause-staged : goal.returns-clause-staged
returns-clause-staged g c =
    closes_staged c.staging_laws.ensures c.args.self.now c.enter.new.self c.args.inbound.now c.law.ensures.sound c.args.fault _
    (record { reply = c.in_ok-enter.field-0; enters = c.in_ok-enter.ensures.ok; stage = refl })
