use Rattle.std.proofs.Common.{ap}
use Rattle.machine_desk.proofs.Staged.{opens_staged}
use Rattle.machine_desk.proofs.desk.Desk.open.Goals as goal

pub returns-clause-staged : goal.returns-clause-staged
returns-clause-staged g c =
    let i = c.args.inbound.now in
    opens_staged c.staging_laws.ensures c.args.self.now c.ask.new.self i c.law.ensures.sound _
    (record { reply = c.in_ok-reply.reply; asks = c.in_ok-reply.ensures.ok; stage = ap (λ s. record i { stage = s }) c.stage_opened-inbound.ensures })
