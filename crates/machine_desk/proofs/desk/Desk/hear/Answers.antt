use Rattle.std.proofs.Common.{ap}
use Rattle.machine_desk.proofs.Staged.{hears_staged}
use Rattle.machine_desk.proofs.desk.Desk.hear.Goals as goal

pub returns-clause-staged : goal.returns-clause-staged
returns-clause-staged g c =
    let i = c.args.inbound.now in
    hears_staged c.staging_laws.ensures c.args.self.now c.ask.new.self i c.law.ensures.sound c.args.input c.heard_by-heard.result _
    (record {
      reply = c.in_ok-reply.reply;
      asks = c.in_ok-reply.ensures.ok;
      heard_is = c.heard_by-heard.ensures;
      stage = ap (λ s. record i { stage = s }) c.stage_heard-inbound.ensures;
    })
