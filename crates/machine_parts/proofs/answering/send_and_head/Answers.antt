use Rattle.std.proofs.Common.{sym, ap, ◌∙◌}
use Rattle.machine_parts.specs.Answering.{sent}
use Rattle.machine_parts.proofs.Aiming.{ok_holds}
use Rattle.machine_parts.proofs.Heads.{heads_behind}
use Rattle.machine_parts.proofs.answering.send_and_head.Goals as goal

pub prepare-requires-clause-list : goal.prepare-requires-clause-list
prepare-requires-clause-list c = c.traces_laws.ensures.list c.args.session.now.capacity c.args.traces.now.traces c.in_ok-rules.rules c.requires.fit c.in_ok-rules.ensures

pub returns-clause-heads : goal.returns-clause-heads
returns-clause-heads c =
    let j = c.args.job.now in
    let went = ok_holds c.send.result _ (sym c.is_err.ensures.value ∙ c.if-is_err.false) c.send.ensures.sent in
    heads_behind c.args.traces.now.traces c.in_ok-rules.rules c.in_ok-aim.aim j c.args.actions c.args.session.now c.send.new.session c.aim-2.new.self c.in_ok-rules.ensures c.in_ok-aim.ensures.update
    (went ∙ ap (sent j c.args.actions) c.in_ok-aim.ensures.prepared) c.aim-2.ensures
