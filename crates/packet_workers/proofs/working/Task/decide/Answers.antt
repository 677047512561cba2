use Rattle.std.proofs.Common.{sym, ◌∙◌}
use Rattle.history_lock.specs.Passes.{known}
use Rattle.machine_steps.specs.declared.entry.Entry.TheVariants.{Decide}
use Rattle.packet_workers.proofs.Turning.{at_job, decide_ends, decide_never, ends_worn, err_at, ok_at}
use Rattle.packet_workers.proofs.working.Task.decide.Goals as goal

pub returns-in-Some-clause-ends : goal.returns-in-Some-clause-ends
returns-in-Some-clause-ends g c =
    let s = c.call.ensures.stays in
    let item = c.args.self.now.item in
    decide_ends c.longer_laws.ensures.three item (known c.args.pass.now) (known c.call.new.pass) _ _
    (at_job (known c.args.pass.now) (known c.call.new.pass) (λ x. Decide x) c.job.result item.job c.in-Ok.reply c.job.ensures (ok_at c.call.result _ _ c.in-Ok.is c.call.ensures.ok))
    (record { opening = s.1; parts = s.2; leads = c.call.ensures.leads }) c.requires.stale (sym c.ended.ensures ∙ c.in-Some.is)

pub unreachable-requires : goal.unreachable-requires
unreachable-requires g c =
    let item = c.args.self.now.item in
    decide_never (known c.args.pass.now) (known c.call.new.pass) item.job _
    (at_job (known c.args.pass.now) (known c.call.new.pass) (λ x. Decide x) c.job.result item.job c.in-Ok.reply c.job.ensures (ok_at c.call.result _ _ c.in-Ok.is c.call.ensures.ok)) (sym c.ended.ensures ∙ c.in-None.is)

pub returns-clause-ends : goal.returns-clause-ends
returns-clause-ends g c =
    let s = c.call.ensures.stays in
    ends_worn c.args.self.now.item (known c.args.pass.now) (known c.call.new.pass) (Decide c.args.self.now.item.job) (record { opening = s.1; parts = s.2; leads = c.call.ensures.leads })
    (err_at c.call.result _ _ c.in-Err.is c.call.ensures.kept) (err_at c.call.result _ _ c.in-Err.is c.call.ensures.err).1
