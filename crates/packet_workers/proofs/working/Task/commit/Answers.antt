use Rattle.std.proofs.Common.{sym, ◌∙◌}
use Rattle.history_lock.specs.Passes.{known}
use Rattle.machine_steps.specs.declared.entry.Entry.TheVariants.{Commit}
use Rattle.packet_workers.proofs.Turning.{at_job, commit_ends, commit_stale, ends_worn, err_at, may_commit, ok_at}
use Rattle.packet_workers.proofs.working.Task.commit.Goals as goal

pub call-requires-clause-admitted : goal.call-requires-clause-admitted
call-requires-clause-admitted g c = λ opening m log opens later legal _ _.
    may_commit c.longer_laws.ensures.runs (known c.args.pass.now) c.args.self.now.budget c.args.run c.requires.budget.0 c.requires.budget.1 c.requires.told c.law.ensures opening m log opens later legal

pub returns-in-Some-clause-ends : goal.returns-in-Some-clause-ends
returns-in-Some-clause-ends g c =
    let s = c.call.ensures.stays in
    let item = c.args.self.now.item in
    commit_ends item (known c.args.pass.now) (known c.call.new.pass) c.args.run _ _
    (at_job (known c.args.pass.now) (known c.call.new.pass) (λ x. Commit x c.args.run) c.job-job.result item.job c.in-Ok.reply c.job-job.ensures (ok_at c.call.result _ _ c.in-Ok.is c.call.ensures.ok))
    (record { opening = s.1; parts = s.2; leads = c.call.ensures.leads }) c.requires.packet (sym c.ended.ensures ∙ c.in-Some.is)

pub returns-in-Ok-clause-stale : goal.returns-in-Ok-clause-stale
returns-in-Ok-clause-stale g c =
    let s = c.call.ensures.stays in
    let item = c.args.self.now.item in
    commit_stale (known c.args.pass.now) (known c.call.new.pass) item.job c.args.run _
    (at_job (known c.args.pass.now) (known c.call.new.pass) (λ x. Commit x c.args.run) c.job-job.result item.job c.in-Ok.reply c.job-job.ensures (ok_at c.call.result _ _ c.in-Ok.is c.call.ensures.ok))
    (record { opening = s.1; parts = s.2; leads = c.call.ensures.leads }) (sym c.ended.ensures ∙ c.in-None.is)

pub returns-clause-ends : goal.returns-clause-ends
returns-clause-ends g c =
    let s = c.call.ensures.stays in
    ends_worn c.args.self.now.item (known c.args.pass.now) (known c.call.new.pass) (Commit c.args.self.now.item.job c.args.run) (record { opening = s.1; parts = s.2; leads = c.call.ensures.leads })
    (err_at c.call.result _ _ c.in-Err.is c.call.ensures.kept) (err_at c.call.result _ _ c.in-Err.is c.call.ensures.err).1
