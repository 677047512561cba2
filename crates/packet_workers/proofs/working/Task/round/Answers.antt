use Rattle.history_lock.specs.Passes.{known}
use Rattle.packet_workers.proofs.Rounding.{budget_now, budget_stays, ends_early, ends_work_by, goes_back_by, told_now}
use Rattle.packet_workers.proofs.Turning.{err_at, ok_at}
use Rattle.packet_workers.proofs.working.Task.round.Goals as goal

pub returns-in-Err-clause-ends : goal.returns-in-Err-clause-ends
returns-in-Err-clause-ends g c =
    ends_early c.args.self.now.item c.args.self.now.budget (known c.args.pass.now) (known c.lend.new.pass) _ (err_at c.lend.result _ _ c.in-Err.is c.lend.ensures.broken)

pub committed-requires-clause-budget : goal.committed-requires-clause-budget
committed-requires-clause-budget g c =
    let l = ok_at c.lend.result _ _ c.in-Ok.is c.lend.ensures.lent in (
      budget_stays c.args.self.now.budget (known c.args.pass.now) (known c.lend.new.pass) _ l.made.adds c.requires.budget,
      budget_now _ _ (known c.args.pass.now) (known c.lend.new.pass) c.args.self.now.budget l c.requires.budget,
    )

pub committed-requires-clause-told : goal.committed-requires-clause-told
committed-requires-clause-told g c = told_now _ _ (known c.args.pass.now) (known c.lend.new.pass) (ok_at c.lend.result _ _ c.in-Ok.is c.lend.ensures.lent)

pub committed-requires-clause-small : goal.committed-requires-clause-small
committed-requires-clause-small g c = (ok_at c.lend.result _ _ c.in-Ok.is c.lend.ensures.lent).made.small

pub returns-in-Ok-clause-back : goal.returns-in-Ok-clause-back
returns-in-Ok-clause-back g c =
    goes_back_by c.args.self.now.item c.args.self.now.budget _ _ (known c.args.pass.now) (known c.lend.new.pass) (known c.committed.new.pass) c.committed.result.0
    (ok_at c.lend.result _ _ c.in-Ok.is c.lend.ensures.lent) c.committed.ensures.back

pub returns-in-Ok-clause-ends : goal.returns-in-Ok-clause-ends
returns-in-Ok-clause-ends g c =
    ends_work_by c.args.self.now.item c.args.self.now.budget _ _ (known c.args.pass.now) (known c.lend.new.pass) (known c.committed.new.pass) c.committed.result.0
    (ok_at c.lend.result _ _ c.in-Ok.is c.lend.ensures.lent) c.committed.ensures.ends
