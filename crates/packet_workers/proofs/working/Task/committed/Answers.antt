use Rattle.history_lock.specs.Passes.{known}
use Rattle.packet_workers.proofs.Rounding.{commits_back_by, commits_last_by, commits_not, of_policy, told_run}
use Rattle.packet_workers.proofs.Turning.{err_at, ok_at}
use Rattle.packet_workers.proofs.working.Task.committed.Goals as goal

pub returns-in-Err-clause-ends : goal.returns-in-Err-clause-ends
returns-in-Err-clause-ends g c =
    commits_not c.args.self.now.item c.args.self.now.budget c.args.number c.args.policy.value (known c.args.pass.now) (known c.recorded-recorded.new.pass) _
    (err_at c.recorded-recorded.result.0 _ _ c.in-Err.is c.recorded-recorded.ensures.broken)

pub commit-requires-clause-told : goal.commit-requires-clause-told
commit-requires-clause-told g c =
    told_run c.args.self.now.item c.args.self.now.budget c.longer_laws.ensures.told c.args.number c.args.policy.value (known c.args.pass.now) (known c.recorded-recorded.new.pass) _
    (of_policy c.args.self.now.item c.args.self.now.budget c.args.number c.deref.result.now c.args.policy.value (known c.args.pass.now) (known c.recorded-recorded.new.pass) c.in-Ok.run' c.deref.ensures
    (ok_at c.recorded-recorded.result.0 _ _ c.in-Ok.is c.recorded-recorded.ensures.run))
    c.requires.told

pub returns-clause-back : goal.returns-clause-back
returns-clause-back g c =
    commits_back_by c.args.self.now.item c.args.self.now.budget c.args.number c.args.policy.value (known c.args.pass.now) (known c.recorded-recorded.new.pass) (known c.commit.new.pass) _ c.commit.result
    (of_policy c.args.self.now.item c.args.self.now.budget c.args.number c.deref.result.now c.args.policy.value (known c.args.pass.now) (known c.recorded-recorded.new.pass) c.in-Ok.run' c.deref.ensures
    (ok_at c.recorded-recorded.result.0 _ _ c.in-Ok.is c.recorded-recorded.ensures.run))
    c.commit.ensures.stale

pub returns-clause-ends : goal.returns-clause-ends
returns-clause-ends g c =
    commits_last_by c.args.self.now.item c.args.self.now.budget c.args.number c.args.policy.value (known c.args.pass.now) (known c.recorded-recorded.new.pass) (known c.commit.new.pass) _ c.commit.result
    (of_policy c.args.self.now.item c.args.self.now.budget c.args.number c.deref.result.now c.args.policy.value (known c.args.pass.now) (known c.recorded-recorded.new.pass) c.in-Ok.run' c.deref.ensures
    (ok_at c.recorded-recorded.result.0 _ _ c.in-Ok.is c.recorded-recorded.ensures.run))
    c.commit.ensures.ends
