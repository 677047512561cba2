use Rattle.std.proofs.Common.{◌≤◌, arith}
use Rattle.worker_crew.proofs.Crewing.{crewed_more}
use Rattle.worker_crew.proofs.crew.+fn-with_workers-join+arg3+with_workers.Goals as goal

pub returns-clause-crewed : goal.returns-clause-crewed
returns-clause-crewed g t c =
    let some : 1 ≤ c.args.count = omega (arith, c.if-count-eq0.false) in
    let first = c.join-theirs.ensures.first in
    let second = c.join-theirs.ensures.second in
    rw c.and.ensures (crewed_more (g.W.Works.makes c.args.works.now) g.M.Machine.allows _ _ _ _ _ _ _ _ _ _ _ _ _ _ _ _ some c.requires.few.1 c.lend-theirs.ensures.share c.split-second.ensures.kept.1 second.1.0 c.lend-theirs.ensures.none.0 c.split-second.ensures.made.1 second.1.1.1 first.1.1 c.take_in.ensures.takes c.join.ensures.both c.join.ensures.begins)
