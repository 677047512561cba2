use Rattle.std.proofs.Common.{◌+◌, ◌*◌}
use Rattle.worker_crew.proofs.crew.+fn-with_workers-join+arg3+with_workers.Given as goal

abbrev pub decreases-join+arg3 : goal.decreases-join+arg3
decreases-join+arg3 g l = 2 * l.less + 2

abbrev pub decreases-with_workers : goal.decreases-with_workers
decreases-with_workers g l = 2 * l.count + 1
