use Rattle.worker_crew.proofs.Lines.{forks}
use Rattle.worker_crew.proofs.queue.Jobs.split.Goals as goal

pub another-requires-clause-rule : goal.another-requires-clause-rule
another-requires-clause-rule g c = forks _ _ c.requires.more
