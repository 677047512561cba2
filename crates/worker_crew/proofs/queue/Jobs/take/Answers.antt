use Rattle.worker_crew.proofs.Lines.{held_all, learns, takes}
use Rattle.worker_crew.proofs.queue.Jobs.take.Goals as goal

pub pop_as-requires-clause-rule : goal.pop_as-requires-clause-rule
pop_as-requires-clause-rule g c = (takes _ _ c.requires.1, learns _ _)

pub returns-in_err-item-clause-all : goal.returns-in_err-item-clause-all
returns-in_err-item-clause-all g c = rw c.from_residual.ensures (held_all _ _ c.in_err-item.ensures.rule.1)
