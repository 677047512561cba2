use Rattle.std.proofs.lemmas.Result.{err_from_is_err_and}
use Rattle.worker_crew.proofs.Lines.{held_all, learns, offers}
use Rattle.worker_crew.proofs.queue.Jobs.offer.Goals as goal

pub push_as-requires-clause-rule : goal.push_as-requires-clause-rule
push_as-requires-clause-rule g c = (offers _ _ _ _ c.requires.1, learns _ _)

pub returns-in_err-push_as-clause-left : goal.returns-in_err-push_as-clause-left
returns-in_err-push_as-clause-left g c = let p = err_from_is_err_and c.from_residual.result c.from_residual.ensures.1 in rw p.1 (held_all _ _ c.in_err-push_as.ensures.rule.2)
