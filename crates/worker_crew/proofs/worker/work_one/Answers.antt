use Rattle.worker_crew.proofs.Toiling.{toiled_one}
use Rattle.worker_crew.proofs.worker.work_one.Goals as goal

pub returns-clause-some : goal.returns-clause-some
returns-clause-some g c = toiled_one (g.W.Works.makes c.args.works.now) _ _ _ _ _ _ c.in_ok-item.ensures.some c.work.ensures.made c.work.ensures.worn
