use Rattle.worker_crew.proofs.Lines.{begins}
use Rattle.worker_crew.proofs.queue.Jobs.new.Goals as goal

pub ruled-requires-clause-rule : goal.ruled-requires-clause-rule
ruled-requires-clause-rule g c = begins
