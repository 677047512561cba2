use Rattle.update_plan.proofs.Safe.{length_law, sent_law}
use Rattle.update_plan.proofs.laws.batch_laws.Goals as goal

pub returns-clause-lengths : goal.returns-clause-lengths
returns-clause-lengths c = length_law

pub returns-clause-sent : goal.returns-clause-sent
returns-clause-sent c = sent_law
