use Rattle.machine_desk.proofs.Meanwhile.{counted, nothing_left, tending}
use Rattle.machine_desk.proofs.laws.tending_laws.Goals as goal

pub returns-clause-allowed : goal.returns-clause-allowed
returns-clause-allowed c = tending

pub returns-clause-count : goal.returns-clause-count
returns-clause-count c = counted

pub returns-clause-none : goal.returns-clause-none
returns-clause-none c = nothing_left c.legal_laws.ensures.calls c.between_laws.ensures.frozen
