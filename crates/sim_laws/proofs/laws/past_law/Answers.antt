use Rattle.sim_laws.proofs.History.{past_law}
use Rattle.sim_laws.proofs.laws.past_law.Goals as goal

pub returns : goal.returns
returns c = past_law
