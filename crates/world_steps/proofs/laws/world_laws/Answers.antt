use Rattle.world_steps.proofs.Runs.{history_law}
use Rattle.world_steps.proofs.laws.world_laws.Goals as goal

pub returns : goal.returns
returns c = record { history = history_law }
