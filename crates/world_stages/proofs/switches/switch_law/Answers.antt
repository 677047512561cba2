use Rattle.world_stages.proofs.Stages.{keeps_stages}
use Rattle.world_stages.proofs.switches.switch_law.Goals as goal

pub returns : goal.returns
returns c = keeps_stages (record { keeps = c.step_laws.ensures.keeps; clear = c.step_laws.ensures.clear; flies = c.step_laws.ensures.flies })
