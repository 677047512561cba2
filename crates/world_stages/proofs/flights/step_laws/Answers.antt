use Rattle.world_stages.proofs.Flying.{steps_stay_clear, steps_fly_on}
use Rattle.world_stages.proofs.Numbers.{steps_keep_true}
use Rattle.world_stages.proofs.flights.step_laws.Goals as goal

pub returns-clause-keeps : goal.returns-clause-keeps
returns-clause-keeps c = steps_keep_true

pub returns-clause-clear : goal.returns-clause-clear
returns-clause-clear c = steps_stay_clear

pub returns-clause-flies : goal.returns-clause-flies
returns-clause-flies c = steps_fly_on
