use Rattle.update_plan.proofs.Safe.{shield_law, step_law}
use Rattle.update_plan.proofs.laws.shield_laws.Goals as goal

pub returns-clause-shield : goal.returns-clause-shield
returns-clause-shield c = shield_law

pub returns-clause-step : goal.returns-clause-step
returns-clause-step c = step_law
