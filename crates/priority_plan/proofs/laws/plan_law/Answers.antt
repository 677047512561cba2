use Rattle.priority_plan.proofs.Places.{none_lower, below_law}
use Rattle.priority_plan.proofs.Grows.{few_levels, few_more}
use Rattle.priority_plan.proofs.Shrinks.{kept_no_more}
use Rattle.priority_plan.proofs.Chains.{least_levels}
use Rattle.priority_plan.proofs.laws.plan_law.Goals as goal

pub returns-clause-lower : goal.returns-clause-lower
returns-clause-lower c = none_lower

pub returns-clause-below : goal.returns-clause-below
returns-clause-below c = below_law

pub returns-clause-least : goal.returns-clause-least
returns-clause-least c = least_levels

pub returns-clause-few_levels : goal.returns-clause-few_levels
returns-clause-few_levels c = few_levels

pub returns-clause-few_more : goal.returns-clause-few_more
returns-clause-few_more c = few_more

pub returns-clause-kept : goal.returns-clause-kept
returns-clause-kept c = kept_no_more
