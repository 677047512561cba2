use Rattle.std.proofs.Common.{length}
use Rattle.policy_eval.proofs.expression_walk.Walk.+numbers.Given as goal

abbrev pub decreases-numbers : goal.decreases-numbers
decreases-numbers g l = length l.exprs.now
