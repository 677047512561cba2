use Rattle.std.proofs.Common.{◌+◌, ◌*◌}
use Rattle.policy_eval.proofs.expression_walk.Walk.+expressions.Given as goal

-- each expression counts a step ahead of its parts
abbrev pub decreases-value : goal.decreases-value
decreases-value g l = 2 * l.self.now.steps

abbrev pub decreases-call : goal.decreases-call
decreases-call g l = 2 * l.self.now.steps + 1

abbrev pub decreases-has_number : goal.decreases-has_number
decreases-has_number g l = 2 * l.self.now.steps + 1

abbrev pub decreases-opposite : goal.decreases-opposite
decreases-opposite g l = 2 * l.self.now.steps + 1

abbrev pub decreases-pair : goal.decreases-pair
decreases-pair g l = 2 * l.self.now.steps + 1
