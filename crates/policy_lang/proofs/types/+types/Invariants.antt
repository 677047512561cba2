use Rattle.std.proofs.Common.{◌+◌, ◌*◌}
use Rattle.policy_lang.specs.TreeOf.{term_of}
use Rattle.policy_lang.specs.Sizes.{size_of}
use Rattle.policy_lang.proofs.types.+types.Given as goal

-- three times the nodes, and of functions on the same nodes the caller has more
abbrev pub decreases-check_expr : goal.decreases-check_expr
decreases-check_expr l = 3 * size_of (term_of l.expr.now)

abbrev pub decreases-check_operand : goal.decreases-check_operand
decreases-check_operand l = 3 * size_of (term_of l.expr.now) + 1

abbrev pub decreases-check_two : goal.decreases-check_two
decreases-check_two l = 3 * (size_of (term_of l.left.now) + size_of (term_of l.right.now)) + 2
