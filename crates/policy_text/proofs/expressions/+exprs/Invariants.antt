use Rattle.std.proofs.Common.{◌+◌, ◌*◌}
use Rattle.policy_lang.specs.TreeOf.{term_of}
use Rattle.policy_lang.specs.Sizes.{size_of}
use Rattle.policy_text.proofs.expressions.+exprs.Given as goal

-- four times the nodes, and of functions on the same nodes the caller has more
abbrev pub decreases-push_expr : goal.decreases-push_expr
decreases-push_expr l = 4 * size_of (term_of l.expr.now)

abbrev pub decreases-push_part : goal.decreases-push_part
decreases-push_part l = 4 * size_of (term_of l.part.now) + 1

abbrev pub decreases-push_operation : goal.decreases-push_operation
decreases-push_operation l = 4 * (size_of (term_of l.left.now) + size_of (term_of l.right.now)) + 2

abbrev pub decreases-push_call : goal.decreases-push_call
decreases-push_call l = 4 * (size_of (term_of l.left.now) + size_of (term_of l.right.now)) + 2
