use Rattle.std.proofs.Common.{◌+◌, ◌*◌}
use Rattle.policy_lang.specs.TreeOf.{term_of}
use Rattle.policy_lang.specs.Sizes.{size_of}
use Rattle.policy_lang.proofs.nodes.+terms.Given as goal

abbrev pub decreases-walk_expr : goal.decreases-walk_expr
decreases-walk_expr l = 3 * size_of (term_of l.expr.now)

abbrev pub decreases-walk_part : goal.decreases-walk_part
decreases-walk_part l = 3 * size_of (term_of l.expr.now) + 1

abbrev pub decreases-walk_call : goal.decreases-walk_call
decreases-walk_call l = 3 * (size_of (term_of l.left.now) + size_of (term_of l.right.now)) + 2

abbrev pub decreases-walk_pair : goal.decreases-walk_pair
decreases-walk_pair l = 3 * (size_of (term_of l.left.now) + size_of (term_of l.right.now)) + 2
