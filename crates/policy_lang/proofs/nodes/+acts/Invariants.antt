use Rattle.std.proofs.Common.{◌+◌, ◌*◌, drop}
use Rattle.std.specs.Option.{option_map}
use Rattle.policy_lang.specs.TreeOf.{act_of, acts_of, tree_of}
use Rattle.policy_lang.specs.Sizes.{act_size, acts_size, else_size}
use Rattle.policy_lang.proofs.ActNodes.{acts}
use Rattle.policy_lang.proofs.NodeLoops.{Left}
use Rattle.policy_lang.proofs.nodes.+acts.Given as goal

abbrev pub invariant-walk_block-loop-statement : goal.invariant-walk_block-loop-statement
invariant-walk_block-loop-statement l = Left (acts l.depth) l.statements l.first l.initial.out.items (drop l.statement-index l.statements) l.out.items l.next

-- four times the nodes, and of functions on the same nodes the caller has more
abbrev pub decreases-walk_statement : goal.decreases-walk_statement
decreases-walk_statement l = 4 * act_size (act_of l.statement.now)

abbrev pub decreases-walk_if : goal.decreases-walk_if
decreases-walk_if l = 4 * (acts_size (tree_of l.block.now) + else_size (option_map tree_of l.other.now)) + 3

abbrev pub decreases-walk_while : goal.decreases-walk_while
decreases-walk_while l = 4 * acts_size (tree_of l.block.now) + 3

abbrev pub decreases-walk_other : goal.decreases-walk_other
decreases-walk_other l = 4 * else_size (option_map tree_of l.other.now) + 2

abbrev pub decreases-walk_block : goal.decreases-walk_block
decreases-walk_block l = 4 * acts_size (acts_of l.statements.now) + 1
