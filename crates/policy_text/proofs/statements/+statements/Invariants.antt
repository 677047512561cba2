use Rattle.std.proofs.Common.{◌≡◌, ◌++◌, ◌+◌, ◌*◌, drop}
use Rattle.std.specs.Option.{option_map}
use Rattle.policy_lang.specs.TreeOf.{act_of, acts_of, tree_of}
use Rattle.policy_lang.specs.Sizes.{act_size, acts_size, else_size}
use Rattle.policy_text.specs.Printed.{acts_text}
use Rattle.policy_text.proofs.statements.+statements.Given as goal

-- what is written of the rest comes behind what was written
abbrev pub invariant-push_statements-loop-statement : goal.invariant-push_statements-loop-statement
invariant-push_statements-loop-statement l = l.text.items ++ acts_text (acts_of (drop l.statement-index l.statements)) l.blocks ≡ l.initial.text.items ++ acts_text (acts_of l.statements) l.blocks

-- four times the nodes, and of functions on the same nodes the caller has more
abbrev pub decreases-push_statement : goal.decreases-push_statement
decreases-push_statement l = 4 * act_size (act_of l.statement.now)

abbrev pub decreases-push_if : goal.decreases-push_if
decreases-push_if l = 4 * (acts_size (tree_of l.first.now) + else_size (option_map tree_of l.second.now)) + 3

abbrev pub decreases-push_while : goal.decreases-push_while
decreases-push_while l = 4 * acts_size (tree_of l.body.now) + 3

abbrev pub decreases-push_else : goal.decreases-push_else
decreases-push_else l = 4 * else_size (option_map tree_of l.second.now) + 2

abbrev pub decreases-push_statements : goal.decreases-push_statements
decreases-push_statements l = 4 * acts_size (acts_of l.statements.now) + 1
