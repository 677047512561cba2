use Rattle.std.proofs.Common.{◌≡◌, ◌+◌, ◌*◌, drop}
use Rattle.std.specs.Option.{option_map}
use Rattle.policy_lang.specs.TreeOf.{act_of, acts_of, tree_of}
use Rattle.policy_lang.specs.Sizes.{act_size, acts_size, else_size}
use Rattle.policy_lang.specs.Faults.{place_in}
use Rattle.policy_lang.specs.Sound.{sound_acts}
use Rattle.policy_lang.specs.Walks.{told}
use Rattle.policy_lang.specs.Scopes.{in_force}
use Rattle.policy_lang.proofs.Found.{AllFound}
use Rattle.policy_lang.proofs.types.+statements.Given as goal

abbrev pub invariant-check_block-loop-statement : goal.invariant-check_block-loop-statement
invariant-check_block-loop-statement l =
    AllFound (place_in l.nodes) l.statements (in_force l.initial.scope.names.entries) l.node (drop l.statement-index l.statements) (in_force l.scope.names.entries) (told l.found.fault) l.found.next
    × (sound_acts (acts_of (drop l.statement-index l.statements)) ≡ sound_acts (acts_of l.statements))

-- four times the nodes, and of functions on the same nodes the caller has more
abbrev pub decreases-check_statement : goal.decreases-check_statement
decreases-check_statement l = 4 * act_size (act_of l.statement.now)

abbrev pub decreases-check_if : goal.decreases-check_if
decreases-check_if l = 4 * (acts_size (tree_of l.block.now) + else_size (option_map tree_of l.other.now)) + 3

abbrev pub decreases-check_while : goal.decreases-check_while
decreases-check_while l = 4 * acts_size (tree_of l.block.now) + 3

abbrev pub decreases-check_other : goal.decreases-check_other
decreases-check_other l = 4 * else_size (option_map tree_of l.other.now) + 2

abbrev pub decreases-check_block : goal.decreases-check_block
decreases-check_block l = 4 * acts_size (acts_of l.statements.now) + 1
