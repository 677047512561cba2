use Rattle.std.proofs.Common.{arith}
use Rattle.std.proofs.lemmas.Result.{err_from_is_err_and}
use Rattle.std.specs.Option.{option_map}
use Rattle.policy_lang.specs.TreeOf.{ask_of, act_of, tree_of}
use Rattle.policy_lang.proofs.Rolls.{if_tree}
use Rattle.policy_lang.proofs.ActNodes.{acts, if_walked}
use Rattle.policy_lang.proofs.NodeLoops.{left_on, left_stop, left_end}
use Rattle.policy_lang.proofs.nodes.+acts.Goals as goal

pub walk_block-loop-statement-preserved : goal.walk_block-loop-statement-preserved
walk_block-loop-statement-preserved t c =
    left_on (acts c.args.depth) c.args.statements.now c.args.first c.args.out.now.items c.loop-statement.statement-index c.statement-item.result c.loop-statement.out.items c.walk_statement.new.out.items c.loop-statement.next c.in_ok-next.next 0
    (omega arith) c.statement-item.is c.loop-statement.invariant c.in_ok-next.ensures.walked c.in_ok-next.ensures.spares

pub walk_block-returns-in_err-next-clause-walked : goal.walk_block-returns-in_err-next-clause-walked
walk_block-returns-in_err-next-clause-walked t c =
    let p = err_from_is_err_and c.from_residual.result c.from_residual.ensures.1 in
    rw (p.1, p.2)
    (left_stop (acts c.args.depth) c.args.statements.now c.args.first c.args.out.now.items c.loop-statement.statement-index c.statement-item.result c.loop-statement.out.items c.walk_statement.new.out.items c.loop-statement.next c.in_err-next.field-0.0
    (omega arith) c.statement-item.is c.loop-statement.invariant c.in_err-next.ensures.walked)

pub walk_block-returns-clause-walked : goal.walk_block-returns-clause-walked
walk_block-returns-clause-walked t c =
    left_end (acts c.args.depth) c.args.statements.now c.args.first c.args.out.now.items c.loop-statement.statement-index c.loop-statement.out.items c.loop-statement.next (omega arith) c.loop-statement.invariant

pub walk_statement-returns-in-If-clause-walked : goal.walk_statement-returns-in-If-clause-walked
walk_statement-returns-in-If-clause-walked t c =
    if_walked c.args.out.now.items c.begin.new.out.items c.walk_if.new.out.items (act_of c.args.statement.now) (ask_of c.in-If.head) (tree_of c.in-If.block) (option_map tree_of c.in-If.other) c.args.first c.args.depth c.walk_if.result
    (if_tree c.args.statement.now c.in-If.head c.in-If.block c.in-If.other c.in-If.is) c.in_ok-begin.ensures.begun.0 c.walk_if.ensures.walked
