use Rattle.std.proofs.Common.{arith}
use Rattle.std.proofs.lemmas.Result.{err_from_is_err_and}
use Rattle.policy_lang.proofs.NodeLoops.{exprs, left_on, left_stop, left_end}
use Rattle.policy_lang.proofs.nodes.walk_exprs.Goals as goal

pub loop-expr-preserved : goal.loop-expr-preserved
loop-expr-preserved c =
    left_on (exprs c.args.depth) c.args.exprs.now c.args.first c.args.out.now.items c.loop-expr.expr-index c.expr-item.result c.loop-expr.out.items c.walk_ended.new.out.items c.loop-expr.next c.in_ok-next.next 3
    (omega arith) c.expr-item.is c.loop-expr.invariant c.in_ok-next.ensures.walked c.in_ok-next.ensures.spares

pub returns-in_err-next-clause-walked : goal.returns-in_err-next-clause-walked
returns-in_err-next-clause-walked c =
    let p = err_from_is_err_and c.from_residual.result c.from_residual.ensures.1 in
    rw (p.1, p.2)
    (left_stop (exprs c.args.depth) c.args.exprs.now c.args.first c.args.out.now.items c.loop-expr.expr-index c.expr-item.result c.loop-expr.out.items c.walk_ended.new.out.items c.loop-expr.next c.in_err-next.field-0.0
    (omega arith) c.expr-item.is c.loop-expr.invariant c.in_err-next.ensures.walked)

pub returns-clause-walked : goal.returns-clause-walked
returns-clause-walked c =
    left_end (exprs c.args.depth) c.args.exprs.now c.args.first c.args.out.now.items c.loop-expr.expr-index c.loop-expr.out.items c.loop-expr.next (omega arith) c.loop-expr.invariant
