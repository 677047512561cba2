use Rattle.std.proofs.Common.{ap, ◌∙◌, arith}
use Rattle.policy_lang.specs.Faults.{place_in}
use Rattle.policy_lang.specs.Walks.{told, merged_by}
use Rattle.policy_lang.specs.Scopes.{in_force}
use Rattle.policy_lang.proofs.Found.{exprs_more}
use Rattle.policy_lang.proofs.SoundParts.{exprs_sound}
use Rattle.policy_lang.proofs.types.check_numbers.Goals as goal

pub loop-expr-preserved : goal.loop-expr-preserved
loop-expr-preserved c =
    let place = place_in c.args.nodes.now in (
      exprs_more place c.args.exprs.now (in_force c.args.scope.now.names.entries) c.args.node c.loop-expr.expr-index c.expr-item.result (told c.loop-expr.found.fault) (told c.then-found.result.fault)
          c.loop-expr.found.next c.then-found.result.next (omega arith) c.expr-item.is c.loop-expr.invariant.0
          (c.then-found.ensures.fault ∙ ap (merged_by place (told c.loop-expr.found.fault)) c.check_operand.ensures.found.fault) (c.then-found.ensures.next ∙ c.check_operand.ensures.found.next),
      exprs_sound c.args.exprs.now c.loop-expr.expr-index c.expr-item.result (omega arith) c.expr-item.is c.check_operand.ensures.sound c.loop-expr.invariant.1,
    )
