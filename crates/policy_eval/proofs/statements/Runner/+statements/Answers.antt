use Rattle.std.proofs.Common.{sym, ◌∙◌, arith}
use Rattle.maple_base.specs.declared.decision.Outcome.{Outcome}
use Rattle.policy_lang.specs.TreeOf.{term_of}
use Rattle.policy_eval.specs.Data.{datum_of}
use Rattle.policy_eval.specs.StatementParts.{block_runs, repeat_runs}
use Rattle.policy_eval.proofs.Rounds.{test_ends, body_ends, test_fails}
use Rattle.policy_eval.proofs.statements.Runner.+statements.Goals as goal

pub repeat-returns-clause-given : goal.repeat-returns-clause-given
repeat-returns-clause-given g t c =
    let a = c.args.self.now in
    let l = c.loop-self.self in
    test_fails g.A.Asker.said (term_of c.args.test.now) (block_runs c.args.body.now a.local.switch) a.local.switch l.walk.asker l.local.scope l.walk.steps a.walk.asker
    (repeat_runs c.args.test.now c.args.body.now a.local.switch a.local.scope a.walk.steps) c.value.new.self.asker (datum_of c.in_ok-value.field-0) c.value.new.self.steps
    c.loop-self.invariant.rest (rw c.loop-self.invariant.place at c.in_ok-value.ensures.given) (sym c.truth.ensures ∙ c.if-truth.false)

pub repeat-returns-in_err-value-clause-given : goal.repeat-returns-in_err-value-clause-given
repeat-returns-in_err-value-clause-given g t c =
    let a = c.args.self.now in
    let l = c.loop-self.self in
    grind (
      arith,
      λ (o : Outcome). test_ends g.A.Asker.said (term_of c.args.test.now) (block_runs c.args.body.now a.local.switch) a.local.switch l.walk.asker l.local.scope l.walk.steps a.walk.asker
          (repeat_runs c.args.test.now c.args.body.now a.local.switch a.local.scope a.walk.steps) c.value.new.self.asker o c.loop-self.invariant.rest,
    )

pub repeat-returns-in_err-block-clause-given : goal.repeat-returns-in_err-block-clause-given
repeat-returns-in_err-block-clause-given g t c =
    let a = c.args.self.now in
    let l = c.loop-self.self in
    grind (
      arith,
      λ (o : Outcome). body_ends g.A.Asker.said (term_of c.args.test.now) (block_runs c.args.body.now a.local.switch) a.local.switch l.walk.asker l.local.scope l.walk.steps a.walk.asker
          (repeat_runs c.args.test.now c.args.body.now a.local.switch a.local.scope a.walk.steps) c.value.new.self.asker (datum_of c.in_ok-value.field-0) c.value.new.self.steps c.block.new.self.walk.asker o
          c.loop-self.invariant.rest (rw c.loop-self.invariant.place at c.in_ok-value.ensures.given) (sym c.truth.ensures ∙ c.if-truth.true),
    )
