use Rattle.switch_session.proofs.Planned.{both_can_be_sent, nowhere}
use Rattle.switch_session.proofs.parts.parts_between.Goals as goal

pub of_plan-requires-clause-first : goal.of_plan-requires-clause-first
of_plan-requires-clause-first c =
    let plan = c.in_ok-plan.field-0 in
    (both_can_be_sent c.args.capacity c.args.from.now c.args.to.now plan.first plan.second c.batch_laws.ensures.lengths c.batch_laws.ensures.sent c.requires.from c.requires.to c.requires.capacity c.in_ok-plan.ensures.first c.in_ok-plan.ensures.second).0

pub of_plan-requires-clause-second : goal.of_plan-requires-clause-second
of_plan-requires-clause-second c =
    let plan = c.in_ok-plan.field-0 in
    (both_can_be_sent c.args.capacity c.args.from.now c.args.to.now plan.first plan.second c.batch_laws.ensures.lengths c.batch_laws.ensures.sent c.requires.from c.requires.to c.requires.capacity c.in_ok-plan.ensures.first c.in_ok-plan.ensures.second).1

pub returns-clause-parts : goal.returns-clause-parts
returns-clause-parts c =
    let plan = c.in_ok-plan.field-0 in
    record { first = plan.first; second = plan.second; is_first = c.in_ok-plan.ensures.first; is_second = c.in_ok-plan.ensures.second; is = rw (← c.in_ok-plan.ensures.clear) c.of_plan.ensures }

pub returns-clause-nowhere : goal.returns-clause-nowhere
returns-clause-nowhere c =
    let plan = c.in_ok-plan.field-0 in
    rw (c.of_plan.ensures, c.in_ok-plan.ensures.clear)
    (nowhere c.args.capacity c.args.from.now c.args.to.now plan.first plan.second c.batch_laws.ensures.sent c.in_ok-plan.ensures.first c.in_ok-plan.ensures.second)
