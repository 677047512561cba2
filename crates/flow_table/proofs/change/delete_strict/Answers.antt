use Rattle.flow_table.specs.Orders.{NoneAt, StandsAt}
use Rattle.flow_table.proofs.Keeping.{kept_remove}
use Rattle.flow_table.proofs.Changing.{removed_effect, kept_effect, kept_answer}
use Rattle.flow_table.proofs.change.delete_strict.Goals as goal

pub returns-in-Some-clause-effect : goal.returns-in-Some-clause-effect
returns-in-Some-clause-effect c capacity =
    let at : StandsAt c.args.of.now c.args.priority c.args.rules.now.items c.in-Some.place = rw c.deref.ensures.value at c.in-Some.ensures in
    rw c.remove-rule.ensures.items (removed_effect c.args.of.now c.args.priority c.args.rules.now.items c.in-Some.place c.requires at)

pub returns-in-Some-clause-kept : goal.returns-in-Some-clause-kept
returns-in-Some-clause-kept c capacity kept =
    let at : StandsAt c.args.of.now c.args.priority c.args.rules.now.items c.in-Some.place = rw c.deref.ensures.value at c.in-Some.ensures in
    rw c.remove-rule.ensures.items (kept_remove c.args.rules.now.items capacity c.in-Some.place at.within kept)

pub returns-in-None-clause-answer : goal.returns-in-None-clause-answer
returns-in-None-clause-answer c capacity =
    let none : NoneAt c.args.of.now c.args.priority c.args.rules.now.items = rw c.deref.ensures.value at c.in-None.ensures in
    kept_answer c.args.of.now c.args.priority c.args.rules.now.items none capacity

pub returns-in-None-clause-effect : goal.returns-in-None-clause-effect
returns-in-None-clause-effect c capacity =
    let none : NoneAt c.args.of.now c.args.priority c.args.rules.now.items = rw c.deref.ensures.value at c.in-None.ensures in
    kept_effect c.args.of.now c.args.priority c.args.rules.now.items none
