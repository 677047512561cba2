use Rattle.std.proofs.Common.{get_or, sym, inr, rules}
use Rattle.flow_table.specs.Orders.{NoneAt, StandsAt, IsPlaceFor}
use Rattle.flow_table.proofs.Keeping.{kept_set, kept_insert}
use Rattle.flow_table.proofs.Matches.{at_is}
use Rattle.flow_table.proofs.Changing.{replaced_effect, added_effect, full_answer, added_answer}
use Rattle.flow_table.proofs.change.add.Goals as goal

pub returns-in-Some-clause-effect : goal.returns-in-Some-clause-effect
returns-in-Some-clause-effect c =
    let at : StandsAt c.args.rule.now.of c.args.rule.now.priority c.args.rules.now.items c.in-Some.place = rw c.deref.ensures.value at c.in-Some.ensures in
    replaced_effect c.args.rule.now c.args.rules.now.items c.in-Some.place c.requires.distinct at

pub returns-in-Some-clause-kept : goal.returns-in-Some-clause-kept
returns-in-Some-clause-kept c =
    let at : StandsAt c.args.rule.now.of c.args.rule.now.priority c.args.rules.now.items c.in-Some.place = rw c.deref.ensures.value at c.in-Some.ensures in
    kept_set c.args.rules.now.items c.args.capacity c.in-Some.place c.args.rule.now at.within (λ d. at_is c.args.rule.now.of c.args.rule.now.priority (get_or c.args.rules.now.items c.in-Some.place d) (at.at d)) c.requires

pub returns-then-len-capacity-clause-answer : goal.returns-then-len-capacity-clause-answer
returns-then-len-capacity-clause-answer c =
    let none : NoneAt c.args.rule.now.of c.args.rule.now.priority c.args.rules.now.items = rw c.deref.ensures.value at c.in_default.ensures in
    inr (sym (full_answer c.args.rule.now c.args.rules.now.items none c.args.capacity (search rules)))

pub returns-in-Ok-clause-answer : goal.returns-in-Ok-clause-answer
returns-in-Ok-clause-answer c =
    let none : NoneAt c.args.rule.now.of c.args.rule.now.priority c.args.rules.now.items = rw c.deref.ensures.value at c.in_default.ensures in
    inr (sym (added_answer c.args.rule.now c.args.rules.now.items none c.args.capacity (search rules)))

pub returns-in-Ok-clause-effect : goal.returns-in-Ok-clause-effect
returns-in-Ok-clause-effect c =
    let none : NoneAt c.args.rule.now.of c.args.rule.now.priority c.args.rules.now.items = rw c.deref.ensures.value at c.in_default.ensures in
    rw c.in-Ok.ensures.items (added_effect c.args.rule.now c.args.rules.now.items c.place_for-place.result none)

pub returns-in-Ok-clause-kept : goal.returns-in-Ok-clause-kept
returns-in-Ok-clause-kept c =
    let none : NoneAt c.args.rule.now.of c.args.rule.now.priority c.args.rules.now.items = rw c.deref.ensures.value at c.in_default.ensures in
    let place : IsPlaceFor c.args.rule.now c.args.rules.now.items c.place_for-place.result = rw c.deref-2.ensures.value at c.place_for-place.ensures in
    rw c.in-Ok.ensures.items (kept_insert c.args.rules.now.items c.args.capacity c.place_for-place.result c.args.rule.now (search rules) none place c.requires)

pub returns-in-Err-clause-memory : goal.returns-in-Err-clause-memory
returns-in-Err-clause-memory c =
    let none : NoneAt c.args.rule.now.of c.args.rule.now.priority c.args.rules.now.items = rw c.deref.ensures.value at c.in_default.ensures in
    λ _. added_answer c.args.rule.now c.args.rules.now.items none c.args.capacity (search rules)
