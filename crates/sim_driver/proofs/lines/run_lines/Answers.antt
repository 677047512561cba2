use Rattle.std.proofs.Common.{◌≡◌, ℕ, true, List, [], length, map, arith, refl, sym, ap, ◌∙◌, subst, rules}
use Rattle.std.proofs.lemmas.List.{length-map, nil_from_length}
use Rattle.sim_channels.proofs.Others.{same_driver, same_then}
use Rattle.script_text.specs.Lines.{ended_lines}
use Rattle.script_text.specs.Orders.{orders_of}
use Rattle.script_text.specs.Steps.{order_with}
use Rattle.sim_driver.specs.declared.drive.SimEnd.{SimEnd}
use Rattle.sim_driver.specs.Passes.{EndsAt, given_by}
use Rattle.sim_driver.specs.Runs.{is_whole}
use Rattle.sim_driver.proofs.Going.{Known, broken_off, followed, stopped_behind, stopped_in, went_further, went_none}
use Rattle.sim_driver.proofs.lines.run_lines.Goals.{then-is_empty, else-is_empty+in-Err-End, else-is_empty+in-Err-Refused}
use Rattle.sim_driver.proofs.lines.run_lines.Goals as goal

pub overflow_cast-places : goal.overflow_cast-places
overflow_cast-places g c =
    let fits = c.requires.opened.ready.fits in omega (arith, fits.kept.numbers, fits.places, length-map c.args.devices.now g.D.Device.meaning)

pub loop-rest-init : goal.loop-rest-init
loop-rest-init g c =
    let devices = map g.D.Device.meaning c.args.devices.now in
    let given = given_by c.args.driver.now.desk.now devices c.args.script.now c.args.first in
    let known : Known given = record { laws = c.deed_laws.ensures; ranges = c.requires.opened.ranges; idle = c.requires.opened.idle } in
    record {
      ready = c.requires.opened.ready;
      same = same_driver c.args.driver.now;
      went =
          went_none given (length c.args.devices.now) (g.O.Sink.tells c.args.to.now) c.args.driver.now devices known
          (length-map c.args.devices.now g.D.Device.meaning) c.requires.opened.opening;
      spared = refl;
      numbers = omega arith;
    }

pub follow-requires-clause-step : goal.follow-requires-clause-step
follow-requires-clause-step g c = rw (← c.loop-rest.auto.devices) at c.in-Ok.ensures.kept

pub overflow_cast-line : goal.overflow_cast-line
overflow_cast-line g c = omega (arith, c.requires.numbers, c.loop-rest.invariant.numbers, c.in-Ok.ensures.within)

pub overflow_add-line : goal.overflow_add-line
overflow_add-line g c = omega (arith, c.requires.numbers, c.loop-rest.invariant.numbers, c.in-Ok.ensures.within)

pub loop-rest-preserved : goal.loop-rest-preserved
loop-rest-preserved g c = record {
  ready = c.in-Ok-follow.ensures.ready;
  went =
      went_further (g.O.Sink.tells c.follow.new.to) c.follow.new.driver (map g.D.Device.meaning c.follow.new.all)
      (order_with c.in-Ok.next.step c.in-Ok.next.text.now) c.in-Ok.next.passed
      (ended_lines c.in-Ok.next.rest.now) c.loop-rest.invariant.went c.in-Ok.ensures.order c.in-Ok-follow.ensures.follows c.in-Ok-follow.ensures.ready;
  same = same_then c.args.driver.now c.loop-rest.driver c.follow.new.driver c.loop-rest.invariant.same c.follow.ensures.same;
  spared = c.in-Ok-follow.ensures.spared (λ e. cc) ∙ c.loop-rest.invariant.spared;
  numbers = omega (arith, c.loop-rest.invariant.numbers, c.in-Ok.ensures.within);
}

pub returns-in-Err-NoMemory-clause-ends : goal.returns-in-Err-NoMemory-clause-ends
returns-in-Err-NoMemory-clause-ends g c = broken_off c.loop-rest.invariant.went

pub returns-in-Err-NoMemory-clause-spared : goal.returns-in-Err-NoMemory-clause-spared
returns-in-Err-NoMemory-clause-spared g c = λ n. c.loop-rest.invariant.spared

pub returns-in-Err-clause-same : goal.returns-in-Err-clause-same
returns-in-Err-clause-same g c = same_then c.args.driver.now c.loop-rest.driver c.follow.new.driver c.loop-rest.invariant.same c.follow.ensures.same

pub returns-in-Err-clause-ends : goal.returns-in-Err-clause-ends
returns-in-Err-clause-ends g c =
    let given = given_by c.args.driver.now.desk.now (map g.D.Device.meaning c.args.devices.now) c.args.script.now c.args.first in
    let after = map g.D.Device.meaning c.follow.new.all in
    let to = g.O.Sink.tells c.follow.new.to in
    subst (λ (end : SimEnd). EndsAt end given c.follow.new.driver.desk after (g.O.Sink.tells c.args.to.now) to) (sym c.end_of.ensures) (
    stopped_in c.loop-rest.invariant.went c.follow.new.driver c.law.ensures to after c.in-Ok.next.step c.in-Ok.next.text.now
    c.in-Ok.next.passed
    (ended_lines c.in-Ok.next.rest.now) c.in-Err.stop (rw c.in-Err.is at c.follow.ensures.follows) c.in-Ok.ensures.order)

pub returns-in-Ok-finish-clause-same : goal.returns-in-Ok-finish-clause-same
returns-in-Ok-finish-clause-same g c = same_then c.args.driver.now c.loop-rest.driver c.finish.new.driver c.loop-rest.invariant.same c.finish.ensures.same

pub returns-in-Ok-finish-clause-ends : goal.returns-in-Ok-finish-clause-ends
returns-in-Ok-finish-clause-ends g c =
    let none : orders_of (length c.args.devices.now) (ended_lines c.loop-rest.rest.now) ≡ [] =
    elim c.if-is_empty.branch [
      | then-is_empty w ↦
          (let ended : c.loop-rest.rest.now ≡ [] = nil_from_length c.loop-rest.rest.now (search rules) in
          ap (λ (text : List ℕ). orders_of (length c.args.devices.now) (ended_lines text)) ended)
      | else-is_empty+in-Err-End w ↦ (rw w.in-Err-End.field-0-is at w.in-Err-End.ensures.stop).orders
      | else-is_empty+in-Err-Refused w ↦ (rw w.in-Err-Refused.field-0-is at w.in-Err-Refused.ensures.stop).orders
    ] in
    let is : is_whole c.if-is_empty.end ≡ true =
    elim c.if-is_empty.branch [
      | then-is_empty w ↦ ap is_whole w.end-is
      | else-is_empty+in-Err-End w ↦ ap is_whole w.end-is
      | else-is_empty+in-Err-Refused w ↦ ap is_whole w.end-is
    ] in
    followed c.loop-rest.invariant.went c.finish.new.driver (map g.D.Device.meaning c.finish.new.all) (g.O.Sink.tells c.finish.new.to)
    c.in-Ok-finish.ensures.finished
    none c.if-is_empty.end is

pub returns-in-Err-finish-clause-same : goal.returns-in-Err-finish-clause-same
returns-in-Err-finish-clause-same g c = same_then c.args.driver.now c.loop-rest.driver c.finish.new.driver c.loop-rest.invariant.same c.finish.ensures.same

pub returns-in-Err-finish-clause-ends : goal.returns-in-Err-finish-clause-ends
returns-in-Err-finish-clause-ends g c =
    let none : orders_of (length c.args.devices.now) (ended_lines c.loop-rest.rest.now) ≡ [] =
    elim c.if-is_empty.branch [
      | then-is_empty w ↦
          (let ended : c.loop-rest.rest.now ≡ [] = nil_from_length c.loop-rest.rest.now (search rules) in
          ap (λ (text : List ℕ). orders_of (length c.args.devices.now) (ended_lines text)) ended)
      | else-is_empty+in-Err-End w ↦ (rw w.in-Err-End.field-0-is at w.in-Err-End.ensures.stop).orders
      | else-is_empty+in-Err-Refused w ↦ (rw w.in-Err-Refused.field-0-is at w.in-Err-Refused.ensures.stop).orders
    ] in
    let given = given_by c.args.driver.now.desk.now (map g.D.Device.meaning c.args.devices.now) c.args.script.now c.args.first in
    let after = map g.D.Device.meaning c.finish.new.all in
    let to = g.O.Sink.tells c.finish.new.to in
    subst (λ (end : SimEnd). EndsAt end given c.finish.new.driver.desk after (g.O.Sink.tells c.args.to.now) to) (sym c.end_of-in-Err-finish.ensures) (
    stopped_behind c.loop-rest.invariant.went c.finish.new.driver c.law-in-Err-finish.ensures to after c.in-Err-finish.stop none
    (rw c.in-Err-finish.is at c.finish.ensures.finished))
