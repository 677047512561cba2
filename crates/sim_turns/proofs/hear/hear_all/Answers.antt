use Rattle.std.proofs.Common.{refl, sym, subst, ◌∙◌}
use Rattle.sim_channels.specs.Passes.{Passed}
use Rattle.machine_desk.specs.declared.hearing.Came.TheVariants.{Ended, Message}
use Rattle.sim_turns.proofs.Onward.{hears_none, hears_nothing, hears_on, hears_state, others_stay}
use Rattle.sim_channels.proofs.Staged.{on_err}
use Rattle.sim_channels.proofs.Broken.{broken_over}
use Rattle.sim_turns.proofs.hear.hear_all.Goals as goal

pub loop-reach-init : goal.loop-reach-init
loop-reach-init g c = hears_none c.args.at c.args.driver.now c.requires.kept c.requires.jobs c.requires.offered

pub returns-in-Nothing : goal.returns-in-Nothing
returns-in-Nothing g c =
    let here = c.args.at in
    let old = c.args.driver.now in
    let mid = c.loop-reach.driver in
    let new = c.hear_next.new.self in
    let reach = c.loop-reach.reach in
    let passed = subst (Passed here mid new) c.in-Nothing.is c.in_ok-hear_next.ensures.passed in
    let h = hears_nothing here reach old mid new c.loop-reach.invariant passed in
    record {
      kept = h.heard.kept;
      carried = h.heard.carried;
      jobs = h.heard.jobs;
      heard = passed.1.0;
      offered = h.heard.offered;
      channels = h.heard.channels;
      nobody = λ e. h.nobody (cc);
      itself = λ e. others_stay here reach old new h (cc);
      broken = tt;
      same = h.heard.same;
    }

pub returns-in-Ended : goal.returns-in-Ended
returns-in-Ended g c =
    let here = c.args.at in
    let old = c.args.driver.now in
    let mid = c.loop-reach.driver in
    let new = c.hear_next.new.self in
    let reach = c.loop-reach.reach in
    let next = c.further.result in
    let learns = c.learning-learning.ensures in
    let passed = subst (Passed here mid new) c.in-Ended.is c.in_ok-hear_next.ensures.passed in
    let h = hears_on here reach old mid new c.loop-reach.invariant Ended next c.further.ensures.some
    (λ e. (let by = c.further.ensures.itself e in (sym learns ∙ by.0, by.1, refl))) passed in
    record {
      kept = h.heard.kept;
      carried = h.heard.carried;
      jobs = h.heard.jobs;
      heard = passed.1;
      offered = h.heard.offered;
      channels = h.heard.channels;
      nobody = λ e. absurd (c.further.ensures.some (cc));
      itself = λ e. others_stay here next old new h (cc);
      broken = tt;
      same = h.heard.same;
    }

pub loop-reach-preserved-in-Message : goal.loop-reach-preserved-in-Message
loop-reach-preserved-in-Message g c =
    let mid = c.loop-reach.driver in
    let new = c.hear_next.new.self in
    hears_on c.args.at c.loop-reach.reach c.args.driver.now mid new c.loop-reach.invariant Message c.further-reach.result c.further-reach.ensures.some
    (λ e. (let by = c.further-reach.ensures.itself e in (sym c.learning-learning.ensures ∙ by.0, by.1, refl)))
    (subst (Passed c.args.at mid new) c.in-Message.is c.in_ok-hear_next.ensures.passed)

pub loop-reach-preserved : goal.loop-reach-preserved
loop-reach-preserved g c =
    let mid = c.loop-reach.driver in
    let new = c.hear_next.new.self in
    hears_state c.args.at c.loop-reach.reach c.args.driver.now mid new c.loop-reach.invariant
    (subst (Passed c.args.at mid new) c.in-State.is c.in_ok-hear_next.ensures.passed)

pub returns-in_err-hear_next-clause-broken : goal.returns-in_err-hear_next-clause-broken
returns-in_err-hear_next-clause-broken g c =
    let was = c.loop-reach.invariant.heard in
    on_err c.from_residual.result
    (broken_over c.args.driver.now c.loop-reach.driver c.hear_next.new.self was.channels.count was.carried c.in_err-hear_next.ensures.broken)
