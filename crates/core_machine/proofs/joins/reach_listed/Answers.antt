use Rattle.std.proofs.Common.{IfOk, ap, sym, ◌∙◌, subst}
use Rattle.machine_steps.specs.Places.{CanReach}
use Rattle.machine_parts.specs.Finding.{is_listed}
use Rattle.core_machine.specs.Reaching.{ReachesBy}
use Rattle.core_machine.proofs.Joining.{listed_is, unlisted_is}
use Rattle.core_machine.proofs.joins.reach_listed.Goals as goal

pub reach-requires-clause-can : goal.reach-requires-clause-can
reach-requires-clause-can c =
    let same = ap (is_listed c.args.dpid) (c.deref.ensures.value ∙ ap (λ m. m.learned) c.parts.view_is) in
    subst CanReach (listed_is c.args.dpid c.args.parts.now (sym same ∙ sym c.is_listed.ensures ∙ c.if-is_listed.true)) c.requires.can

pub reach_with_new-requires-clause-can : goal.reach_with_new-requires-clause-can
reach_with_new-requires-clause-can c =
    let same = ap (is_listed c.args.dpid) (c.deref.ensures.value ∙ ap (λ m. m.learned) c.parts.view_is) in
    subst CanReach (unlisted_is c.args.dpid c.args.parts.now (sym same ∙ sym c.is_listed.ensures ∙ c.if-is_listed.false)) c.requires.can

pub returns-then-is_listed-clause-reached : goal.returns-then-is_listed-clause-reached
returns-then-is_listed-clause-reached c =
    let same = ap (is_listed c.args.dpid) (c.deref.ensures.value ∙ ap (λ m. m.learned) c.parts.view_is) in
    subst (λ m. IfOk c.reach.result (λ reply. ReachesBy c.args.update.now m reply c.reach.new.parts))
    (sym (listed_is c.args.dpid c.args.parts.now (sym same ∙ sym c.is_listed.ensures ∙ c.if-is_listed.true))) c.reach.ensures.reached

pub returns-else-is_listed-clause-reached : goal.returns-else-is_listed-clause-reached
returns-else-is_listed-clause-reached c =
    let same = ap (is_listed c.args.dpid) (c.deref.ensures.value ∙ ap (λ m. m.learned) c.parts.view_is) in
    subst (λ m. IfOk c.reach_with_new.result (λ reply. ReachesBy c.args.update.now m reply c.reach_with_new.new.parts))
    (sym (unlisted_is c.args.dpid c.args.parts.now (sym same ∙ sym c.is_listed.ensures ∙ c.if-is_listed.false))) c.reach_with_new.ensures.reached
