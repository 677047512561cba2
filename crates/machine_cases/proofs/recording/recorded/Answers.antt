-- The run is of the policy that was lent.
use Rattle.std.proofs.Common.{ap, ◌∙◌, subst}
use Rattle.std.specs.Prelude.{IfSome}
use Rattle.machine_steps.specs.Machine.{State, policy_number}
use Rattle.machine_cases.specs.Driving.{IsRunOf}
use Rattle.machine_cases.proofs.Kept.{lent_run}
use Rattle.machine_cases.proofs.recording.recorded.Goals as goal

pub returns-in-Some-clause-run : goal.returns-in-Some-clause-run
returns-in-Some-clause-run c =
    let same = c.in_ok-number.ensures.kept in
    let fresh = subst (λ found. IfSome found (λ run. IsRunOf c.deref.result.now c.in_ok-number.number c.args.budget run)) c.in-Some.is c.in_ok-run.ensures in
    lent_run c.args.core.now c.deref.result.now c.in_ok-number.number c.args.budget c.in-Some.run' (c.deref.ensures ∙ c.in_ok-number.ensures.policy ∙ ap (λ (m : State). m.policy) same) (c.in_ok-number.ensures.number ∙ ap policy_number same) c.requires.steps fresh
