use Rattle.std.proofs.Common.{◌≢◌, ◌==◌, sym, ap, ◌∙◌, subst}
use Rattle.std.specs.Prelude.{Contains, MatchOption, position}
use Rattle.machine_steps.specs.declared.job.Job.{Job}
use Rattle.machine_steps.specs.Machine.{State}
use Rattle.core_machine.specs.Concluding.{HasJob}
use Rattle.core_machine.proofs.Committing.{job_is}
use Rattle.core_machine.proofs.runs.job_at.Goals as goal

pub returns : goal.returns
returns c =
    let m = c.args.parts.now in
    let n = c.args.number in
    let place = c.place_of.ensures ∙ ap (λ (x : State). position (λ (j : Job). j.number == n) x.jobs) c.parts.view_is in
    subst (λ o. MatchOption o ((j : Job) → Contains m.jobs j → j.number ≢ n) (λ at. HasJob n at m)) (sym place) (job_is n m)
