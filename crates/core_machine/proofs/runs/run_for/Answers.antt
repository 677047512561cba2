use Rattle.std.proofs.Common.{ap, ◌∙◌, get_or, length, refl}
use Rattle.std.proofs.lemmas.Option.{slice_get_read}
use Rattle.machine_steps.specs.Machine.{State}
use Rattle.core_machine.proofs.Committing.{run_is}
use Rattle.core_machine.proofs.runs.run_for.Goals as goal

pub returns : goal.returns
returns c =
    let m = c.args.parts.now in
    let i = c.index-job.result.now in
    let read = c.index-job.ensures ∙ ap (λ (x : State). get_or x.jobs c.args.at i) c.parts.view_is in
    run_is m c.args.at i (slice_get_read m.jobs (length m.jobs) c.args.at i refl c.requires.within read) c.deref.result.now c.policy_number.result c.parts.inside.settings.budget c.parts.inside.scene
    (c.deref.ensures ∙ ap (λ (x : State). x.policy) c.parts.view_is) (ap (λ (x : State). x.settings.budget) c.parts.view_is) (ap (λ (x : State). x.scene) c.parts.view_is)
    c.run_now.result c.run_now.ensures.run c.run_now.ensures.call c.run_now.ensures.cells
