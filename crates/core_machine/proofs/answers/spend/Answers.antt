use Rattle.std.proofs.Common.{◌++◌, ◌∷◌, [], List, refl, ap, sym, ◌∙◌, subst}
use Rattle.std.specs.List.{slice_get}
use Rattle.report_text.specs.declared.line.Line.{Line}
use Rattle.report_text.specs.declared.line.Line.TheVariants.{Spent}
use Rattle.machine_steps.specs.Machine.{State, tells}
use Rattle.machine_steps.specs.Sound.{IsSound}
use Rattle.machine_steps.specs.Steps.{close_job}
use Rattle.core_machine.proofs.Concluding.{spent_is}
use Rattle.core_machine.proofs.answers.spend.Goals as goal

pub returns-clause-spends : goal.returns-clause-spends
returns-clause-spends c =
    λ j there.
    let i = c.close_at-job.result in
    let line = Spent i.switch i.key.in_port in
    let told = c.push_reserved.ensures.items ∙ ap (λ (ls : List Line). ls ++ line ∷ []) c.make_room.ensures.items in (
      refl,
      spent_is c.parts.inside (subst IsSound (sym c.parts.view_is) c.requires.sound) c.args.at j (ap (λ (x : State). slice_get x.jobs c.args.at) c.parts.view_is ∙ there) i c.close_at-job.new.jobs.items c.push_reserved.new.self.items
          c.close_at-job.ensures.job c.close_at-job.ensures.left told
          ∙ ap (λ (x : State). tells (Spent j.switch j.key.in_port) (close_job j x)) c.parts.view_is,
    )
