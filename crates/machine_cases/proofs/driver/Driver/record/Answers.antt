-- One run more is kept.
use Rattle.std.proofs.Common.{sym, subst}
use Rattle.machine_cases.specs.Driving.{IsDriven}
use Rattle.machine_cases.proofs.Kept.{driven_more}
use Rattle.machine_cases.proofs.driver.Driver.record.Goals as goal

pub invariant_of-self-2 : goal.invariant_of-self-2
invariant_of-self-2 c =
    let more = driven_more c.self.inside.core c.self.inside.budget c.self.inside.runs.items c.args.job c.in_ok-run.run' c.in_ok-run.ensures.run c.self.invariant in
    subst (λ m. IsDriven m c.self.inside.budget c.push.new.self.items) (sym c.in_ok-run.ensures.kept)
    (subst (λ runs. IsDriven c.self.inside.core c.self.inside.budget runs) (sym c.in_ok-push.ensures.items) more)
