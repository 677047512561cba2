-- A run that was kept may be committed, and the others stay kept.
use Rattle.std.proofs.Common.{ℕ, subst}
use Rattle.std.specs.Prelude.{Contains, IfSome}
use Rattle.trace_record.specs.Runs.{Recorded}
use Rattle.machine_steps.specs.declared.entry.Entry.TheVariants.{Commit}
use Rattle.machine_cases.proofs.Kept.{driven_stays, driven_fewer}
use Rattle.machine_cases.proofs.driver.Driver.commit.Goals as goal

pub invariant_of-self : goal.invariant_of-self
invariant_of-self c = driven_fewer c.self.inside.core c.self.inside.budget c.self.inside.runs.items c.taken.new.runs.items c.taken.ensures.rest c.self.invariant

pub step-requires : goal.step-requires
step-requires c =
    let was = subst (λ r. IfSome r (λ run. (n : ℕ) × Contains {X = ℕ × Recorded} c.self.inside.runs.items (n, run))) c.in-Some.is c.taken.ensures.taken in
    record { admits = c.self.invariant.kept was.0 c.in-Some.run' was.1 }

pub invariant_of-self-2 : goal.invariant_of-self-2
invariant_of-self-2 c =
    driven_stays c.self.inside.core c.step.new.self (Commit c.args.job c.in-Some.run') c.step.result c.self.inside.budget c.taken.new.runs.items c.step.ensures.step
    (driven_fewer c.self.inside.core c.self.inside.budget c.self.inside.runs.items c.taken.new.runs.items c.taken.ensures.rest c.self.invariant)
