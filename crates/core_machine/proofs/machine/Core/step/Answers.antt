use Rattle.std.proofs.Common.{sym, subst}
use Rattle.machine_steps.specs.Admitting.{Admits}
use Rattle.core_machine.proofs.machine.Core.step.Goals as goal

pub invariant_of-self : goal.invariant_of-self
invariant_of-self c =
    let admits = subst (λ m. Admits m c.args.entry) (sym c.self.view_is) c.requires.admits in
    c.machine_laws.ensures.keeps c.self.inside.parts c.args.entry c.step.result c.step.new.parts c.self.invariant admits c.step.ensures
