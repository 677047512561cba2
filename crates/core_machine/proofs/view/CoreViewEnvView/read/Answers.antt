use Rattle.std.proofs.Common.{◌≡◌, true, sym, subst}
use Rattle.maple_base.specs.Kinds.{of_kind}
use Rattle.core_machine.proofs.view.CoreViewEnvView.read.Goals as goal

pub returns-clause-kind : goal.returns-clause-kind
returns-clause-kind c =
    subst (λ v. of_kind c.args.cell v ≡ true) (sym c.ask.ensures.told) (c.running_laws.ensures.kinds c.args.self.now.core.now c.law.ensures c.args.cell)
