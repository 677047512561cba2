use Rattle.std.proofs.Common.{◌≡◌, length, sym, ap, subst}
use Rattle.switch_traces.specs.Traces.{those}
use Rattle.machine_parts.specs.declared.aims.Left.{Left}
use Rattle.machine_parts.specs.Aiming.{keeps}
use Rattle.machine_parts.proofs.Aiming.{none_kept}
use Rattle.machine_parts.proofs.aims.Left.count.Goals as goal

pub returns-in-Nothing : goal.returns-in-Nothing
returns-in-Nothing c =
    let ts = c.args.traces.now.traces in
    subst (λ (x : Left). 0 ≡ length (those (keeps x) ts)) (sym c.in-Nothing.is) (sym (ap length (none_kept ts)))
