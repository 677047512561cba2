use Rattle.std.proofs.Common.{◌+◌, ap, sym, ◌∙◌}
use Rattle.machine_steps.specs.Machine.{State}
use Rattle.core_machine.proofs.Concluding.{has_trace}
use Rattle.core_machine.proofs.answers.conclude.Goals as goal

pub answer_at-requires-clause-trace : goal.answer_at-requires-clause-trace
answer_at-requires-clause-trace c =
    let parts = c.into_parts-items.ensures in
    let d = c.in-Decided.decision in
    has_trace c.running_laws.ensures.learned c.args.parts.now c.args.at c.args.run d _ c.requires.sound c.requires.run (sym parts.outcome ∙ c.in-Decided.is)
    (λ n. record { number = (c.in_ok-number-in-Decided.ensures ∙ ap (λ (m : State). m.trace_count + 1) c.parts.view_is) n; items = parts.items n; cells = parts.cells n; decision = d })
