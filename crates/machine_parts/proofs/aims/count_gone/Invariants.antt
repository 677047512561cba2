use Rattle.std.proofs.Common.{◌≡◌, ◌+◌, drop}
use Rattle.machine_steps.specs.Machine.{kept_of, trace_total}
use Rattle.machine_parts.specs.Aiming.{keeps}
use Rattle.machine_parts.proofs.aims.count_gone.Given as goal

abbrev pub invariant-loop-traces : goal.invariant-loop-traces
invariant-loop-traces l =
    let rest = drop l.traces-index l.learned in
    l.gone + (trace_total (kept_of (keeps l.left) l.learned) + trace_total rest) ≡ trace_total l.learned + trace_total (kept_of (keeps l.left) rest)
