use Rattle.std.proofs.Common.{◌≡◌, ◌++◌, drop, take, false}
use Rattle.machine_steps.specs.Machine.{kept_of}
use Rattle.machine_parts.proofs.aims.clear_all.Given as goal

abbrev pub invariant-loop-traces : goal.invariant-loop-traces
invariant-loop-traces l = l.learned ≡ kept_of (λ _. false) (take l.traces-index l.fn.learned) ++ drop l.traces-index l.fn.learned
