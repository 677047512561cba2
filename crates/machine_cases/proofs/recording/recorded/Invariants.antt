use Rattle.std.proofs.Common.{◌≡◌}
use Rattle.machine_cases.proofs.recording.recorded.Given as goal

-- cells are read, and nothing changes
abbrev pub invariant-loop : goal.invariant-loop
invariant-loop l = l.core ≡ l.fn.core
