use Rattle.std.proofs.Common.{map}
use Rattle.sim_steps.specs.Showing.{AllIdle}
use Rattle.run_cases.proofs.outcome.outcome_of.OwnLists.{own-1}
use Rattle.run_cases.proofs.outcome.outcome_of.Given as goal

-- no message waits in any device
abbrev pub invariant-loop-kind : goal.invariant-loop-kind
invariant-loop-kind g l = AllIdle (map (λ z. (own-1.entry z.vtable).1.meaning z.value) l.boxes.items)
