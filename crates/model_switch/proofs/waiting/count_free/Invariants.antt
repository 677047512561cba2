use Rattle.std.proofs.Common.{◌≡◌, ◌+◌, drop, map}
use Rattle.model_switch.specs.States.{free_count}
use Rattle.model_switch.proofs.waiting.count_free.Given as goal

abbrev pub invariant-loop-i : goal.invariant-loop-i
invariant-loop-i l = l.i + free_count (drop l.i (map (λ b. b.value) l.list.items)) ≡ free_count (map (λ b. b.value) l.list.items)
