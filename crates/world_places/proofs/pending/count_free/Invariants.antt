use Rattle.std.proofs.Common.{◌≡◌, ◌+◌, drop}
use Rattle.model_switch.specs.States.{free_count}
use Rattle.world_places.proofs.pending.count_free.Given as goal

abbrev pub invariant-loop-i : goal.invariant-loop-i
invariant-loop-i l = l.i + free_count (drop l.i l.pending) ≡ free_count l.pending
