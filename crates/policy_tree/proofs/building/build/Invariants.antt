use Rattle.std.proofs.Common.{◌≡◌, Some, drop}
use Rattle.policy_tree.specs.Building.{AreOfFile}
use Rattle.policy_tree.specs.Machine.{State, replay, whole}
use Rattle.policy_tree.specs.Stands.{Stands}
use Rattle.policy_tree.proofs.building.build.Given as goal

-- the builder has what is written so far, and the rest makes the whole file of that
abbrev pub invariant-loop-event : goal.invariant-loop-event
invariant-loop-event l = (f : AreOfFile l.events) → (w : State) × Stands w l.builder × (replay (drop l.event-index l.events) w ≡ Some (whole f.file))
