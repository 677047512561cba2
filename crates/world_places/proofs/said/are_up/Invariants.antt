use Rattle.std.proofs.Common.{◌≡◌, take}
use Rattle.model_switch.specs.Answers.{ports_up}
use Rattle.world_places.proofs.said.are_up.Given as goal

abbrev pub invariant-loop-i : goal.invariant-loop-i
invariant-loop-i l = take l.i l.ports ≡ ports_up l.i
