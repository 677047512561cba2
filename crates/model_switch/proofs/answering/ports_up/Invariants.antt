use Rattle.std.proofs.Common.{◌≡◌}
use Rattle.model_switch.specs.Answers.{ports_up}
use Rattle.model_switch.proofs.answering.ports_up.Given as goal

abbrev pub invariant-loop-i : goal.invariant-loop-i
invariant-loop-i l = l.ports.items ≡ ports_up l.i
