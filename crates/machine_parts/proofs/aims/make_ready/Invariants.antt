use Rattle.machine_steps.specs.Machine.{kept_of}
use Rattle.machine_parts.specs.Aiming.{keeps, AreReadied}
use Rattle.machine_parts.proofs.aims.make_ready.Given as goal

abbrev pub invariant-loop-at : goal.invariant-loop-at
invariant-loop-at l = AreReadied (kept_of (keeps l.left) l.learned) l.at l.fn.sessions l.sessions
