use Rattle.machine_steps.proofs.Sound.Stepping.{can_reach}
use Rattle.core_machine.proofs.dispatch.step.Goals as goal

pub change-requires-clause-can : goal.change-requires-clause-can
change-requires-clause-can c = can_reach c.args.parts.now c.requires.sound
