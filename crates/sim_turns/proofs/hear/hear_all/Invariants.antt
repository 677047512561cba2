use Rattle.sim_channels.specs.Passes.{rest_at}
use Rattle.sim_turns.proofs.Onward.{HearsOn}
use Rattle.sim_turns.proofs.hear.hear_all.Given as goal

abbrev pub invariant-loop-reach : goal.invariant-loop-reach
invariant-loop-reach g l = HearsOn l.at l.reach l.fn.driver l.driver

abbrev pub decreases-loop-reach : goal.decreases-loop-reach
decreases-loop-reach g l = rest_at l.at l.driver
