use Rattle.sim_channels.specs.Turns.{NoneBefore}
use Rattle.sim_channels.proofs.driver.Driver.lowest_waiting.Given as goal

abbrev pub invariant-loop-at : goal.invariant-loop-at
invariant-loop-at l = NoneBefore l.at l.self
