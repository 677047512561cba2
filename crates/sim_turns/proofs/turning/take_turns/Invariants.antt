use Rattle.std.proofs.Common.{◌+◌, ◌-◌, ◌≤◌, map}
use Rattle.sim_steps.specs.Parts.{IsTurnAt}
use Rattle.sim_channels.specs.Channels.{Fits, IsSame, bench}
use Rattle.sim_channels.specs.Waiting.{IsAtRest}
use Rattle.sim_turns.specs.Taking.{TakesSome, plugged_count}
use Rattle.sim_turns.proofs.turning.take_turns.Given as goal

abbrev pub invariant-loop-taken : goal.invariant-loop-taken
invariant-loop-taken g l = record {
  fits : Fits l.driver (map g.D.Device.meaning l.devices);
  rest : IsAtRest l.driver;
  same : IsSame l.fn.driver l.driver;
  some : TakesSome (IsTurnAt (l.at + 1)) l.taken (bench l.fn.driver (map g.D.Device.meaning l.fn.devices)) (bench l.driver (map g.D.Device.meaning l.devices));
  most : l.taken ≤ l.most;
}

abbrev pub decreases-loop-taken : goal.decreases-loop-taken
decreases-loop-taken g l = (l.most - l.taken) + plugged_count l.driver.channels.items
