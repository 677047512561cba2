use Rattle.std.proofs.Common.{◌+◌, ◌-◌, ◌≤◌, map}
use Rattle.sim_steps.specs.Parts.{IsLowestTurn, most_turns}
use Rattle.sim_channels.specs.Channels.{Fits, IsSame, bench}
use Rattle.sim_channels.specs.Waiting.{IsAtRest, IsDone}
use Rattle.sim_turns.specs.Taking.{TakesSome, plugged_count}
use Rattle.sim_turns.proofs.settling.settle.Given as goal

abbrev pub invariant-loop-at : goal.invariant-loop-at
invariant-loop-at g l = record {
  fits : Fits l.driver (map g.D.Device.meaning l.devices);
  rest : IsAtRest l.driver;
  done : IsDone l.driver;
  same : IsSame l.fn.driver l.driver;
  some : TakesSome IsLowestTurn l.taken (bench l.fn.driver (map g.D.Device.meaning l.fn.devices)) (bench l.driver (map g.D.Device.meaning l.devices));
  most : l.taken ≤ most_turns;
}

abbrev pub decreases-loop-at : goal.decreases-loop-at
decreases-loop-at g l = (most_turns - l.taken) + plugged_count l.driver.channels.items
