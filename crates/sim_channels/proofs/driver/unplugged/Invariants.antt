use Rattle.std.proofs.Common.{◌≡◌, length}
use Rattle.std.specs.List.{AllByRecursion}
use Rattle.sim_channels.specs.Channels.{AreNumbered}
use Rattle.sim_channels.specs.Delivering.{IsUnused}
use Rattle.sim_channels.proofs.driver.unplugged.Given as goal

abbrev pub invariant-loop-at : goal.invariant-loop-at
invariant-loop-at l = record {
  count : length l.channels.items ≡ l.at;
  unused : AllByRecursion IsUnused l.channels.items;
  names : AreNumbered l.channels.items;
}
