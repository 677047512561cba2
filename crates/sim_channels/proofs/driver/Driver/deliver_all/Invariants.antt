use Rattle.std.proofs.Common.{map}
use Rattle.sim_channels.proofs.Delivered.{DeliversTo}
use Rattle.sim_channels.proofs.driver.Driver.deliver_all.Given as goal

abbrev pub invariant-loop-at : goal.invariant-loop-at
invariant-loop-at g l = DeliversTo l.at l.fn.self (map g.D.Device.meaning l.fn.devices) l.self (map g.D.Device.meaning l.devices)
