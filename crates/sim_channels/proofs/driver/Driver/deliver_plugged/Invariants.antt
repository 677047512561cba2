use Rattle.std.proofs.Common.{map}
use Rattle.machine_desk.specs.declared.inbound.Stage.TheVariants.{Live}
use Rattle.sim_channels.specs.Delivering.{CanOffer, Delivers, offers_left}
use Rattle.sim_channels.specs.Staging.{HasStage}
use Rattle.sim_channels.proofs.driver.Driver.deliver_plugged.Given as goal

abbrev pub invariant-loop-self : goal.invariant-loop-self
invariant-loop-self g l = record {
  done : Delivers l.at l.fn.self (map g.D.Device.meaning l.fn.devices) l.self (map g.D.Device.meaning l.devices);
  plugged : HasStage l.at Live l.self;
  can : CanOffer l.at l.self;
}

abbrev pub decreases-loop-self : goal.decreases-loop-self
decreases-loop-self g l = offers_left l.at l.self
