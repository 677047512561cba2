use Rattle.std.proofs.Common.{map, sym, ◌∙◌}
use Rattle.sim_channels.proofs.Delivered.{delivers_then, offered_all, went_on}
use Rattle.sim_steps.proofs.Broken.{broken_carried}
use Rattle.sim_channels.specs.Channels.{bench}
use Rattle.sim_channels.proofs.Staged.{on_err}
use Rattle.sim_channels.proofs.driver.Driver.deliver_plugged.Goals as goal

pub returns-then-not-branch-clause-done : goal.returns-then-not-branch-clause-done
returns-then-not-branch-clause-done g c =
    delivers_then c.args.at c.args.self.now (map g.D.Device.meaning c.args.devices.now) c.loop-self.self (map g.D.Device.meaning c.loop-self.devices) c.offer_next.new.self
    (map g.D.Device.meaning c.offer_next.new.devices) c.loop-self.invariant.done c.in_ok-offer_next.ensures.done

pub loop-self-preserved : goal.loop-self-preserved
loop-self-preserved g c =
    let on = went_on c.in_ok-offer_next.field-0 c.args.at c.loop-self.self c.offer_next.new.self c.if-not-branch.false c.in_ok-offer_next.ensures.goes_on in
    record {
      done = delivers_then c.args.at c.args.self.now (map g.D.Device.meaning c.args.devices.now) c.loop-self.self (map g.D.Device.meaning c.loop-self.devices) c.offer_next.new.self
          (map g.D.Device.meaning c.offer_next.new.devices) c.loop-self.invariant.done c.in_ok-offer_next.ensures.done;
      plugged = on.plugged;
      can = on.can;
    }

pub returns-clause-offered : goal.returns-clause-offered
returns-clause-offered g c = offered_all c.args.at c.loop-self.self c.index.result.now c.index.ensures (sym c.is_empty.ensures ∙ c.loop-self-test.false)

pub returns-in_err-offer_next-clause-broken : goal.returns-in_err-offer_next-clause-broken
returns-in_err-offer_next-clause-broken g c =
    let f = g.D.Device.meaning in
    on_err c.from_residual-in_err-offer_next.result
    (broken_carried (bench c.args.self.now (map f c.args.devices.now)) (bench c.loop-self.self (map f c.loop-self.devices)) c.offer_next.new.self.desk.past
    c.loop-self.invariant.done.carried c.in_err-offer_next.ensures.broken)
