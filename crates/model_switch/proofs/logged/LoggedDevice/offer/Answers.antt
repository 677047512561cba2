use Rattle.std.proofs.Common.{Some, ap, ◌∙◌}
use Rattle.device_port.specs.declared.device.Took.TheVariants.{NoMemory}
use Rattle.device_port.specs.Devices.Call.{Offered}
use Rattle.model_switch.specs.declared.entry.Entry.TheVariants.{Offer}
use Rattle.model_switch.specs.Logs.{calls_of}
use Rattle.model_switch.proofs.Meant.{offers_meant, told}
use Rattle.model_switch.proofs.Told.{told_more}
use Rattle.model_switch.proofs.logged.LoggedDevice.offer.Goals as goal

pub returns-clause-meets : goal.returns-clause-meets
returns-clause-meets c =
    let took = c.offer-took.result in
    let call = Offered c.args.message.now took in
    let list = c.args.self.now.calls.items in
    let more =
    told_more list c.reserve.new.self.items c.push_reserved.new.self.items (Offer c.new.result took) call c.push_reserved.ensures.items c.reserve.ensures.items
    (ap (λ b. Offered b took) (c.new.ensures ∙ c.in-Ok.ensures.items)) in
    offers_meant c.args.message.now took c.args.self.now.inner.switch c.offer-took.new.self.switch 0 (Some (calls_of list)) (Some (calls_of c.push_reserved.new.self.items))
    c.offer-took.ensures.just (told took NoMemory call (calls_of list) (calls_of c.push_reserved.new.self.items) c.in_default-took.not-NoMemory more)
