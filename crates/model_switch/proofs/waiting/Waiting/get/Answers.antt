use Rattle.std.proofs.Common.{◌<◌, length, ap, sym, ◌∙◌, subst}
use Rattle.std.proofs.lemmas.List.{get_or-map, length-map}
use Rattle.of10_codec.specs.declared.message.Message.{Message}
use Rattle.device_port.specs.Devices.{IsOfController}
use Rattle.model_switch.specs.Kept.{waiting}
use Rattle.model_switch.proofs.Lists.{all_at}
use Rattle.model_switch.proofs.waiting.Waiting.get.Goals as goal

pub returns-clause-sent : goal.returns-clause-sent
returns-clause-sent c =
    let items = c.self.inside.list.items in
    let b = c.index.result.now in
    let inside : c.args.place < length (waiting c.self.inside) = rw c.self.view_is c.requires in
    let within : c.args.place < length items = rw length-map at inside in
    let same = get_or-map (λ b. b.value) items c.args.place b b.value within ∙ ap (λ b. b.value) (sym c.index.ensures) in
    rw c.deref.ensures (subst (λ (m : Message). IsOfController m.body) same (all_at (waiting c.self.inside) c.args.place b.value c.self.invariant.sent inside))
