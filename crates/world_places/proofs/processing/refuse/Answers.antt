use Rattle.std.proofs.Common.{◌≡◌, ◌<◌, false, true, [], ◌∷◌, ◌++◌, length, map, refl, sym, ap, ◌∙◌, arith}
use Rattle.std.specs.Prelude.{nat_lt}
use Rattle.std.proofs.lemmas.Bool.{ltb-true}
use Rattle.of10_codec.specs.declared.message.Message.{Message}
use Rattle.of10_codec.specs.declared.message.Body.TheVariants.{Error}
use Rattle.device_port.specs.Switches.{is_flow_mod, message}
use Rattle.model_switch.specs.States.{free_count}
use Rattle.world_places.specs.Places.{Keeps}
use Rattle.world_places.specs.Said.{message_sent}
use Rattle.world_places.proofs.Waiting.{not_counted, not_change, refused, same_at}
use Rattle.world_places.proofs.processing.refuse.Goals as goal
use Rattle.world_places.proofs.processing.refuse.Goals.{then-not-is_free_at-via-then-not-is_free_at, then-not-is_free_at-via-else-not-is_free_at+then-not-is_flow_mod}

pub returns-then-not-is_free_at-clause-acts : goal.returns-then-not-is_free_at-clause-acts
returns-then-not-is_free_at-clause-acts c =
    let kept : Keeps c.args.place.now c.args.place.now = record { connection = refl; to = refl; switch = refl } in
    elim c.then-not-is_free_at.branch [
      | then-not-is_free_at-via-then-not-is_free_at w ↦
          let past : nat_lt c.args.at (free_count c.args.place.now.pending.items) ≡ false = cc (c.is_free_at.ensures.free) in
          (kept, λ m p flow. not_counted c.args.place.now.pending.items c.args.at past m p)
      | then-not-is_free_at-via-else-not-is_free_at+then-not-is_flow_mod w ↦
          let no_flow : is_flow_mod w.index.result.now.body ≡ false = cc (w.is_flow_mod.ensures) in
          (kept, not_change c.args.place.now.pending.items c.args.at w.index.result.now w.index.ensures no_flow)
    ]

pub returns-clause-acts : goal.returns-clause-acts
returns-clause-acts c =
    let p = c.args.place.now in
    let m = c.remove-message.result in
    let counts : nat_lt c.args.at (free_count p.pending.items) ≡ true = cc (c.is_free_at.ensures.free) in
    let free = ltb-true c.args.at (free_count p.pending.items) counts in
    let within : c.args.at < length p.pending.items = omega (arith, p.pending.ok.0) in
    let one = same_at p.pending.items c.args.at c.index.result.now m within c.index.ensures c.remove-message.ensures.value in
    let flow : is_flow_mod c.index.result.now.body ≡ true = cc (c.is_flow_mod.ensures) in
    let said = c.send.ensures ∙ ap (λ ms. ms ++ message m.xid (Error 3 0 []) ∷ []) (ap (map message_sent) c.reserve.ensures.items) in (
      refl,
      refused p.dpid p.table.rules p.pending.items (map message_sent p.sent.items) c.args.at m free c.remove-message.ensures.value c.remove-message.new.self.items c.remove-message.ensures.items
          (map message_sent c.send.new.sent.items) (ap (λ (x : Message). is_flow_mod x.body) (sym one) ∙ flow) said,
    )
