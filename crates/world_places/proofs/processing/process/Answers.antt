use Rattle.std.proofs.Common.{◌≡◌, ◌<◌, Bool, false, true, ◌++◌, length, map, refl, sym, ap, ◌∙◌, subst, arith}
use Rattle.std.specs.Prelude.{is_some, nat_lt, MatchBool}
use Rattle.std.proofs.lemmas.Bool.{ltb-true}
use Rattle.of10_codec.specs.declared.message.Message.{Message}
use Rattle.device_port.specs.Switches.{Leads, message}
use Rattle.model_switch.specs.Answers.{reply_of}
use Rattle.model_switch.specs.States.{free_count}
use Rattle.std.specs.Option.{option_map}
use Rattle.world_places.specs.Answers.{messages_of, port_count}
use Rattle.world_places.specs.Places.{switch_of}
use Rattle.world_places.specs.Said.{body_said, message_sent}
use Rattle.world_places.proofs.Waiting.{is_said, lacks_answer, lacks_rule, not_counted, processed, same_at}
use Rattle.world_places.proofs.processing.process.Goals as goal

pub returns-then-not-is_free_at-clause-acts : goal.returns-then-not-is_free_at-clause-acts
returns-then-not-is_free_at-clause-acts c =
    let past : nat_lt c.args.at (free_count c.args.place.now.pending.items) ≡ false = cc (c.is_free_at.ensures.free) in
    (record { connection = refl; to = refl; switch = refl }, not_counted c.args.place.now.pending.items c.args.at past)

pub returns-then-not-reserve_answer-clause-acts : goal.returns-then-not-reserve_answer-clause-acts
returns-then-not-reserve_answer-clause-acts c =
    let p = c.args.place.now in
    let counts : nat_lt c.args.at (free_count p.pending.items) ≡ true = cc (c.is_free_at.ensures.free) in
    let free = ltb-true c.args.at (free_count p.pending.items) counts in
    let same = c.reserve_answer.ensures.same in (
      record { connection = refl; to = refl; switch = λ i. record { dpid = p.dpid; table = p.table.rules; pending = p.pending.items; sent = map message_sent (same i) } },
      lacks_answer (switch_of p) c.args.at c.index.result.now free c.index.ensures (c.reserve_answer.ensures.memory c.if-not-reserve_answer.true p.dpid port_count),
    )

pub returns-then-not-change-clause-acts : goal.returns-then-not-change-clause-acts
returns-then-not-change-clause-acts c =
    let p = c.args.place.now in
    let counts : nat_lt c.args.at (free_count p.pending.items) ≡ true = cc (c.is_free_at.ensures.free) in
    let free = ltb-true c.args.at (free_count p.pending.items) counts in
    let same = c.reserve_answer.ensures.same in
    let stays : c.change.new.table ≡ p.table =
    subst (λ (b : Bool). MatchBool b (Leads c.index.result.now.body p.table.rules c.change.new.table.rules) (c.change.new.table ≡ p.table)) c.if-not-change.true c.change.ensures.table in (
      record { connection = refl; to = refl; switch = λ i. record { dpid = p.dpid; table = (stays i).rules; pending = p.pending.items; sent = map message_sent (same i) } },
      lacks_rule (switch_of p) c.args.at c.index.result.now free c.index.ensures (c.change.ensures.memory c.if-not-change.true),
    )

pub send-requires : goal.send-requires
send-requires c = λ e.
    let p = c.args.place.now in
    let m = c.remove-xid.result in
    let counts : nat_lt c.args.at (free_count p.pending.items) ≡ true = cc (c.is_free_at.ensures.free) in
    let free = ltb-true c.args.at (free_count p.pending.items) counts in
    let within : c.args.at < length p.pending.items = omega (arith, p.pending.ok.0) in
    let one = same_at p.pending.items c.args.at c.index.result.now m within c.index.ensures c.remove-xid.ensures.value in
    let answered : is_some (reply_of p.dpid port_count m.body) ≡ true = ap is_some (sym c.reply.ensures) ∙ is_said c.reply.result e in
    c.reserve_answer.ensures.room c.if-not-reserve_answer.false p.dpid port_count (ap (λ (x : Message). is_some (reply_of p.dpid port_count x.body)) one ∙ answered)

pub returns-clause-acts : goal.returns-clause-acts
returns-clause-acts c =
    let p = c.args.place.now in
    let m = c.remove-xid.result in
    let counts : nat_lt c.args.at (free_count p.pending.items) ≡ true = cc (c.is_free_at.ensures.free) in
    let free = ltb-true c.args.at (free_count p.pending.items) counts in
    let within : c.args.at < length p.pending.items = omega (arith, p.pending.ok.0) in
    let led : Leads c.index.result.now.body p.table.rules c.change.new.table.rules =
    subst (λ (b : Bool). MatchBool b (Leads c.index.result.now.body p.table.rules c.change.new.table.rules) (c.change.new.table ≡ p.table)) c.if-not-change.false c.change.ensures.table in
    let one = same_at p.pending.items c.args.at c.index.result.now m within c.index.ensures c.remove-xid.ensures.value in
    let said = c.send.ensures ∙ ap (λ ms. ms ++ messages_of (option_map (message m.xid) (option_map body_said c.reply.result))) (ap (map message_sent) c.reserve_answer.ensures.same)
    ∙ ap (λ o. map message_sent p.sent.items ++ messages_of (option_map (message m.xid) o)) c.reply.ensures in (
      refl,
      processed p.dpid p.table.rules p.pending.items (map message_sent p.sent.items) c.args.at m free c.remove-xid.ensures.value c.remove-xid.new.self.items c.remove-xid.ensures.items
          c.change.new.table.rules (map message_sent c.send.new.sent.items) (subst (λ (x : Message). Leads x.body p.table.rules c.change.new.table.rules) one led) said,
    )
