-- What a session makes of a message can be offered.
use Rattle.std.proofs.Common.{◌≡◌, ℕ, ◌^◌, ◌<◌, ◌≤◌, true, List, length, drop, ap, subst, arith, length-drop}
use Rattle.std.specs.Prelude.{◌==◌, Some}
use Rattle.std.proofs.lemmas.Bool.{and_parts}
use Rattle.maple_base.specs.NetworkOrder.{number_at}
use Rattle.of10_codec.specs.declared.message.Message.{Message}
use Rattle.of10_codec.specs.declared.message.Body.{Body}
use Rattle.of10_codec.specs.declared.message.Body.TheVariants as body
use Rattle.switch_session.specs.declared.told.Heard.{Heard}
use Rattle.switch_session.specs.declared.told.Heard.TheVariants as heard
use Rattle.switch_session.specs.declared.told.Phase.TheVariants as phases
use Rattle.switch_session.specs.Calls.{CanBeHeard}
use Rattle.switch_session.specs.Kept.{is_busy}
use Rattle.switch_session.specs.Parts.{features_request, version_refusal, echo_reply}
use Rattle.switch_session.specs.Sessions.{ended, put}
use Rattle.machine_steps.specs.declared.entry.Entry.{Entry}
use Rattle.machine_steps.specs.Admitting.{Admits}
use Rattle.machine_steps.specs.Effects.{Hearing}
use Rattle.machine_steps.specs.Machine.{Session, State, is_open, is_of, session_at}
use Rattle.machine_steps.specs.Messages.{Makes}
use Rattle.machine_steps.specs.Messages.Makes.{PassesOver, RefusesVersion, Greets, Echoes, IsNamed, BringsPacket, BringsPort, ComesEarly, LacksNumbers, Acknowledges, RefusesClearing, BreaksOff, IsRefused}
use Rattle.machine_steps.specs.Sound.{IsInOrder, IsSound}
use Rattle.machine_steps.proofs.Messages.{made_of, batch_live}
use Rattle.machine_steps.proofs.Sound.Keys.{number_below}
use Rattle.machine_steps.proofs.Sound.Moves.{awaited_live}
use Rattle.machine_steps.proofs.Sound.Zipped.{find_all, find_passes}
use Rattle.machine_moves.proofs.SendEntries.{Offers}
use Rattle.machine_moves.proofs.Offers.{request_offered, refusal_offered, echo_offered}
use Rattle.machine_moves.proofs.SendSessions.{LowerLaws, Sends, put_sends, ended_sends, breaks_sends, acknowledged_now_sends}

-- what is told of a message: the features of a session that waits for them, and a packet with a buffer of 32 bits
abbrev pub Tells : Heard → Session → Type 0
Tells (heard.Features dpid ports) t = t.phase ≡ phases.Second
Tells (heard.PacketIn buffer in_port frame) t = buffer < 2 ^ 32
Tells x t = Unit {0}

module _ (m : Message) (can : CanBeHeard m) where
  -- a number of four bytes
  word : (place : ℕ) → number_at place 4 can.bytes < 2 ^ 32
  word place = number_below place 4 can.bytes can.are_bytes

  small : m.xid < 2 ^ 32
  small = subst (λ k. k < 2 ^ 32) can.spelled.header.xid (word 4)

  short : length (drop 8 can.bytes) ≤ 65527
  short =
      let all = can.spelled.header.whole in
      let below = number_below 2 2 can.bytes can.are_bytes in
      let less = length-drop 8 can.bytes in
      omega (arith, all, below, less)

module _ (laws : LowerLaws) (n : ℕ) (room : n ≤ 65535) (old : State) (sound : IsSound old) (c : ℕ) (s : Session) (found : session_at c old ≡ Some s) (f : Sends n s) where
  order : IsInOrder old s
  order = find_all (IsInOrder old) (is_of c) old.sessions s sound.sessions found

  open_now : is_open s ≡ true
  open_now = (and_parts (s.connection == c) (is_open s) (find_passes (is_of c) old.sessions s found)).1

  abbrev Fares : Heard → Session → Type 0
  Fares x t = Sends n t × Tells x t

  ends_so : (u : Session) → Sends n u → Sends n (ended u) × Unit {0}
  ends_so u h = (ended_sends laws n room u h, tt)

  module _ (xid : ℕ) (b : Body) (can : CanBeHeard (record { xid = xid; body = b })) where
    can_be : (x : Body) → b ≡ x → CanBeHeard (record { xid = xid; body = x })
    can_be x is = subst (λ y. CanBeHeard (record { xid = xid; body = y })) is can

    by_made : {x : Heard} {t : Session} → Makes xid b s x t → Fares x t
    by_made (PassesOver may) = (f, tt)
    by_made (RefusesVersion is first) = ends_so (put (version_refusal xid) s) (put_sends laws n room s (version_refusal xid) (refusal_offered laws.spells xid (small _ can)) f)
    by_made (Greets is first) = (
      let p = put_sends laws n room s features_request (request_offered laws.spells) f in
          record { capacity = p.capacity; outbox = p.outbox; target = p.target; next = p.next; to_come = p.to_come; numbers = p.numbers; rest = λ b. f.rest (ap (λ q. is_busy q s.under_way) first) },
      tt,
    )
    by_made (Echoes {bytes} is other) = (
      let c = can_be (body.EchoRequest bytes) is in
          put_sends laws n room s (echo_reply xid bytes) (echo_offered laws.spells xid bytes (small _ can) (subst (λ (b : List ℕ). length b ≤ 65527) c.spelled.body (short _ c))) f,
      tt,
    )
    by_made (IsNamed is second) = (record { capacity = f.capacity; outbox = f.outbox; target = f.target; next = f.next; to_come = f.to_come; numbers = f.numbers; rest = f.rest }, second)
    by_made (BringsPacket {buffer} {total} {in_port} {reason} {bytes} is live) = (
      f,
      let c = can_be (body.PacketIn buffer total in_port reason bytes) is in
          let spelled = c.spelled.body in
          subst (λ k. k < 2 ^ 32) spelled.is_buffer (word _ c 8),
    )
    by_made (BringsPort is live) = (f, tt)
    by_made (ComesEarly is awaited early) = ends_so s f
    by_made (LacksNumbers is to over) = ends_so s f
    by_made (Acknowledges is to within) = (acknowledged_now_sends laws n room s f (awaited_live old s xid order open_now to.0) within, tt)
    by_made (RefusesClearing is batch clearing) = ends_so s f
    by_made (BreaksOff is change loud) = (breaks_sends laws n room s f (batch_live xid s change.0), tt)
    by_made (IsRefused is why) = (f, tt)

-- what a message makes of its session
pub heard_sends : (laws : LowerLaws) (n : ℕ) → n ≤ 65535 → (old : State) → IsSound old → Offers n old → (entry : Entry) → Admits old entry → (x : Heard) (t : Session) → Hearing old entry x t
    → Sends n t × Tells x t
heard_sends laws n room old sound o entry a x t from =
    let s = from.session in
    let m = from.message in
    by_made laws n room old sound from.connection s from.there (find_all (Sends n) (is_of from.connection) old.sessions s o.sessions from.there) m.xid m.body (subst (Admits old) from.is a)
    (made_of m.xid s x t m.body from.hears)
