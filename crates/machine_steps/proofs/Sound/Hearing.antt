-- What a message leaves sound.
use Rattle.std.proofs.Common.{◌≡◌, ℕ, ◌<◌, ◌^◌, Bool, true, false, List, refl, sym, ap, ◌∙◌, subst, inl, inr, ⊎_elim}
use Rattle.std.specs.Prelude.{◌&&◌, ◌==◌, not, Some}
use Rattle.std.proofs.lemmas.Bool.{and_parts, eqb-true}
use Rattle.maple_base.specs.declared.cells.Port.{Port}
use Rattle.of10_codec.specs.declared.message.Message.{Message}
use Rattle.of10_codec.specs.declared.message.Body.{Body}
use Rattle.env_cells.specs.declared.updates.Update.{Update}
use Rattle.env_cells.specs.declared.updates.Update.TheVariants.{Port as PortUpdate}
use Rattle.report_text.specs.declared.line.Line.{Line}
use Rattle.switch_session.specs.declared.told.End.{End}
use Rattle.switch_session.specs.declared.told.End.TheVariants as ends
use Rattle.switch_session.specs.declared.told.Heard.{Heard}
use Rattle.switch_session.specs.declared.told.Heard.TheVariants as heard
use Rattle.switch_session.specs.declared.told.Phase.TheVariants as phases
use Rattle.switch_session.specs.Calls.{CanBeHeard, acknowledged_now, is_live as is_live_phase}
use Rattle.switch_session.specs.Parts.{version_refusal}
use Rattle.switch_session.specs.Sessions.{ended, put}
use Rattle.switch_traces.specs.Lists.{AreRulesOf}
use Rattle.machine_steps.specs.declared.entry.Input.{Input}
use Rattle.machine_steps.specs.declared.entry.Input.TheVariants.{Message as Whole, Bad}
use Rattle.machine_steps.specs.declared.reply.Reply.{Reply}
use Rattle.machine_steps.specs.Machine.{Session, State, is_open, is_of, session_at, with_session, traces_of}
use Rattle.machine_steps.specs.Messages.{Makes}
use Rattle.machine_steps.specs.Messages.Makes.{PassesOver, RefusesVersion, Greets, Echoes, IsNamed, BringsPacket, BringsPort, ComesEarly, LacksNumbers, Acknowledges, RefusesClearing, BreaksOff, IsRefused}
use Rattle.machine_steps.specs.Steps.{switch_of, closes, Updates, HearsFeatures, HearsOf, HearsMessage, HearsInput, EndsSession}
use Rattle.machine_steps.specs.Admitting.{IsHeard}
use Rattle.machine_steps.specs.Sound.{IsInOrder, IsSound}
use Rattle.machine_steps.proofs.Messages.{made_of, batch_live}
use Rattle.machine_steps.proofs.Sound.Zipped.{find_all, find_passes}
use Rattle.machine_steps.proofs.Sound.Following.{Stays, stays_same, stays_in_phase}
use Rattle.machine_steps.proofs.Sound.Keys.{AreBytes, behind, number_below}
use Rattle.machine_steps.proofs.Sound.Kept.{LowerLaws}
use Rattle.machine_steps.proofs.Sound.Moves.{order_outbox, greeted, order_greeted, stays_greeted, acknowledged_now_onward, order_onward, awaited_live}
use Rattle.machine_steps.proofs.Sound.Packets.{sound_packet}
use Rattle.machine_steps.proofs.Sound.Reached.{updated_sound}
use Rattle.machine_steps.proofs.Sound.Replaced.{IsClosed, sound_told, sound_with, sound_closed, sound_quiet}
use Rattle.machine_steps.proofs.Sound.Joined.{sound_joined}

-- an update, accepted or refused
pub sound_update : LowerLaws → (u : Update) (old : State) (reply : Reply) (new : State) → IsSound old → Updates u old reply new → IsSound new
sound_update laws u old reply new h (inl a) = updated_sound laws u old new h a.0 a.2
sound_update laws u old reply new h (inr (inl a)) = subst IsSound (sym a.3) (sound_told old _ h)
sound_update laws u old reply new h (inr (inr a)) = subst IsSound (sym a.1) h

module _ (laws : LowerLaws) (old : State) (h : IsSound old) (c : ℕ) (s : Session) (found : session_at c old ≡ Some s) (xid : ℕ) (b : Body) (reply : Reply) (new : State) where
  order : IsInOrder old s
  order = find_all (IsInOrder old) (is_of c) old.sessions s h.sessions found

  open_now : is_open s ≡ true
  open_now = (and_parts (s.connection == c) (is_open s) (find_passes (is_of c) old.sessions s found)).1

  -- what was made of the message
  abbrev Does : Heard → Session → Type 0
  Does x t = HearsOf (record { xid = xid; body = b }) t x old reply new

  -- the session is another, and nothing else changes but the report
  another : (t : Session) (told : List Line) → Stays s t → (IsInOrder old s → IsInOrder old t) → new ≡ record (with_session t old) { lines = told } → IsSound new
  another t told stays keeps e = subst IsSound (sym e) (sound_with old (is_of c) s t told h found stays keeps)

  the_same : (told : List Line) → new ≡ record (with_session s old) { lines = told } → IsSound new
  the_same told e = another s told (stays_same s) (λ o. o) e

  -- it ends
  ends_so : (t : Session) (end : End) (told : List Line) → IsClosed s t → new ≡ record (closes t end old) { lines = told } → IsSound new
  ends_so t end told closed e = subst IsSound (sym e) (sound_closed old (is_of c) s t end told h found closed)

  ended_closed : (t : Session) → t.connection ≡ s.connection → IsClosed s (ended t)
  ended_closed t e = record { connection = e; shut = refl; idle = refl }

  joins : (dpid : ℕ) (ports : List Port) → s.phase ≡ phases.Second → HearsFeatures (record s { dpid = Some dpid }) dpid ports old reply new → IsSound new
  joins dpid ports second (inl (served, r, e)) = ends_so (ended (record s { dpid = Some dpid })) (ends.Twice dpid) _ (ended_closed (record s { dpid = Some dpid }) refl) e
  joins dpid ports second (inr (inl (unserved, full, r, e))) = ends_so (ended (record s { dpid = Some dpid })) ends.Full _ (ended_closed (record s { dpid = Some dpid }) refl) e
  joins dpid ports second (inr (inr (unserved, free, r, j))) =
      let a = j.accepts in
      let k = j.reaches in
      subst IsSound (sym (j.now_is ∙ ap (λ x. with_session x j.reached) a.now_is ∙ ap (with_session _) k.now_is))
      (sound_joined laws old h (is_of c) s found second dpid ports unserved _ k.sessions a.update k.aims j.rules (subst (λ x. AreRulesOf (traces_of dpid x) j.rules) k.now_is j.are_rules) a.is_update)

  acknowledged : Stays s (acknowledged_now s) → (IsInOrder old s → IsInOrder old (acknowledged_now s)) → (r : Bool) → Does (heard.Acknowledged r) (acknowledged_now s) → IsSound new
  acknowledged stays keeps true d = another (acknowledged_now s) _ stays keeps d.1
  acknowledged stays keeps false d = another (acknowledged_now s) old.lines stays keeps d.1

  module _ (can : CanBeHeard (record { xid = xid; body = b })) where
    pub sound_body : {x : Heard} {t : Session} → Makes xid b s x t → Does x t → IsSound new
    sound_body (PassesOver may) d = the_same old.lines d.1
    sound_body (RefusesVersion is first) d = ends_so (ended (put (version_refusal xid) s)) ends.Version _ (ended_closed (put (version_refusal xid) s) refl) d.1
    sound_body (Greets is first) d = another (greeted s) old.lines (stays_greeted s first) (order_greeted old s first) d.1
    sound_body (Echoes is other) d = another (put _ s) old.lines (stays_in_phase s _ refl refl refl) (order_outbox old s _ _) d.1
    sound_body (IsNamed {dpid} {ports} is second) d = joins dpid ports second d
    sound_body (BringsPacket {buffer} {total} {in_port} {reason} {bytes} is live) d =
        let n = subst (λ y. CanBeHeard (record { xid = xid; body = y })) is can in
        let spelled = n.spelled.body in
        let its : s.connection ≡ c = eqb-true s.connection c (and_parts (s.connection == c) (is_open s) (find_passes (is_of c) old.sessions s found)).0 in
        sound_packet laws s buffer in_port bytes old h (ap (λ d. session_at d old) its ∙ found) (ap is_live_phase live)
        (subst (λ p. p < 2 ^ 16) spelled.is_in_port (number_below 14 2 n.bytes n.are_bytes)) (subst AreBytes spelled.rest (behind 18 n.bytes n.are_bytes)) reply new d
    sound_body (BringsPort {reason} {port} is live) d = sound_update laws (PortUpdate (switch_of s) port.number (port.up && not (reason == 1))) old reply new h d
    sound_body (ComesEarly is awaited early) d = ends_so (ended s) (ends.Early xid) _ (ended_closed s refl) d.1
    sound_body (LacksNumbers is to over) d = ends_so (ended s) ends.Xids _ (ended_closed s refl) d.1
    sound_body (Acknowledges is to within) d =
        let on = acknowledged_now_onward s order.idle in
        acknowledged (stays_in_phase s (acknowledged_now s) on.connection on.phase on.dpid)
        (λ o. order_onward old s (acknowledged_now s) on (awaited_live old s xid order open_now to.0) o) (not s.ready) d
    sound_body (RefusesClearing is batch clearing) d = ends_so (ended s) ends.ClearRefused _ (ended_closed s refl) d.1
    sound_body (BreaksOff is change loud) d = subst IsSound (sym d.1) (sound_quiet laws old (is_of c) s _ h found (batch_live xid s change.0))
    sound_body (IsRefused is why) d = the_same _ d.1

-- the open session of a connection ends
pub sound_end : (c : ℕ) (end : End) (old : State) (reply : Reply) (new : State) → IsSound old → EndsSession c end old reply new → IsSound new
sound_end c end old reply new h (inl (found, e)) = subst IsSound (sym e.1) h
sound_end c end old reply new h (inr (s, found, r, e)) =
    subst IsSound (sym e) (sound_closed old (is_of c) s (ended s) end _ h found (record { connection = refl; shut = refl; idle = refl }))

-- a message, or bytes that are none
pub sound_heard : LowerLaws → (c : ℕ) (m : Message) (old : State) (reply : Reply) (new : State) → IsSound old → CanBeHeard m → HearsMessage c m old reply new → IsSound new
sound_heard laws c m old reply new h n r =
    ⊎_elim (λ d. sound_body laws old h c r.session r.there m.xid m.body reply new n (made_of m.xid r.session r.heard r.behind m.body r.hears) d) (λ l. subst IsSound (sym l.1.1) h) r.does

pub sound_input : LowerLaws → (c : ℕ) (input : Input) (old : State) (reply : Reply) (new : State) → IsSound old → IsHeard input → HearsInput c input old reply new → IsSound new
sound_input laws c (Bad place bad) old reply new h n r = sound_end c _ old reply new h r
sound_input laws c (Whole m) old reply new h n (inl (found, e)) = subst IsSound (sym e.1) h
sound_input laws c (Whole m) old reply new h n (inr (inl r)) = sound_heard laws c m old reply new h n r
sound_input laws c (Whole m) old reply new h n (inr (inr r)) = subst IsSound (sym r.lacks.1) h
