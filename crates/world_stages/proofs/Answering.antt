-- The reply to a part's barrier is heard, or the first ERROR of a batch.
use Rattle.std.proofs.Common.{◌≡◌, ◌⊎◌, ℕ, ◌≤◌, Bool, true, false, List, [], ◌∷◌, refl, sym, ap, ap₂, ◌∙◌, subst, subst₂, inl, inr, ⊎_elim, arith}
use Rattle.std.specs.Prelude.{◌&&◌, not, nat_le, Option, Some, None, IfSome, is_some, is_none, if◌then◌else◌}
use Rattle.std.proofs.lemmas.Bool.{and_from, and_parts, and_right, cases_Bool, eqb-true, ne_eqb, leb-true}
use Rattle.maple_base.specs.RuleLists.{Rules}
use Rattle.of10_codec.specs.declared.message.Message.{Message}
use Rattle.of10_codec.specs.declared.message.Body.TheVariants.{BarrierReply}
use Rattle.device_port.specs.Switches.{message}
use Rattle.update_plan.specs.Batches.{no_rules}
use Rattle.switch_session.specs.declared.part.Part.TheVariants.{Clearing}
use Rattle.switch_session.specs.declared.part.UnderWay.{UnderWay}
use Rattle.switch_session.specs.Parts.{Update, AreParts}
use Rattle.switch_session.specs.Sessions.{breaks_off, clears_behind, next_rules}
use Rattle.switch_session.specs.Calls.{is_awaited, acknowledged_by, acknowledged_now, of_batch}
use Rattle.machine_steps.specs.Machine.{Session, State, is_live, state_number}
use Rattle.machine_steps.specs.Steps.{switch_of}
use Rattle.machine_steps.specs.Sound.{IsEarly, IsSound}
use Rattle.machine_steps.proofs.Sound.Moves.{IsOnward, acknowledged_now_onward}
use Rattle.machine_moves.specs.MoveLaws.{Grows}
use Rattle.machine_moves.specs.Moves.{IsAcknowledged, IsBrokenOff}
use Rattle.world_steps.specs.Worlds.{Link}
use Rattle.world_steps.specs.Since.{Marks, starts_next}
use Rattle.world_stages.specs.Flights.{back_of, is_signal, is_signal_body, AreNumbered}
use Rattle.world_stages.specs.FlightLaws.{heard}
use Rattle.world_stages.specs.Backed.{IsBacked}
use Rattle.world_stages.specs.Stages.{IsInPart, IsPlanned, IsWiping}
use Rattle.world_stages.specs.Updates.{IsUnderWay, IsErrorHeard, IsReplyTo, GoesOnward, GoesToPart, GoesToNext, ComesToRest}
use Rattle.world_stages.proofs.Premises.{LowerLaws}
use Rattle.world_stages.proofs.Backing.{backed_later}
use Rattle.world_stages.proofs.Arriving.{Comes, arrives, base_next}
use Rattle.world_stages.proofs.Going.{Stands, Holds, goes_on, starts_on, comes_to_rest, waits_on}
use Rattle.world_stages.proofs.Leading.{IsReady, is_running, stands}
use Rattle.world_stages.proofs.TurnHearing.{silent_at_rest}

-- a number of a batch is one of a live session, and isn't 0
pub batch_parts : (xid : ℕ) (s : Session) → of_batch xid s ≡ true → (is_live s ≡ true) × (1 ≤ xid)
batch_parts xid s e =
    let both = and_parts (is_live s) (nat_le 1 xid) (and_parts (is_live s && nat_le 1 xid) (nat_le xid s.taken) e).0 in
    (both.0, leb-true 1 xid both.1)

module _ (laws : LowerLaws) (old new : State) (marks : Marks) (grows : Grows old new) (sound : IsSound new) (s : Session) (l : Link) (ready : IsReady old marks s l)
    (x : Message) (later : List Message) (first : back_of l ≡ x ∷ later) where
  numbered : AreNumbered s (heard l)
  numbered = (laws.hearing s l).numbered ready.linked.numbered

  -- ---- the reply to the barrier

  module _ (live : is_live s ≡ true) (idle : s.prepared ≡ None) (part : UnderWay) (e : s.under_way ≡ Some part) where
    abbrev t : Session
    t = acknowledged_now s

    on : IsOnward s t
    on = acknowledged_now_onward s idle

    standing : Stands old new marks s l
    standing = stands laws old new marks grows sound s l ready live

    holds : AreNumbered t (heard l) → Holds s l t (heard l)
    holds n = record { phase = on.phase; dpid = on.dpid; number = refl; numbered = n; tells = (laws.hearing s l).tells ready.linked.tells }

    is_way : (next_part : UnderWay) → IsInPart next_part t (heard l) ⊎ IsWiping next_part t (heard l) → IsUnderWay next_part t (heard l)
    is_way next_part (inl h) = inr (inl h)
    is_way next_part (inr h) = inr (inr h)

    planned_on : (o : Option Update) → t.target ≡ s.target → IfSome o (IsPlanned s) → IfSome o (IsPlanned t)
    planned_on None f h = tt
    planned_on (Some u) f h = subst₂ (λ c (X : Rules). AreParts c X u.rules u.parts) (sym on.capacity) (sym f) h

    to_part : GoesToPart part s t (heard l) → Comes old new marks s (heard l) t
    to_part g =
        let r = ready.linked.live live in
        arrives old new marks s (heard l) t marks.base
        (goes_on old new marks s l standing t (heard l) (holds g.numbered) part g.next_part e g.under g.lists (is_way g.next_part g.stage) (waits_on s t g.next)
        (planned_on t.next g.target (subst (λ o. IfSome o (IsPlanned s)) (sym g.next) r.next)) (λ q. g.next ∙ r.hushed (sym on.quiet ∙ q)) (λ q. (sym on.quiet ∙ q, g.target)))

    to_rest : ComesToRest s t (heard l) → Comes old new marks s (heard l) t
    to_rest g =
        arrives old new marks s (heard l) t marks.base
        (comes_to_rest old new marks s l standing t (heard l) (holds g.numbered) part e g.none_waits g.under g.stage on.quiet)

    bounded : (r : Bool) → marks.base ≤ marks.aimed → (if r then marks.aimed else marks.base) ≤ marks.aimed
    bounded true h = omega arith
    bounded false h = h

    to_next : GoesToNext s t (heard l) → s.quiet ≡ false → Comes old new marks s (heard l) t
    to_next g noisy =
        let quiet : t.quiet ≡ false = on.quiet ∙ noisy in
        let starts : starts_next s t ≡ true = and_from (is_some s.next) (is_none t.next && not t.quiet) (ap is_some g.waited)
        (and_from (is_none t.next) (not t.quiet) (ap is_none g.started.next) (ap not quiet)) in
        let a = (ready.linked.live live).aimed noisy in
        let b = if s.ready then marks.aimed else marks.base in
        let low : b ≤ marks.aimed = bounded s.ready a.base in
        let soon : marks.aimed ≤ state_number old = a.until_now in
        let more : state_number old ≤ state_number new = grows.later in
        arrives old new marks s (heard l) t b
        (starts_on old new marks s l standing t (heard l) (holds g.started.numbered) b s.target g.update.rules g.started (base_next old new marks s t part e starts) quiet (omega arith)
        (record { state = marks.aimed; since_then = low; until_now = omega arith; backed = backed_later old new marks.aimed (switch_of s) s.target grows a.backed })
        (record {
          state = state_number old;
          since_then = omega arith;
          until_now = more;
          backed = backed_later old new (state_number old) (switch_of s) g.update.rules grows
              (subst (λ o. IsBacked old (state_number old) (switch_of s) (next_rules o s.target)) g.waited (ready.headed live).backed);
        }))

    onward : GoesOnward part s t (heard l) → Comes old new marks s (heard l) t
    onward (inl g) = to_part g
    onward (inr (inl g)) =
        ⊎_elim (λ quiet. absurd (let none = (ready.linked.live live).hushed quiet in let some = g.waited in cc)) (λ noisy. to_next g noisy) (cases_Bool s.quiet)
    onward (inr (inr g)) = to_rest g

    replied : x ≡ message part.barrier BarrierReply → Comes old new marks s (heard l) t
    replied is =
        onward (subst (λ y. GoesOnward part s y (heard l)) (sym (ap (λ o. acknowledged_by o s) e))
        (laws.replies part s l later (is_running old marks s l part (ready.headed live) ready.linked live e) (first ∙ ap (λ y. y ∷ later) is)))

  pub acknowledges : s.prepared ≡ None → (is_live s ≡ false → IsEarly old s) → (t : Session) → IsAcknowledged x s t → Comes old new marks s (heard l) t
  acknowledges idle early t a = subst (Comes old new marks s (heard l)) (sym a.now_is) (go s.under_way refl a.awaited.0)
    where
      go : (o : Option UnderWay) → s.under_way ≡ o → is_awaited x.xid o ≡ true → Comes old new marks s (heard l) (acknowledged_now s)
      go None e awaited = absurd (cc)
      go (Some part) e awaited =
          ⊎_elim (λ live. replied live idle part e (ap₂ message (sym (eqb-true part.barrier x.xid awaited)) a.reply))
          (λ none. absurd (let f = (early none).under_way in cc)) (cases_Bool (is_live s))

  -- ---- the first ERROR of a batch

  module _ (live : is_live s ≡ true) (noisy : s.quiet ≡ false) (part : UnderWay) (e : s.under_way ≡ Some part) where
    -- the session heads for no rules, and a clearing follows behind the part
    abbrev broken : Session
    broken = record s { quiet = true; target = no_rules; next = None; prepared = None; to_come = Clearing ∷ [] }

    is_broken : breaks_off s ≡ broken
    is_broken = ap (λ o. clears_behind o s.target (record s { quiet = true; target = no_rules; next = None; prepared = None })) e

    goes_broken : IsUnderWay part (breaks_off s) (heard l) → Comes old new marks s (heard l) (breaks_off s)
    goes_broken way =
        let n = numbered in
        subst (Comes old new marks s (heard l)) (sym is_broken)
        (arrives old new marks s (heard l) broken marks.base
        (goes_on old new marks s l (stands laws old new marks grows sound s l ready live) broken (heard l)
        (record {
          phase = refl;
          dpid = refl;
          number = refl;
          numbered = record { taken = n.taken; pending = n.pending; to = n.to; outbox = n.outbox; back = n.back };
          tells = (laws.hearing s l).tells ready.linked.tells;
        })
        part part e e refl (subst (λ y. IsUnderWay part y (heard l)) is_broken way) (and_right (is_some s.next) false refl) tt (λ q. refl) (λ q. absurd (cc))))

  pub breaks : (t : Session) → IsBrokenOff x s t → Comes old new marks s (heard l) t
  breaks t b = subst (Comes old new marks s (heard l)) (sym b.now_is) (go s.under_way refl)
    where
      batch : (is_live s ≡ true) × (1 ≤ x.xid)
      batch = batch_parts x.xid s b.of_change.0

      is_one : is_signal x ≡ true
      is_one = let above = batch.1 in ap (is_signal_body x.xid) b.error ∙ ap not (ne_eqb x.xid 0 (λ f. absurd (omega arith)))

      go : (o : Option UnderWay) → s.under_way ≡ o → Comes old new marks s (heard l) (breaks_off s)
      go None e = absurd (let silent = silent_at_rest laws old marks s l ready x later first batch.0 e in let one = is_one in cc)
      go (Some part) e =
          ⊎_elim
          (λ (r : IsReplyTo part x). absurd (let reply = ap (λ (y : Message). y.body) r in let error = b.error in cc))
          (λ (h : IsErrorHeard part s l x).
          ⊎_elim (λ (clears : part.clears ≡ true). absurd (let f = h.clearing clears in let g = b.of_change.1 in cc)) (λ clears. goes_broken batch.0 b.noisy part e (h.batch clears b.noisy)) (cases_Bool part.clears))
          (laws.signals part s l x later (is_running old marks s l part (ready.headed batch.0) ready.linked batch.0 e) first is_one)
