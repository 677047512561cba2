-- A message that moves no update is heard, and messages that are no part of one are sent: the session stays in its stage.
use Rattle.std.proofs.Common.{◌≡◌, ◌⊎◌, ◌≤◌, Bool, true, false, cond, List, ◌∷◌, ◌++◌, refl, sym, ap, ◌∙◌, subst, inl, inr, ⊎_elim, arith}
use Rattle.std.specs.Prelude.{◌&&◌, ◌==◌, not, nat_le, drop, Option, Some, None}
use Rattle.std.specs.List.{AllByRecursion}
use Rattle.std.proofs.lemmas.Bool.{and_from, or_from, cases_Bool, eqb-false, eq-eqb, le-leb}
use Rattle.of10_codec.specs.declared.message.Message.{Message}
use Rattle.of10_codec.specs.declared.message.Body.{Body}
use Rattle.of10_codec.specs.declared.message.Body.TheVariants.{Error, BarrierReply}
use Rattle.device_port.specs.Switches.{is_barrier, is_flow_mod, IsFree}
use Rattle.switch_session.specs.declared.part.UnderWay.{UnderWay}
use Rattle.switch_session.specs.Calls.{is_awaited, of_clearing}
use Rattle.machine_steps.specs.Machine.{Session, State, is_live}
use Rattle.machine_steps.proofs.Sound.Zipped.{all_weaker}
use Rattle.machine_moves.specs.Moves.{IsOther as SendsOther, IsIdle, IsIdleBody}
use Rattle.world_steps.specs.Worlds.{Link}
use Rattle.world_steps.specs.Since.{Marks}
use Rattle.world_stages.specs.Flights.{back_of, signals, is_signal, is_signal_body, IsUpTo}
use Rattle.world_stages.specs.FlightLaws.{heard, IsOther, with_messages}
use Rattle.world_stages.specs.Stages.{IsInStage}
use Rattle.world_stages.specs.Updates.{IsUnderWay, IsErrorHeard, IsReplyTo}
use Rattle.world_stages.proofs.Premises.{LowerLaws}
use Rattle.world_stages.proofs.Alike.{linked_alike}
use Rattle.world_stages.proofs.Leading.{IsReady, is_running}

-- the message that is heard is the first one, or one that a switch may send at any moment
abbrev pub IsHeardAt : Message → Link → Link → Type 0
IsHeardAt x l k = ((later : List Message) × (back_of l ≡ x ∷ later) × (k ≡ heard l)) ⊎ (IsFree x × (k ≡ l))

module _ (laws : LowerLaws) (m : State) (marks : Marks) (s : Session) (l : Link) (ready : IsReady m marks s l) where
  -- ---- messages that are sent

  pub sends : (ms : List Message) → AllByRecursion SendsOther ms → IsReady m marks (with_messages ms s) l
  sends ms others =
      let h = laws.sent s l ms (all_weaker SendsOther IsOther (λ x o. or_from (is_flow_mod x.body) (is_barrier x.body) o.no_change o.no_barrier) ms others) in
      record {
        headed = λ live. (let known = ready.headed live in record { capacity = known.capacity; backed = known.backed });
        linked = linked_alike laws.agree s l (s.outbox ++ ms) s.taken s.prepared l.to l.switch.sent h.line refl m marks ready.linked (h.numbered ready.linked.numbered) ready.linked.tells;
      }

  -- ---- a message that is heard

  module _ (x : Message) (later : List Message) (first : back_of l ≡ x ∷ later) where
    -- one that is no signal
    pub hears_other : is_signal x ≡ false → IsReady m marks s (heard l)
    hears_other other =
        let kept = laws.hearing s l in
        record {
          headed = ready.headed;
          linked = linked_alike laws.agree s l s.outbox s.taken s.prepared l.to (drop 1 l.switch.sent) refl (laws.others s l x later first other) m marks ready.linked
              (kept.numbered ready.linked.numbered) (kept.tells ready.linked.tells);
        }

    -- while nothing is under way no other comes
    pub silent_at_rest : is_live s ≡ true → s.under_way ≡ None → is_signal x ≡ false
    silent_at_rest live e = laws.silent s l x later (subst (λ o. IsInStage o m marks s l) e (ready.linked.live live).stage).way first

    pub silent_early : is_live s ≡ false → is_signal x ≡ false
    silent_early early = laws.silent s l x later (ready.linked.early early).way first

    -- a signal has a number that was taken out
    signal_taken : is_signal x ≡ true → x.xid ≤ s.taken
    signal_taken e = (subst (AllByRecursion (IsUpTo s.taken)) (ap signals first ∙ ap (λ b. cond b (x ∷ signals later) (signals later)) e) ready.linked.numbered.back).0

    -- an ERROR of an update that moves none is one of a batch of a quiet session
    idle_error : (b : Body) → is_live s ≡ true → x.xid ≤ s.taken → is_signal_body x.xid b ≡ true → (b ≡ BarrierReply → ⊥) → IsIdleBody x.xid b s → (of_clearing x.xid s ≡ false) × (s.quiet ≡ true)
    idle_error (Error kind code bytes) live few e other (inl no_batch) =
        let above : 1 ≤ x.xid = go (x.xid == 0) refl e in
        let batch = and_from (is_live s && nat_le 1 x.xid) (nat_le x.xid s.taken) (and_from (is_live s) (nat_le 1 x.xid) live (le-leb 1 x.xid above)) (le-leb x.xid s.taken few) in
        absurd (cc)
      where
        go : (b : Bool) → (x.xid == 0) ≡ b → not b ≡ true → 1 ≤ x.xid
        go true f g = absurd (cc)
        go false f g = let apart = eqb-false x.xid 0 f in omega arith
    idle_error (Error kind code bytes) live few e other (inr q) = (q.0.1, q.1)
    idle_error BarrierReply live few e other i = absurd (other refl)
    idle_error b live few e other i = absurd (cc)

    hears_signal : IsIdle x s → is_live s ≡ true → is_signal x ≡ true → IsReady m marks s (heard l)
    hears_signal idle live e = go s.under_way refl
      where
        again : (part : UnderWay) → s.under_way ≡ Some part → IsErrorHeard part s l x → IsUnderWay part s (heard l)
        again part f h =
            let error = idle_error x.body live (signal_taken e) e h.no_reply idle in
            ⊎_elim (λ (clears : part.clears ≡ true). absurd (let g = h.clearing clears in let n = error.0 in cc)) (λ clears. h.again clears error.1) (cases_Bool part.clears)

        reply : (part : UnderWay) → s.under_way ≡ Some part → IsReplyTo part x → ⊥
        reply part f is =
            let not_awaited : is_awaited part.barrier s.under_way ≡ false = subst (λ y. IsIdle y s) is idle in
            let awaited : is_awaited part.barrier s.under_way ≡ true = ap (is_awaited part.barrier) f ∙ eq-eqb part.barrier part.barrier refl in
            cc

        stands : (part : UnderWay) → s.under_way ≡ Some part → IsUnderWay part s (heard l) → IsReady m marks s (heard l)
        stands part f way =
            let kept = laws.hearing s l in
            let r = ready.linked.live live in
            record {
              headed = ready.headed;
              linked = record {
                numbered = kept.numbered ready.linked.numbered;
                tells = kept.tells ready.linked.tells;
                live = λ on. record {
                  dpid = r.dpid;
                  stage = subst (λ o. IsInStage o m marks s (heard l)) (sym f) ((subst (λ o. IsInStage o m marks s l) f r.stage).0, way);
                  next = r.next;
                  hushed = r.hushed;
                  aimed = r.aimed;
                };
                early = λ early. absurd (cc);
              };
            }

        go : (o : Option UnderWay) → s.under_way ≡ o → IsReady m marks s (heard l)
        go None f = let none = silent_at_rest live f in absurd (cc)
        go (Some part) f =
            ⊎_elim (λ r. absurd (reply part f r)) (λ h. stands part f (again part f h))
            (laws.signals part s l x later (is_running m marks s l part (ready.headed live) ready.linked live f) first e)

    hears_idle : IsIdle x s → IsReady m marks s (heard l)
    hears_idle idle =
        ⊎_elim
        (λ e. ⊎_elim (λ live. hears_signal idle live e) (λ early. (let none = silent_early early in absurd (cc))) (cases_Bool (is_live s)))
        hears_other (cases_Bool (is_signal x))

  -- a message that moves no update
  pub idles : (x : Message) (k : Link) → IsIdle x s → IsHeardAt x l k → IsReady m marks s k
  idles x k idle (inl (later, first, is)) = subst (IsReady m marks s) (sym is) (hears_idle x later first idle)
  idles x k idle (inr (free, is)) = subst (IsReady m marks s) (sym is) ready
