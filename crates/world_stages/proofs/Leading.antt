-- A session that is led to other rules, or stays as it is.
use Rattle.std.proofs.Common.{◌≡◌, true, false, refl, sym, ap, ◌∙◌, subst, inl, inr, ⊎_elim, arith}
use Rattle.std.specs.Prelude.{◌&&◌, not, Option, Some, None, IfSome, is_some, is_none}
use Rattle.std.proofs.lemmas.Bool.{and_right, and_left, cases_Bool}
use Rattle.maple_base.specs.declared.decision.Settings.{Settings}
use Rattle.maple_base.specs.RuleLists.{Rules}
use Rattle.switch_session.specs.declared.part.UnderWay.{UnderWay}
use Rattle.switch_session.specs.Parts.{Update}
use Rattle.switch_session.specs.Sessions.{aimed, heading, next_rules}
use Rattle.switch_session.specs.Calls.{IsUpdate}
use Rattle.switch_traces.specs.Lists.{AreRulesOf}
use Rattle.machine_steps.specs.Machine.{Session, State, is_live, state_number, traces_of}
use Rattle.machine_steps.specs.Steps.{switch_of}
use Rattle.machine_steps.specs.Sound.{IsSound}
use Rattle.machine_steps.proofs.Sound.Aims.{aimed_so}
use Rattle.machine_moves.specs.MoveLaws.{Grows}
use Rattle.machine_moves.specs.Moves.{MayBeLed}
use Rattle.world_steps.specs.Worlds.{Link}
use Rattle.world_steps.specs.Since.{Marks}
use Rattle.world_stages.specs.Flights.{AreNumbered}
use Rattle.world_stages.specs.Backed.{IsBacked}
use Rattle.world_stages.specs.Stages.{IsAtRest, IsInStage, IsPlanned, IsLinked}
use Rattle.world_stages.specs.Updates.{IsRunning, CanAim, AimsAtRest, AimsBehind}
use Rattle.world_stages.proofs.Premises.{LowerLaws}
use Rattle.world_stages.proofs.Alike.{resent, rest_alike, way_alike}
use Rattle.world_stages.proofs.Backing.{IsHeaded, backed_later, backed_now, steady_for, steady_next}
use Rattle.world_stages.proofs.Arriving.{Comes, arrives, base_resting}
use Rattle.world_stages.proofs.Going.{Stands, Holds, rests_on, goes_on, starts_on, waits_on}

-- a part that is under way is one of backed rules, and so is the update that waits
pub is_running : (m : State) (marks : Marks) (s : Session) (l : Link) (part : UnderWay) → IsHeaded m s → IsLinked m marks s l → is_live s ≡ true → s.under_way ≡ Some part → IsRunning part s l
is_running m marks s l part headed linked live e =
    let r = linked.live live in
    let stage : IsInStage (Some part) m marks s l = subst (λ o. IsInStage o m marks s l) e r.stage in
    record {
      live = live;
      part_is = e;
      stage = stage.1;
      numbered = linked.numbered;
      from = steady_for m s stage.0.from.state (switch_of s) part.lists.from headed.capacity stage.0.from.backed;
      to = steady_for m s stage.0.to.state (switch_of s) part.lists.to headed.capacity stage.0.to.backed;
      next = r.next;
      next_list = steady_next s.capacity s.next s.target (steady_for m s (state_number m) (switch_of s) (heading s) headed.capacity headed.backed);
      hushed = r.hushed;
    }

-- a session with its link, ahead of a turn
pub record IsReady (m : State) (marks : Marks) (s : Session) (l : Link) : Type 0 where
  pub headed : is_live s ≡ true → IsHeaded m s
  pub linked : IsLinked m marks s l

module _ (laws : LowerLaws) (old new : State) (marks : Marks) (grows : Grows old new) (sound : IsSound new) (s : Session) (l : Link) (ready : IsReady old marks s l) where
  pub stands : is_live s ≡ true → Stands old new marks s l
  stands live = record { grows = grows; sound = sound; live = live; headed = ready.headed live; right = ready.linked.live live }

  abbrev with_prepared : Option Update → Session
  with_prepared p = resent s.outbox s.taken p s

  holds : (p : Option Update) → Holds s l (with_prepared p) l
  holds p =
      let n = ready.linked.numbered in
      record {
        phase = refl;
        dpid = refl;
        number = refl;
        numbered = record { taken = n.taken; pending = n.pending; to = n.to; outbox = n.outbox; back = n.back };
        tells = ready.linked.tells;
      }

  stays_live : (p : Option Update) → is_live s ≡ true → Comes old new marks s l (with_prepared p)
  stays_live p live = go s.under_way refl ((ready.linked.live live).stage)
    where
      go : (o : Option UnderWay) → s.under_way ≡ o → IsInStage o old marks s l → Comes old new marks s l (with_prepared p)
      go None e stage =
          arrives old new marks s l (with_prepared p) (state_number old)
          (rests_on old new marks s l (stands live) (with_prepared p) l (holds p) e e (rest_alike laws.agree s l s.outbox s.taken p l.to l.switch.sent refl refl stage))
      go (Some part) e stage =
          let r = ready.linked.live live in
          arrives old new marks s l (with_prepared p) marks.base
          (goes_on old new marks s l (stands live) (with_prepared p) l (holds p) part part e e refl (way_alike laws.agree s l s.outbox s.taken p l.to l.switch.sent refl refl part stage.1) (waits_on s (with_prepared p) refl) r.next r.hushed (λ q. (q, refl)))

  stays_early : is_live s ≡ false → (p : Option Update) → Comes old new marks s l (with_prepared p)
  stays_early early p headed =
      let n = holds p in
      let g = ready.linked.early early in
      record { numbered = n.numbered; tells = n.tells; live = λ live. absurd (cc); early = λ e. record { way = record { line = g.way.line; back = g.way.back }; to_come = g.to_come } }

  -- nothing changes but what was prepared
  stays : (p : Option Update) → Comes old new marks s l (with_prepared p)
  stays p = ⊎_elim (λ live. stays_live p live) (λ early. stays_early early p) (cases_Bool (is_live s))

  module _ (live : is_live s ≡ true) (noisy : s.quiet ≡ false) (X : Rules) (are : AreRulesOf (traces_of (switch_of s) new) X) (plan : Update) (is : IsUpdate s X plan) where
    abbrev u : Session
    u = aimed plan s

    backed : IsBacked new (state_number new) (switch_of s) X
    backed = backed_now new sound (switch_of s) X are

    can : CanAim s l X plan
    can = record {
      live = live;
      noisy = noisy;
      update = is;
      to = steady_for new s (state_number new) (switch_of s) X ((ready.headed live).capacity ∙ ap (λ (x : Settings). x.capacity) (sym grows.settings)) backed;
      heads = steady_for old s (state_number old) (switch_of s) (heading s) (ready.headed live).capacity (ready.headed live).backed;
    }

    as_before : u ≡ with_prepared None → Comes old new marks s l u
    as_before e = subst (Comes old new marks s l) (sym e) (stays None)

    holds_aimed : AreNumbered u l → Holds s l u l
    holds_aimed numbered = let a = aimed_so plan s in record { phase = a.phase; dpid = a.dpid; number = refl; numbered = numbered; tells = ready.linked.tells }

    at_rest : s.under_way ≡ None → IsAtRest s l → AimsAtRest s l X u → Comes old new marks s l u
    at_rest e rest (inl f) = as_before f
    at_rest e rest (inr started) =
        let more = grows.later in
        arrives old new marks s l u (state_number old)
        (starts_on old new marks s l (stands live) u l (holds_aimed started.numbered) (state_number old) s.target X started (base_resting old new marks s u e live)
        ((aimed_so plan s).quiet ∙ noisy) more
        (record {
          state = state_number old;
          since_then = omega arith;
          until_now = more;
          backed = backed_later old new (state_number old) (switch_of s) s.target grows (subst (λ o. IsBacked old (state_number old) (switch_of s) (next_rules o s.target)) rest.next (ready.headed live).backed);
        })
        (record { state = state_number new; since_then = more; until_now = omega arith; backed = backed }))

    behind_part : (part : UnderWay) → s.under_way ≡ Some part → AimsBehind part s l plan u → Comes old new marks s l u
    behind_part part e (inl f) = as_before f
    behind_part part e (inr w) =
        let next = ap (λ (x : Session). x.next) w.now_is in
        let quiet = (aimed_so plan s).quiet ∙ noisy in
        arrives old new marks s l u marks.base
        (goes_on old new marks s l (stands live) u l (holds_aimed w.numbered) part part e (ap (λ (x : Session). x.under_way) w.now_is ∙ e) refl w.stage
        (and_right (is_some s.next) (is_none u.next && not u.quiet) (and_left (is_none u.next) (not u.quiet) (ap is_none next)))
        (subst (λ o. IfSome o (IsPlanned u)) (sym next) w.planned) (λ q. absurd (cc)) (λ q. (noisy, ap (λ (x : Session). x.target) w.now_is)))

    aims_on : Comes old new marks s l u
    aims_on = go s.under_way refl ((ready.linked.live live).stage)
      where
        go : (o : Option UnderWay) → s.under_way ≡ o → IsInStage o old marks s l → Comes old new marks s l u
        go None e stage = at_rest e stage ((laws.aims s l X plan can).at_rest e stage ready.linked.numbered)
        go (Some part) e stage = behind_part part e ((laws.aims s l X plan can).behind part (is_running old marks s l part (ready.headed live) ready.linked live e))

  -- it is led, or not
  pub may_be_led : (t : Session) → MayBeLed new s t → Comes old new marks s l t
  may_be_led t (inl e) = subst (Comes old new marks s l) (sym e) (stays s.prepared)
  may_be_led t (inr led) =
      let h = led.heads in
      subst (Comes old new marks s l) (sym h.now_is) (aims_on led.live led.noisy h.rules h.are_rules h.plan h.is_plan)
