-- What is to be shown of a live session behind a turn, and what marks it has there.
use Rattle.std.proofs.Common.{◌≡◌, ℕ, ◌≤◌, true, false, refl, sym, ap, ap₂, subst, ⊎_elim, arith}
use Rattle.std.specs.Prelude.{◌&&◌, not, Option, Some, None, IfSome, is_none, unwrap_or, if◌then◌else◌}
use Rattle.std.specs.Option.{option_map}
use Rattle.std.proofs.lemmas.Bool.{and_from, and_left, cases_Bool, or_from, or_left, or_right}
use Rattle.switch_session.specs.declared.part.UnderWay.{UnderWay}
use Rattle.switch_session.specs.Parts.{Update, is_nil}
use Rattle.switch_session.specs.Sessions.{next_rules}
use Rattle.machine_steps.specs.Machine.{Session, State, is_live, state_number}
use Rattle.machine_steps.specs.Steps.{switch_of}
use Rattle.world_steps.specs.Worlds.{Link}
use Rattle.world_steps.specs.Since.{Marks, marked_by, base_behind, aimed_behind, heads_for_target, starts_next}
use Rattle.world_stages.specs.Flights.{AreNumbered, TellsItself}
use Rattle.world_stages.specs.Backed.{IsBacked}
use Rattle.world_stages.specs.Stages.{AreSpanned, IsAtRest, IsInStage, IsAimed, IsPlanned, IsLinked}
use Rattle.world_stages.proofs.Steady.{backed_alike, heads_alone}
use Rattle.world_stages.specs.Updates.{IsUnderWay}
use Rattle.world_stages.proofs.Backing.{IsHeaded}

-- a stage without its base
abbrev pub IsAtStage : Option UnderWay → Session → Link → Type 0
IsAtStage None s l = IsAtRest s l
IsAtStage (Some part) s l = IsUnderWay part s l

module _ (old new : State) (marks : Marks) where
  abbrev pub behind : Session → Session → Marks
  behind s t = marked_by (Some s) (Some t) (state_number old) (state_number new) marks

  -- a session that came from s is in order with its link, where it heads for rules that are backed now
  abbrev pub Comes : Session → Link → Session → Type 0
  Comes s k t = (is_live t ≡ true → IsHeaded new t) → IsLinked new (behind s t) t k

  -- where an update waits, the marks tell when the session was aimed at the running one
  pub record StaysAimed (t : Session) (b : ℕ) : Type 0 where
    pub base : b ≤ marks.aimed
    pub until_now : marks.aimed ≤ state_number new
    pub backed : IsBacked new marks.aimed (switch_of t) t.target

  pub record Arrives (s : Session) (k : Link) (t : Session) (b : ℕ) : Type 0 where
    pub was : is_live s ≡ true
    pub live : is_live t ≡ true
    pub base : base_behind s t (state_number old) (state_number new) marks ≡ b
    pub numbered : AreNumbered t k
    pub tells : TellsItself k
    pub dpid : k.switch.dpid ≡ switch_of t
    pub stage : IsAtStage t.under_way t k
    pub spans : IfSome t.under_way (AreSpanned new b (switch_of t))
    pub next : IfSome t.next (IsPlanned t)
    pub hushed : t.quiet ≡ true → t.next ≡ None
    pub reached : t.quiet ≡ false → b ≤ state_number new
    pub waits : t.quiet ≡ false → (u : Update) → t.next ≡ Some u → StaysAimed t b

  -- ---- the state of the last aim

  aimed_new : (s t : Session) → heads_for_target t ≡ true → t.quiet ≡ false → aimed_behind s t (state_number new) marks ≡ state_number new
  aimed_new s t e q =
      ap (λ b. if b then state_number new else marks.aimed)
      (or_right (not (is_live s)) (heads_for_target t && not t.quiet) (and_from (heads_for_target t) (not t.quiet) e (ap not q)))

  aimed_stays : (s t : Session) → is_live s ≡ true → heads_for_target t ≡ false → aimed_behind s t (state_number new) marks ≡ marks.aimed
  aimed_stays s t l e =
      ap (λ b. if b then state_number new else marks.aimed)
      (or_from (not (is_live s)) (heads_for_target t && not t.quiet) (ap not l) (and_left (heads_for_target t) (not t.quiet) e))

  pub aimed_early : (s t : Session) → is_live s ≡ false → aimed_behind s t (state_number new) marks ≡ state_number new
  aimed_early s t l = ap (λ b. if b then state_number new else marks.aimed) (or_left (not (is_live s)) (heads_for_target t && not t.quiet) (ap not l))

  -- ---- the base

  abbrev base : Session → Session → ℕ
  base s t = base_behind s t (state_number old) (state_number new) marks

  pub base_resting : (s t : Session) → s.under_way ≡ None → is_live s ≡ true → base s t ≡ state_number old
  base_resting s t e l =
      ap₂ (λ a b. if a then (if b then state_number old else state_number new) else (if starts_next s t && s.ready then marks.aimed else marks.base)) (ap is_none e) l

  pub base_early : (s t : Session) → s.under_way ≡ None → is_live s ≡ false → base s t ≡ state_number new
  base_early s t e l =
      ap₂ (λ a b. if a then (if b then state_number old else state_number new) else (if starts_next s t && s.ready then marks.aimed else marks.base)) (ap is_none e) l

  pub base_running : (s t : Session) (part : UnderWay) → s.under_way ≡ Some part → starts_next s t ≡ false → base s t ≡ marks.base
  base_running s t part e f =
      ap₂ (λ a b. if a then (if is_live s then state_number old else state_number new) else (if b && s.ready then marks.aimed else marks.base)) (ap is_none e) f

  pub base_next : (s t : Session) (part : UnderWay) → s.under_way ≡ Some part → starts_next s t ≡ true → base s t ≡ (if s.ready then marks.aimed else marks.base)
  base_next s t part e f =
      ap₂ (λ a b. if a then (if is_live s then state_number old else state_number new) else (if b && s.ready then marks.aimed else marks.base)) (ap is_none e) f

  module _ (s : Session) (k : Link) (t : Session) (b : ℕ) (a : Arrives s k t b) where
    in_stage : (under : Option UnderWay) → IsAtStage under t k → IfSome under (AreSpanned new b (switch_of t)) → IsInStage under new (behind s t) t k
    in_stage None h spans = h
    in_stage (Some part) h spans = (subst (λ n. AreSpanned new n (switch_of t) part) (sym a.base) spans, h)

    module _ (h : IsHeaded new t) (q : t.quiet ≡ false) where
      -- it heads for its target, which is backed now
      backed_target_now : (o : Option Update) → t.next ≡ o → IfSome o (IsPlanned t) → unwrap_or (option_map (λ (u : Update). is_nil u.parts) o) true ≡ true
          → IsBacked new (state_number new) (switch_of t) t.target
      backed_target_now None e planned f = subst (λ o. IsBacked new (state_number new) (switch_of t) (next_rules o t.target)) e h.backed
      backed_target_now (Some u) e planned f =
          backed_alike new (state_number new) marks.aimed (switch_of t) t u h.capacity planned f (a.waits q u e).backed
          (subst (λ o. IsBacked new (state_number new) (switch_of t) (next_rules o t.target)) e h.backed)

      aimed_now : heads_for_target t ≡ true → IsAimed new (behind s t) t
      aimed_now f =
          let is = aimed_new s t f q in
          let low = a.reached q in
          let from = a.base in
          record {
            base = omega arith;
            until_now = omega arith;
            backed = subst (λ n. IsBacked new n (switch_of t) t.target) (sym is) (backed_target_now t.next refl a.next f);
            fresh = λ g. is;
          }

      -- an update waits that leads elsewhere
      aimed_before : heads_for_target t ≡ false → (o : Option Update) → t.next ≡ o → IsAimed new (behind s t) t
      aimed_before f None e = absurd (let g = heads_alone t e in cc)
      aimed_before f (Some u) e =
          let is = aimed_stays s t a.was f in
          let w = a.waits q u e in
          let from = a.base in
          record {
            base = (let low = w.base in omega arith);
            until_now = (let high = w.until_now in omega arith);
            backed = subst (λ n. IsBacked new n (switch_of t) t.target) (sym is) w.backed;
            fresh = λ g. absurd (cc);
          }

      aimed : IsAimed new (behind s t) t
      aimed = ⊎_elim aimed_now (λ f. aimed_before f t.next refl) (cases_Bool (heads_for_target t))

    pub arrives : Comes s k t
    arrives h = record {
      numbered = a.numbered;
      tells = a.tells;
      live = λ live. record { dpid = a.dpid; stage = in_stage t.under_way a.stage a.spans; next = a.next; hushed = a.hushed; aimed = λ q. aimed (h live) q };
      early = λ early. (let live = a.live in absurd (cc));
    }
