-- How a live session arrives: it rests on, goes on behind a part, starts an update, comes to rest.
use Rattle.std.proofs.Common.{◌≡◌, ℕ, ◌≤◌, true, false, refl, sym, ap, ap₂, ◌∙◌, subst, subst₂, inl, inr, arith}
use Rattle.std.specs.Prelude.{◌&&◌, not, Option, Some, None, IfSome, is_some, is_none, unwrap_or}
use Rattle.maple_base.specs.RuleLists.{Rules}
use Rattle.switch_session.specs.declared.part.UnderWay.{UnderWay}
use Rattle.switch_session.specs.Lists.{Lists}
use Rattle.switch_session.specs.Parts.{Update}
use Rattle.switch_session.specs.Calls.{is_live as is_live_phase}
use Rattle.machine_steps.specs.Machine.{Session, State, is_live, state_number}
use Rattle.machine_steps.specs.Steps.{switch_of}
use Rattle.machine_steps.specs.Sound.{IsSound}
use Rattle.machine_moves.specs.MoveLaws.{Grows}
use Rattle.world_steps.specs.Worlds.{Link}
use Rattle.world_steps.specs.Since.{Marks, base_behind, starts_next}
use Rattle.world_stages.specs.Flights.{AreNumbered, TellsItself}
use Rattle.world_stages.specs.Backed.{IsBacked, IsBackedSince}
use Rattle.world_stages.specs.Stages.{AreSpanned, IsAtRest, IsInStage, IsPlanned, IsLiveRight}
use Rattle.world_stages.specs.Updates.{IsUnderWay, HasStarted, HasStartedBy}
use Rattle.world_stages.proofs.Backing.{IsHeaded, backed_later, spanned_later}
use Rattle.world_stages.proofs.Arriving.{IsAtStage, Arrives, base_resting, base_running}

-- ---- lists by their equations

spanned_alike : (m : State) (base v w : ℕ) (p q : UnderWay) → w ≡ v → q.lists ≡ p.lists → AreSpanned m base v p → AreSpanned m base w q
spanned_alike m base v w p q f e h = record {
  from = subst₂ (λ x (ls : Lists). IsBackedSince m base x ls.from) (sym f) (sym e) h.from;
  to = subst₂ (λ x (ls : Lists). IsBackedSince m base x ls.to) (sym f) (sym e) h.to;
}

started_stage : (o : Option UnderWay) (from to : Rules) (t : Session) (k : Link) → HasStartedBy o from to t k → IsAtStage o t k
started_stage None from to t k h = h
started_stage (Some part) from to t k h = inr (inl h.1)

started_spans : (m : State) (base v : ℕ) (o : Option UnderWay) (from to : Rules) (t : Session) (k : Link)
    → HasStartedBy o from to t k → IsBackedSince m base v from → IsBackedSince m base v to → IfSome o (AreSpanned m base v)
started_spans m base v None from to t k h f g = tt
started_spans m base v (Some part) from to t k h f g =
    record { from = subst (λ (ls : Lists). IsBackedSince m base v ls.from) (sym h.0) f; to = subst (λ (ls : Lists). IsBackedSince m base v ls.to) (sym h.0) g }

-- an update that waits stays so, or comes
pub waits_on : (s t : Session) → t.next ≡ s.next → starts_next s t ≡ false
waits_on s t e = go s.next refl
  where
    go : (o : Option Update) → s.next ≡ o → starts_next s t ≡ false
    go None f = ap (λ n. is_some n && (is_none t.next && not t.quiet)) f
    go (Some u) f = ap₂ (λ a b. a && (b && not t.quiet)) (ap is_some f) (ap is_none (e ∙ f))

-- ---- what is known of a live session ahead of a turn

pub record Stands (old new : State) (marks : Marks) (s : Session) (l : Link) : Type 0 where
  pub grows : Grows old new
  pub sound : IsSound new
  pub live : is_live s ≡ true
  pub headed : IsHeaded old s
  pub right : IsLiveRight old marks s l

-- what a session and its link are behind it, at the switch where they were
pub record Holds (s : Session) (l : Link) (t : Session) (k : Link) : Type 0 where
  pub phase : t.phase ≡ s.phase
  pub dpid : t.dpid ≡ s.dpid
  pub number : k.switch.dpid ≡ l.switch.dpid
  pub numbered : AreNumbered t k
  pub tells : TellsItself k

module _ (old new : State) (marks : Marks) (s : Session) (l : Link) (h : Stands old new marks s l) (t : Session) (k : Link) (holds : Holds s l t k) where
  lives : is_live t ≡ true
  lives = ap is_live_phase holds.phase ∙ h.live

  same : switch_of t ≡ switch_of s
  same = ap (λ d. unwrap_or d 0) holds.dpid

  number : k.switch.dpid ≡ switch_of t
  number = holds.number ∙ h.right.dpid ∙ sym same

  -- at rest, and nothing changes
  pub rests_on : s.under_way ≡ None → t.under_way ≡ None → IsAtRest t k → Arrives old new marks s k t (state_number old)
  rests_on e f rest = record {
    was = h.live;
    live = lives;
    base = base_resting old new marks s t e h.live;
    numbered = holds.numbered;
    tells = holds.tells;
    dpid = number;
    stage = subst (λ o. IsAtStage o t k) (sym f) rest;
    spans = subst (λ o. IfSome o (AreSpanned new (state_number old) (switch_of t))) (sym f) tt;
    next = subst (λ o. IfSome o (IsPlanned t)) (sym rest.next) tt;
    hushed = λ q. rest.next;
    reached = λ q. h.grows.later;
    waits = λ q u w. (let none = rest.next in absurd (cc));
  }

  -- the lists of the part that was under way
  spanned : (part : UnderWay) → s.under_way ≡ Some part → AreSpanned old marks.base (switch_of s) part
  spanned part e = (subst (λ o. IsInStage o old marks s l) e h.right.stage).0

  low : s.quiet ≡ false → marks.base ≤ state_number new
  low q = let a = h.right.aimed q in let x = a.base in let y = a.until_now in let z = h.grows.later in omega arith

  -- a part of the same update is under way
  pub goes_on : (part q : UnderWay) → s.under_way ≡ Some part → t.under_way ≡ Some q → q.lists ≡ part.lists → IsUnderWay q t k → starts_next s t ≡ false
      → IfSome t.next (IsPlanned t) → (t.quiet ≡ true → t.next ≡ None) → (t.quiet ≡ false → (s.quiet ≡ false) × (t.target ≡ s.target)) → Arrives old new marks s k t marks.base
  goes_on part q e f lists way none next hushed still = record {
    was = h.live;
    live = lives;
    base = base_running old new marks s t part e none;
    numbered = holds.numbered;
    tells = holds.tells;
    dpid = number;
    stage = subst (λ o. IsAtStage o t k) (sym f) way;
    spans = subst (λ o. IfSome o (AreSpanned new marks.base (switch_of t))) (sym f)
        (spanned_alike new marks.base (switch_of s) (switch_of t) part q same lists (spanned_later old new marks.base (switch_of s) part h.grows (spanned part e)));
    next = next;
    hushed = hushed;
    reached = λ x. low (still x).0;
    waits = λ x u w. (let a = h.right.aimed (still x).0 in record {
      base = a.base;
      until_now = (let y = a.until_now in let z = h.grows.later in omega arith);
      backed = subst₂ (λ v X. IsBacked new marks.aimed v X) (sym same) (sym (still x).1) (backed_later old new marks.aimed (switch_of s) s.target h.grows a.backed);
    });
  }

  -- nothing is under way any more
  pub comes_to_rest : (part : UnderWay) → s.under_way ≡ Some part → s.next ≡ None → t.under_way ≡ None → IsAtRest t k → t.quiet ≡ s.quiet → Arrives old new marks s k t marks.base
  comes_to_rest part e none f rest quiet = record {
    was = h.live;
    live = lives;
    base = base_running old new marks s t part e (waits_on s t (rest.next ∙ sym none));
    numbered = holds.numbered;
    tells = holds.tells;
    dpid = number;
    stage = subst (λ o. IsAtStage o t k) (sym f) rest;
    spans = subst (λ o. IfSome o (AreSpanned new marks.base (switch_of t))) (sym f) tt;
    next = subst (λ o. IfSome o (IsPlanned t)) (sym rest.next) tt;
    hushed = λ q. rest.next;
    reached = λ q. low (sym quiet ∙ q);
    waits = λ q u w. (let gone = rest.next in absurd (cc));
  }

  -- an update has started
  pub starts_on : (b : ℕ) (from X : Rules) → HasStarted from X t k → base_behind s t (state_number old) (state_number new) marks ≡ b → t.quiet ≡ false → b ≤ state_number new
      → IsBackedSince new b (switch_of s) from → IsBackedSince new b (switch_of s) X → Arrives old new marks s k t b
  starts_on b from X started base quiet below f g = record {
    was = h.live;
    live = lives;
    base = base;
    numbered = holds.numbered;
    tells = holds.tells;
    dpid = number;
    stage = started_stage t.under_way from X t k started.stage;
    spans = subst (λ v. IfSome t.under_way (AreSpanned new b v)) (sym same) (started_spans new b (switch_of s) t.under_way from X t k started.stage f g);
    next = subst (λ o. IfSome o (IsPlanned t)) (sym started.next) tt;
    hushed = λ q. started.next;
    reached = λ q. below;
    waits = λ q u w. (let none = started.next in absurd (cc));
  }
