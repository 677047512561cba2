-- The list of a switch's traces, by its place.
use Rattle.std.proofs.Common.{◌≡◌, ℕ, zero, suc, ◌+◌, ◌<◌, Bool, true, false, not, cond, Some, None, List, [], ◌∷◌, length, set, get_or, sym, ap, ◌∙◌, subst, arith, lt-ltb}
use Rattle.std.specs.Prelude.{◌==◌, ◌||◌}
use Rattle.std.specs.List.{list_any, position, position_or_len}
use Rattle.std.proofs.lemmas.Bool.{eqb-true}
use Rattle.std.proofs.lemmas.List.Quantifiers.{position-Some}
use Rattle.trace_tree.specs.declared.node.Trace.{Trace}
use Rattle.switch_traces.specs.Traces.{Learnings, with_those}
use Rattle.machine_steps.specs.Machine.{traces_in, put_traces}

any_within_by : (b rest : Bool) (n l : ℕ) → (rest ≡ true → n < l) → b || rest ≡ true → cond (not b) (1 + n) 0 < suc l
any_within_by true rest n l h k = omega arith
any_within_by false rest n l h k = let g = h k in omega arith

any_within : {X : Type 0} (p : X → Bool) (xs : List X) → list_any p xs ≡ true → position_or_len p xs < length xs
any_within p [] h = absurd (cc)
any_within p (x ∷ xs) h = any_within_by (p x) (list_any p xs) (position_or_len p xs) (length xs) (any_within p xs) h

-- where one passes there is a first
pub has_place : {X : Type 0} (p : X → Bool) (xs : List X) → list_any p xs ≡ true → None ≡ position p xs → ⊥
has_place p xs h e =
    let there = ap (λ (b : Bool). cond b (Some (position_or_len p xs)) None) (lt-ltb (position_or_len p xs) (length xs) (any_within p xs h)) in
    let both : None ≡ Some (position_or_len p xs) = e ∙ there in
    absurd (cc)

-- the list of traces at the first place of a switch
module _ (switch : ℕ) where
  abbrev is_its : Learnings → Bool
  is_its l = l.switch == switch

  pub told_at : (ls : List Learnings) (i : ℕ) (l : Learnings) → i < length ls → l ≡ get_or ls i l → is_its l ≡ true → ((k : ℕ) → k < i → is_its (get_or ls k l) ≡ false) → l.traces ≡ traces_in ls switch
  told_at [] i l w e t f = absurd (omega arith)
  told_at (x ∷ xs) zero l w e t f =
      ap (λ (k : Learnings). k.traces) e ∙ sym (ap (λ (b : Bool). cond b x.traces (traces_in xs switch)) (subst (λ (k : Learnings). is_its k ≡ true) e t))
  told_at (x ∷ xs) (suc i) l w e t f =
      told_at xs i l (omega arith) e t (λ k h. f (suc k) (omega arith))
      ∙ sym (ap (λ (b : Bool). cond b x.traces (traces_in xs switch)) (f 0 (omega arith)))

  pub put_at : (rs : List Trace) (ls : List Learnings) (i : ℕ) (l : Learnings) → i < length ls → l ≡ get_or ls i l → is_its l ≡ true → ((k : ℕ) → k < i → is_its (get_or ls k l) ≡ false) → set ls i (with_those rs l) ≡ put_traces switch rs ls
  put_at rs [] i l w e t f = absurd (omega arith)
  put_at rs (x ∷ xs) zero l w e t f =
      ap (λ (n : ℕ). record { switch = n; traces = rs } ∷ xs) (eqb-true l.switch switch t)
      ∙ sym (ap (λ (b : Bool). cond b (record { switch = switch; traces = rs } ∷ xs) (x ∷ put_traces switch rs xs)) (subst (λ (k : Learnings). is_its k ≡ true) e t))
  put_at rs (x ∷ xs) (suc i) l w e t f =
      ap (λ (ks : List Learnings). x ∷ ks) (put_at rs xs i l (omega arith) e t (λ k h. f (suc k) (omega arith)))
      ∙ sym (ap (λ (b : Bool). cond b (record { switch = switch; traces = rs } ∷ xs) (x ∷ put_traces switch rs xs)) (f 0 (omega arith)))

  -- at the place that a look-up gave
  module _ (ls : List Learnings) (i : ℕ) (l : Learnings) (at : position is_its ls ≡ Some i) (e : l ≡ get_or ls i l) where
    its : is_its l ≡ true
    its = subst (λ (k : Learnings). is_its k ≡ true) (sym e) (position-Some is_its ls i l at).1

    pub told_there : l.traces ≡ traces_in ls switch
    told_there = let p = position-Some is_its ls i l at in told_at ls i l p.0 e its p.2

    -- others stand in their place
    pub put_there : (rs : List Trace) → set ls i (with_those rs l) ≡ put_traces switch rs ls
    put_there rs = let p = position-Some is_its ls i l at in put_at rs ls i l p.0 e its p.2
