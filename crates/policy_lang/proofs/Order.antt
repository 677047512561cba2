-- The order of faults, and the first of several lists of them.
use Rattle.std.proofs.Common.{◌≡◌, ◌⊎◌, ℕ, ◌<◌, ◌≤◌, Bool, true, false, cond, List, [], ◌∷◌, ◌++◌, refl, sym, ap, ◌∙◌, inl, inr, arith, append_assoc}
use Rattle.std.specs.Prelude.{◌==◌, ◌&&◌, ◌||◌, nat_lt, Option, Some, None}
use Rattle.std.proofs.lemmas.Bool.{ltb-true, ltb-false, lt-ltb, le-ltb, eq-eqb, eqb-true}
use Rattle.maple_base.specs.PolicyFaults.{number_of}
use Rattle.policy_lang.specs.Faults.{Fault, Site, node_of, is_before_by, sooner_by, first_by}
use Rattle.policy_lang.specs.Walks.{merged_by}

-- the order by a number, and of equal numbers by what is left
abbrev pub ahead : ℕ → ℕ → Bool → Bool
ahead a b rest = nat_lt a b || (a == b && rest)

ahead_is : (a b : ℕ) (r : Bool) → ahead a b r ≡ true → (a < b) ⊎ ((a ≡ b) × (r ≡ true))
ahead_is a b r h = by (nat_lt a b) refl h
  where
    by : (x : Bool) → nat_lt a b ≡ x → (x || (a == b && r)) ≡ true → (a < b) ⊎ ((a ≡ b) × (r ≡ true))
    by true e q = inl (ltb-true a b e)
    by false e q = then (a == b) refl q
      where
        then : (y : Bool) → (a == b) ≡ y → (y && r) ≡ true → (a < b) ⊎ ((a ≡ b) × (r ≡ true))
        then true e q = inr (eqb-true a b e, q)
        then false e q = absurd (cc)

ahead_not : (a b : ℕ) (r : Bool) → ahead a b r ≡ false → (b < a) ⊎ ((a ≡ b) × (r ≡ false))
ahead_not a b r h = by (nat_lt a b) refl h
  where
    by : (x : Bool) → nat_lt a b ≡ x → (x || (a == b && r)) ≡ false → (b < a) ⊎ ((a ≡ b) × (r ≡ false))
    by true e q = absurd (cc)
    by false e q = then (a == b) refl q
      where
        then : (y : Bool) → (a == b) ≡ y → (y && r) ≡ false → (b < a) ⊎ ((a ≡ b) × (r ≡ false))
        then true e q = inr (eqb-true a b e, q)
        then false f q =
            let le : b ≤ a = ltb-false a b e in
            let ne : a ≡ b → ⊥ = λ (s : a ≡ b). absurd (let t : (a == b) ≡ true = eq-eqb a b s in cc) in
            inl (omega (arith, ne))

pub ahead_less : (a b : ℕ) (r : Bool) → a < b → ahead a b r ≡ true
ahead_less a b r h = ap (λ x. x || (a == b && r)) (lt-ltb a b h)

pub ahead_more : (a b : ℕ) (r : Bool) → b < a → ahead a b r ≡ false
ahead_more a b r h =
    let le : b ≤ a = omega arith in
    ap (λ x. x || (a == b && r)) (le-ltb a b le) ∙ ap (λ x. x && r) (apart (a == b) refl)
  where
    apart : (y : Bool) → (a == b) ≡ y → (a == b) ≡ false
    apart true e = let s : a ≡ b = eqb-true a b e in absurd (omega (arith, s))
    apart false e = e

pub ahead_same : (a b : ℕ) (r : Bool) → a ≡ b → ahead a b r ≡ r
ahead_same a b r e =
    let le : b ≤ a = omega arith in
    ap (λ x. x || (a == b && r)) (le-ltb a b le) ∙ ap (λ x. x && r) (eq-eqb a b e)

ahead_trans : (a b c : ℕ) (r s t : Bool) → (r ≡ true → s ≡ true → t ≡ true) → ahead a b r ≡ true → ahead b c s ≡ true → ahead a c t ≡ true
ahead_trans a b c r s t h p q =
    elim (ahead_is a b r p) [
      | inl x ↦ elim (ahead_is b c s q) [ inl y ↦ ahead_less a c t (omega arith) | inr y ↦ ahead_less a c t (omega (arith, y.0)) ]
      | inr x ↦ elim (ahead_is b c s q) [ inl y ↦ ahead_less a c t (omega (arith, x.0)) | inr y ↦ ahead_same a c t (x.0 ∙ y.0) ∙ h x.1 y.1 ]
    ]

ahead_none : (a b c : ℕ) (r s t : Bool) → (r ≡ false → s ≡ false → t ≡ false) → ahead a b r ≡ false → ahead b c s ≡ false → ahead a c t ≡ false
ahead_none a b c r s t h p q =
    elim (ahead_not a b r p) [
      | inl x ↦ elim (ahead_not b c s q) [ inl y ↦ ahead_more a c t (omega arith) | inr y ↦ ahead_more a c t (omega (arith, y.0)) ]
      | inr x ↦ elim (ahead_not b c s q) [ inl y ↦ ahead_more a c t (omega (arith, x.0)) | inr y ↦ ahead_same a c t (x.0 ∙ y.0) ∙ h x.1 y.1 ]
    ]

last_trans : (a b c : ℕ) → nat_lt a b ≡ true → nat_lt b c ≡ true → nat_lt a c ≡ true
last_trans a b c p q = let x = ltb-true a b p in let y = ltb-true b c q in lt-ltb a c (omega arith)

last_none : (a b c : ℕ) → nat_lt a b ≡ false → nat_lt b c ≡ false → nat_lt a c ≡ false
last_none a b c p q = let x = ltb-false a b p in let y = ltb-false b c q in le-ltb a c (omega arith)

pub before_trans : (place : Site → ℕ) (f g h : Fault) → is_before_by place f g ≡ true → is_before_by place g h ≡ true → is_before_by place f h ≡ true
before_trans place f g h =
    ahead_trans (place f.site) (place g.site) (place h.site) _ _ _
    (ahead_trans (number_of f.kind) (number_of g.kind) (number_of h.kind) _ _ _ (last_trans (node_of f.site) (node_of g.site) (node_of h.site)))

pub before_none : (place : Site → ℕ) (f g h : Fault) → is_before_by place f g ≡ false → is_before_by place g h ≡ false → is_before_by place f h ≡ false
before_none place f g h =
    ahead_none (place f.site) (place g.site) (place h.site) _ _ _
    (ahead_none (number_of f.kind) (number_of g.kind) (number_of h.kind) _ _ _ (last_none (node_of f.site) (node_of g.site) (node_of h.site)))

three : (place : Site → ℕ) (x y z : Bool) (f g h : Fault) → is_before_by place g f ≡ x → is_before_by place h g ≡ y → is_before_by place h f ≡ z
    → sooner_by place (sooner_by place f (Some g)) (Some h) ≡ sooner_by place f (Some (sooner_by place g (Some h)))
three place true true z f g h a b c =
    ap (λ w. sooner_by place (cond w g f) (Some h)) a ∙ ap (λ w. cond w h g) b
    ∙ sym (ap (λ w. sooner_by place f (Some (cond w h g))) b ∙ ap (λ w. cond w h f) (before_trans place h g f b a))
three place true false z f g h a b c =
    ap (λ w. sooner_by place (cond w g f) (Some h)) a ∙ ap (λ w. cond w h g) b
    ∙ sym (ap (λ w. sooner_by place f (Some (cond w h g))) b ∙ ap (λ w. cond w g f) a)
three place false true z f g h a b c =
    ap (λ w. sooner_by place (cond w g f) (Some h)) a ∙ sym (ap (λ w. sooner_by place f (Some (cond w h g))) b)
three place false false z f g h a b c =
    ap (λ w. sooner_by place (cond w g f) (Some h)) a ∙ ap (λ w. cond w h f) (before_none place h g f b a)
    ∙ sym (ap (λ w. sooner_by place f (Some (cond w h g))) b ∙ ap (λ w. cond w g f) a)

pub merged_none : (place : Site → ℕ) (a : Option Fault) → merged_by place a None ≡ a
merged_none place None = refl
merged_none place (Some f) = refl

pub merged_assoc : (place : Site → ℕ) (a b c : Option Fault) → merged_by place (merged_by place a b) c ≡ merged_by place a (merged_by place b c)
merged_assoc place None b c = refl
merged_assoc place (Some f) None c = refl
merged_assoc place (Some f) (Some g) None = refl
merged_assoc place (Some f) (Some g) (Some h) = ap Some (three place (is_before_by place g f) (is_before_by place h g) (is_before_by place h f) f g h refl refl refl)

-- the first fault of two lists is the first of their first ones
pub first_both : (place : Site → ℕ) (xs ys : List Fault) → first_by place (xs ++ ys) ≡ merged_by place (first_by place xs) (first_by place ys)
first_both place [] ys = refl
first_both place (f ∷ xs) ys = ap (merged_by place (Some f)) (first_both place xs ys) ∙ sym (merged_assoc place (Some f) (first_by place xs) (first_by place ys))

-- the first of faults found so far and of those to come
pub merged_append : (place : Site → ℕ) (a : Option Fault) (xs ys : List Fault) → merged_by place a (first_by place (xs ++ ys)) ≡ merged_by place (merged_by place a (first_by place xs)) (first_by place ys)
merged_append place a xs ys = ap (merged_by place a) (first_both place xs ys) ∙ sym (merged_assoc place a (first_by place xs) (first_by place ys))

-- what two parts have, each a type and what is wrong in it
pub first_parts : (place : Site → ℕ) (a b c d : List Fault) → merged_by place (first_by place (a ++ b)) (first_by place (c ++ d)) ≡ first_by place (a ++ b ++ c ++ d)
first_parts place a b c d = sym (first_both place (a ++ b) (c ++ d)) ∙ ap (first_by place) (sym (append_assoc (a ++ b) c d))

pub first_three : (place : Site → ℕ) (a b c : List Fault) → merged_by place (merged_by place (first_by place a) (first_by place b)) (first_by place c) ≡ first_by place (a ++ b ++ c)
first_three place a b c = ap (λ o. merged_by place o (first_by place c)) (sym (first_both place a b)) ∙ sym (first_both place (a ++ b) c)
