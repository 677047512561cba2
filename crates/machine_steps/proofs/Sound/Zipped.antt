-- Lists that change place by place.
use Rattle.std.proofs.Common.{◌≡◌, ◌⊎◌, ◌≤◌, Bool, true, false, cond, List, [], ◌∷◌, ◌++◌, length, refl, sym, ap, ◌∙◌, subst, inl, inr, arith}
use Rattle.std.specs.Prelude.{Contains, filter, find, map, Some}
use Rattle.std.specs.List.{AllByRecursion, AllPairs, AllZip, list_any}
use Rattle.std.proofs.lemmas.Bool.{or_parts}
use Rattle.std.proofs.lemmas.Option.{same_Some, none-some}
use Rattle.std.proofs.lemmas.List.Elements.{All-contains, All-from_recursion}
use Rattle.update_plan.proofs.Members.{here, there, pairs_head, pairs_tail, pairs_cons, pairs_none}

module _ {X : Type 0} where
  pub all_weaker : (P Q : X → Type 0) → ((x : X) → P x → Q x) → (xs : List X) → AllByRecursion P xs → AllByRecursion Q xs
  all_weaker P Q f [] h = tt
  all_weaker P Q f (x ∷ xs) h = (f x h.0, all_weaker P Q f xs h.1)

  pub all_from : (P : X → Type 0) (xs : List X) → ((x : X) → Contains xs x → P x) → AllByRecursion P xs
  all_from P [] f = tt
  all_from P (x ∷ xs) f = (f x (here x xs), all_from P xs (λ y c. f y (there x xs y c)))

  pub all_in : (P : X → Type 0) (xs : List X) (x : X) → AllByRecursion P xs → Contains xs x → P x
  all_in P xs x h c = All-contains P xs x (All-from_recursion P xs h) c

  pub all_two : (P Q : X → Type 0) (xs : List X) → AllByRecursion P xs → AllByRecursion Q xs → AllByRecursion (λ x. P x × Q x) xs
  all_two P Q [] h k = tt
  all_two P Q (x ∷ xs) h k = ((h.0, k.0), all_two P Q xs h.1 k.1)

  pub all_push : (P : X → Type 0) (xs : List X) (y : X) → AllByRecursion P xs → P y → AllByRecursion P (xs ++ y ∷ [])
  all_push P [] y h p = (p, tt)
  all_push P (x ∷ xs) y h p = (h.0, all_push P xs y h.1 p)

  pub all_filter : (P : X → Type 0) (p : X → Bool) (xs : List X) → AllByRecursion P xs → AllByRecursion P (filter p xs)
  all_filter P p [] h = tt
  all_filter P p (x ∷ xs) h = step (p x) (all_filter P p xs h.1)
    where
      step : (b : Bool) → AllByRecursion P (filter p xs) → AllByRecursion P (cond b (x ∷ filter p xs) (filter p xs))
      step true later = (h.0, later)
      step false later = later

  pub all_passing : (P : X → Type 0) (p : X → Bool) (xs : List X) → AllByRecursion (λ x. p x ≡ true → P x) xs → AllByRecursion P (filter p xs)
  all_passing P p [] h = tt
  all_passing P p (x ∷ xs) h = step (p x) refl (all_passing P p xs h.1)
    where
      step : (b : Bool) → p x ≡ b → AllByRecursion P (filter p xs) → AllByRecursion P (cond b (x ∷ filter p xs) (filter p xs))
      step true e later = (h.0 e, later)
      step false e later = later

  pub few_filter : (p : X → Bool) (xs : List X) → length (filter p xs) ≤ length xs
  few_filter p [] = omega arith
  few_filter p (x ∷ xs) = step (p x) (few_filter p xs)
    where
      step : (b : Bool) → length (filter p xs) ≤ length xs → length (cond b (x ∷ filter p xs) (filter p xs)) ≤ length (x ∷ xs)
      step true few = omega (arith, few)
      step false few = omega (arith, few)

  pub few_among : (p q : X → Bool) (xs : List X) → length (filter p (filter q xs)) ≤ length (filter p xs)
  few_among p q [] = omega arith
  few_among p q (x ∷ xs) = step (q x) (p x) refl (few_among p q xs)
    where
      step : (b a : Bool) → p x ≡ a → length (filter p (filter q xs)) ≤ length (filter p xs) → length (filter p (cond b (x ∷ filter q xs) (filter q xs))) ≤ length (cond a (x ∷ filter p xs) (filter p xs))
      step true a e few = subst (λ c. length (cond c (x ∷ filter p (filter q xs)) (filter p (filter q xs))) ≤ length (cond a (x ∷ filter p xs) (filter p xs))) (sym e) (both a)
        where
          both : (c : Bool) → length (cond c (x ∷ filter p (filter q xs)) (filter p (filter q xs))) ≤ length (cond c (x ∷ filter p xs) (filter p xs))
          both true = omega (arith, few)
          both false = few
      step false true e few = omega (arith, few)
      step false false e few = few

  -- each element and each later one
  abbrev pub Pairs : (X → X → Type 0) → List X → Type 0
  Pairs R [] = Unit {0}
  Pairs R (x ∷ xs) = AllByRecursion (R x) xs × Pairs R xs

  pub pairs_to : (R : X → X → Type 0) (xs : List X) → AllPairs R xs → Pairs R xs
  pairs_to R [] h = tt
  pairs_to R (x ∷ xs) h = (all_from (R x) xs (pairs_head R x xs h), pairs_to R xs (pairs_tail R x xs h))

  pub pairs_from : (R : X → X → Type 0) (xs : List X) → Pairs R xs → AllPairs R xs
  pairs_from R [] h = pairs_none R
  pairs_from R (x ∷ xs) h = pairs_cons R x xs (λ y c. all_in (R x) xs y h.0 c) (pairs_from R xs h.1)

  pub pairs_push : (R : X → X → Type 0) (xs : List X) (y : X) → Pairs R xs → AllByRecursion (λ x. R x y) xs → Pairs R (xs ++ y ∷ [])
  pairs_push R [] y h a = (tt, tt)
  pairs_push R (x ∷ xs) y h a = (all_push (R x) xs y h.0 a.0, pairs_push R xs y h.1 a.1)

  -- the first that passes
  pub find_passes : (p : X → Bool) (xs : List X) (x : X) → find p xs ≡ Some x → p x ≡ true
  find_passes p [] x e = absurd (none-some x e)
  find_passes p (y ∷ ys) x e = step (p y) refl (find_passes p ys x) e
    where
      step : (b : Bool) → p y ≡ b → (find p ys ≡ Some x → p x ≡ true) → cond b (Some y) (find p ys) ≡ Some x → p x ≡ true
      step true t later f = ap p (sym (same_Some y x f)) ∙ t
      step false t later f = later f

  pub find_all : (P : X → Type 0) (p : X → Bool) (xs : List X) (x : X) → AllByRecursion P xs → find p xs ≡ Some x → P x
  find_all P p [] x h e = absurd (none-some x e)
  find_all P p (y ∷ ys) x h e = step (p y) (find_all P p ys x h.1) e
    where
      step : (b : Bool) → (find p ys ≡ Some x → P x) → cond b (Some y) (find p ys) ≡ Some x → P x
      step true later f = subst P (same_Some y x f) h.0
      step false later f = later f

  pub find_append : (p : X → Bool) (xs ys : List X) (x : X) → find p xs ≡ Some x → find p (xs ++ ys) ≡ Some x
  find_append p [] ys x e = absurd (none-some x e)
  find_append p (z ∷ zs) ys x e = step (p z) (find_append p zs ys x) e
    where
      step : (b : Bool) → (find p zs ≡ Some x → find p (zs ++ ys) ≡ Some x) → cond b (Some z) (find p zs) ≡ Some x → cond b (Some z) (find p (zs ++ ys)) ≡ Some x
      step true later f = f
      step false later f = later f

  -- each is the one that is found, or beside it
  pub all_others : (R : X → X → Type 0) → ((x y : X) → R x y → R y x) → (p : X → Bool) (xs : List X) (s : X) → Pairs R xs → find p xs ≡ Some s → AllByRecursion (λ x. (x ≡ s) ⊎ R x s) xs
  all_others R turn p [] s h e = tt
  all_others R turn p (x ∷ xs) s h e = step (p x) (all_others R turn p xs s h.1) e
    where
      step : (b : Bool) → (find p xs ≡ Some s → AllByRecursion (λ y. (y ≡ s) ⊎ R y s) xs) → cond b (Some x) (find p xs) ≡ Some s → AllByRecursion (λ y. (y ≡ s) ⊎ R y s) (x ∷ xs)
      step true later f =
          let is = same_Some x s f in (inl is, all_weaker (R x) (λ y. (y ≡ s) ⊎ R y s) (λ y r. inr (subst (R y) is (turn x y r))) xs h.0)
      step false later f = (inr (find_all (R x) p xs s h.0 f), later f)

  -- what is found among those that pass another test
  pub find_among : (p q : X → Bool) (xs : List X) → AllByRecursion (λ x. p x ≡ true → q x ≡ true) xs → find p (filter q xs) ≡ find p xs
  find_among p q [] h = refl
  find_among p q (x ∷ xs) h = step (q x) (p x) refl refl (find_among p q xs h.1)
    where
      step : (b a : Bool) → q x ≡ b → p x ≡ a → find p (filter q xs) ≡ find p xs → find p (cond b (x ∷ filter q xs) (filter q xs)) ≡ cond a (Some x) (find p xs)
      step true a e f later = ap (λ c. cond c (Some x) (find p (filter q xs))) f ∙ ap (cond a (Some x)) later
      step false true e f later = let t = h.0 f in absurd (cc)
      step false false e f later = later

  pub none_passes : (p : X → Bool) (xs : List X) → list_any p xs ≡ false → AllByRecursion (λ x. p x ≡ false) xs
  none_passes p [] e = tt
  none_passes p (x ∷ xs) e = let parts = or_parts (p x) (list_any p xs) e in (parts.0, none_passes p xs parts.1)

module _ {X Y : Type 0} where
  pub zip_weaker : (R S : X → Y → Type 0) → ((x : X) (y : Y) → R x y → S x y) → (xs : List X) (ys : List Y) → AllZip R xs ys → AllZip S xs ys
  zip_weaker R S f [] [] h = tt
  zip_weaker R S f [] (y ∷ ys) h = absurd h
  zip_weaker R S f (x ∷ xs) [] h = absurd h
  zip_weaker R S f (x ∷ xs) (y ∷ ys) h = (f x y h.0, zip_weaker R S f xs ys h.1)

  pub zip_with : (P : X → Type 0) (R : X → Y → Type 0) (xs : List X) (ys : List Y) → AllByRecursion P xs → AllZip R xs ys → AllZip (λ x y. P x × R x y) xs ys
  zip_with P R [] [] p h = tt
  zip_with P R [] (y ∷ ys) p h = absurd h
  zip_with P R (x ∷ xs) [] p h = absurd h
  zip_with P R (x ∷ xs) (y ∷ ys) p h = ((p.0, h.0), zip_with P R xs ys p.1 h.1)

  pub zip_all : (R : X → Y → Type 0) (P : X → Type 0) (Q : Y → Type 0) → ((x : X) (y : Y) → R x y → P x → Q y) → (xs : List X) (ys : List Y) → AllZip R xs ys → AllByRecursion P xs → AllByRecursion Q ys
  zip_all R P Q f [] [] h p = tt
  zip_all R P Q f [] (y ∷ ys) h p = absurd h
  zip_all R P Q f (x ∷ xs) [] h p = absurd h
  zip_all R P Q f (x ∷ xs) (y ∷ ys) h p = (f x y h.0 p.0, zip_all R P Q f xs ys h.1 p.1)

module _ {X : Type 0} where
  pub zip_pairs : (R S T : X → X → Type 0) → ((x y z w : X) → R x y → R z w → S x z → T y w) → (xs ys : List X) → AllZip R xs ys → Pairs S xs → Pairs T ys
  zip_pairs R S T f [] [] h p = tt
  zip_pairs R S T f [] (y ∷ ys) h p = absurd h
  zip_pairs R S T f (x ∷ xs) [] h p = absurd h
  zip_pairs R S T f (x ∷ xs) (y ∷ ys) h p = (zip_all R (S x) (T y) (λ z w r s. f x y z w h.0 r s) xs ys h.1 p.0, zip_pairs R S T f xs ys h.1 p.1)

  pub zip_few : (R : X → X → Type 0) (p : X → Bool) → ((x y : X) → R x y → p y ≡ true → p x ≡ true) → (xs ys : List X) → AllZip R xs ys → length (filter p ys) ≤ length (filter p xs)
  zip_few R p f [] [] h = omega arith
  zip_few R p f [] (y ∷ ys) h = absurd h
  zip_few R p f (x ∷ xs) [] h = absurd h
  zip_few R p f (x ∷ xs) (y ∷ ys) h = step (p x) (p y) refl (f x y h.0) (zip_few R p f xs ys h.1)
    where
      step : (a b : Bool) → p x ≡ a → (b ≡ true → p x ≡ true) → length (filter p ys) ≤ length (filter p xs)
          → length (cond b (y ∷ filter p ys) (filter p ys)) ≤ length (cond a (x ∷ filter p xs) (filter p xs))
      step true true e g few = omega (arith, few)
      step true false e g few = omega (arith, few)
      step false true e g few = let t = g refl in absurd (cc)
      step false false e g few = few

  pub zip_find : (R : X → X → Type 0) (p : X → Bool) → ((x y : X) → R x y → p y ≡ p x) → (xs ys : List X) (s : X) → AllZip R xs ys → find p xs ≡ Some s → (t : X) × (find p ys ≡ Some t) × R s t
  zip_find R p f [] ys s h e = absurd (none-some s e)
  zip_find R p f (x ∷ xs) [] s h e = absurd h
  zip_find R p f (x ∷ xs) (y ∷ ys) s h e = subst (λ b. (t : X) × (cond b (Some y) (find p ys) ≡ Some t) × R s t) (sym (f x y h.0)) (step (p x) (zip_find R p f xs ys s h.1) e)
    where
      step : (b : Bool) → (find p xs ≡ Some s → (t : X) × (find p ys ≡ Some t) × R s t) → cond b (Some x) (find p xs) ≡ Some s → (t : X) × (cond b (Some y) (find p ys) ≡ Some t) × R s t
      step true later g = (y, refl, subst (λ z. R z y) (same_Some x s g) h.0)
      step false later g = later g

  pub zip_refl : (R : X → X → Type 0) → ((x : X) → R x x) → (xs : List X) → AllZip R xs xs
  zip_refl R f [] = tt
  zip_refl R f (x ∷ xs) = (f x, zip_refl R f xs)

  pub zip_map : (R : X → X → Type 0) (g : X → X) (xs : List X) → AllByRecursion (λ x. R x (g x)) xs → AllZip R xs (map g xs)
  zip_map R g [] h = tt
  zip_map R g (x ∷ xs) h = (h.0, zip_map R g xs h.1)

  pub zip_then : (R S T : X → X → Type 0) → ((x y z : X) → R x y → S y z → T x z) → (xs ys zs : List X) → AllZip R xs ys → AllZip S ys zs → AllZip T xs zs
  zip_then R S T f [] [] [] h k = tt
  zip_then R S T f [] [] (z ∷ zs) h k = absurd k
  zip_then R S T f [] (y ∷ ys) zs h k = absurd h
  zip_then R S T f (x ∷ xs) [] zs h k = absurd h
  zip_then R S T f (x ∷ xs) (y ∷ ys) [] h k = absurd k
  zip_then R S T f (x ∷ xs) (y ∷ ys) (z ∷ zs) h k = (f x y z h.0 k.0, zip_then R S T f xs ys zs h.1 k.1)
