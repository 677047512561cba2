-- What a list contains.
use Rattle.std.proofs.Common.{◌≡◌, ◌⊎◌, ℕ, zero, suc, ◌<◌, Bool, true, false, cond, List, [], ◌∷◌, ◌++◌, length, get_or, refl, sym, ap, ◌∙◌, subst, inl, inr, ⊎_elim, arith}
use Rattle.std.specs.Prelude.{Contains, filter, map, ◌||◌}
use Rattle.std.specs.List.{AllPairs, list_any}
use Rattle.std.proofs.lemmas.Bool.{cases_Bool}
use Rattle.std.proofs.lemmas.List.Elements.{Contains-append_left}

module _ {X : Type 0} where
  pub none_in : (x : X) → Contains [] x → ⊥
  none_in x c = absurd (omega (arith, c.1))

  pub here : (x : X) (xs : List X) → Contains (x ∷ xs) x
  here x xs = (0, omega arith, refl)

  pub there : (y : X) (xs : List X) (x : X) → Contains xs x → Contains (y ∷ xs) x
  there y xs x c = (suc c.0, omega (arith, c.1), c.2)

  pub in_cons : (y : X) (xs : List X) (x : X) → Contains (y ∷ xs) x → (y ≡ x) ⊎ Contains xs x
  in_cons y xs x c = go c.0 c.1 c.2
    where
      go : (k : ℕ) → k < length (y ∷ xs) → get_or (y ∷ xs) k x ≡ x → (y ≡ x) ⊎ Contains xs x
      go zero lt e = inl e
      go (suc k) lt e = inr (k, omega (arith, lt), e)

  pub in_filter : (p : X → Bool) (xs : List X) (x : X) → Contains (filter p xs) x → Contains xs x × (p x ≡ true)
  in_filter p [] x c = absurd (none_in x c)
  in_filter p (y ∷ ys) x c = step (p y) refl (in_filter p ys x) c
    where
      step : (b : Bool) → p y ≡ b → (Contains (filter p ys) x → Contains ys x × (p x ≡ true)) → Contains (cond b (y ∷ filter p ys) (filter p ys)) x → Contains (y ∷ ys) x × (p x ≡ true)
      step true e later d = ⊎_elim (λ f. (subst (Contains (y ∷ ys)) f (here y ys), ap p (sym f) ∙ e)) (λ t. (there y ys x (later t).0, (later t).1)) (in_cons y (filter p ys) x d)
      step false e later d = (there y ys x (later d).0, (later d).1)

  pub filter_in : (p : X → Bool) (xs : List X) (x : X) → Contains xs x → p x ≡ true → Contains (filter p xs) x
  filter_in p [] x c h = absurd (none_in x c)
  filter_in p (y ∷ ys) x c h = step (p y) refl (λ d. filter_in p ys x d h) (in_cons y ys x c)
    where
      step : (b : Bool) → p y ≡ b → (Contains ys x → Contains (filter p ys) x) → (y ≡ x) ⊎ Contains ys x → Contains (cond b (y ∷ filter p ys) (filter p ys)) x
      step true e later (inl f) = subst (Contains (y ∷ filter p ys)) f (here y (filter p ys))
      step true e later (inr d) = there y (filter p ys) x (later d)
      step false e later (inl f) = let g = sym e ∙ ap p f ∙ h in absurd (cc)
      step false e later (inr d) = later d

  pub any_in : (p : X → Bool) (xs : List X) → list_any p xs ≡ true → (x : X) × Contains xs x × (p x ≡ true)
  any_in p [] h = absurd (cc)
  any_in p (y ∷ ys) h = step (p y) refl (any_in p ys) h
    where
      step : (b : Bool) → p y ≡ b → (list_any p ys ≡ true → (x : X) × Contains ys x × (p x ≡ true)) → (b || list_any p ys) ≡ true → (x : X) × Contains (y ∷ ys) x × (p x ≡ true)
      step true e later g = (y, here y ys, e)
      step false e later g = let t = later g in (t.0, there y ys t.0 t.1, t.2)

  pub in_any : (p : X → Bool) (xs : List X) (x : X) → Contains xs x → p x ≡ true → list_any p xs ≡ true
  in_any p [] x c h = absurd (none_in x c)
  in_any p (y ∷ ys) x c h = step (p y) refl (λ d. in_any p ys x d h) (in_cons y ys x c)
    where
      step : (b : Bool) → p y ≡ b → (Contains ys x → list_any p ys ≡ true) → (y ≡ x) ⊎ Contains ys x → (b || list_any p ys) ≡ true
      step true e later d = refl
      step false e later (inl f) = let g = sym e ∙ ap p f ∙ h in absurd (cc)
      step false e later (inr d) = later d

  -- a test that no element passes
  pub none_any : (p : X → Bool) (xs : List X) → ((x : X) → Contains xs x → p x ≡ true → ⊥) → list_any p xs ≡ false
  none_any p xs none = ⊎_elim (λ passed. absurd (let t = any_in p xs passed in none t.0 t.1 t.2)) (λ failed. failed) (cases_Bool (list_any p xs))

  pub any_none : (p : X → Bool) (xs : List X) (x : X) → list_any p xs ≡ false → Contains xs x → p x ≡ true → ⊥
  any_none p xs x failed c h = let passed = in_any p xs x c h in cc

  -- lists with the same elements pass the same tests
  pub same_any : (p : X → Bool) (xs ys : List X) → ((x : X) → Contains xs x → Contains ys x) → ((x : X) → Contains ys x → Contains xs x) → list_any p xs ≡ list_any p ys
  same_any p xs ys to from =
      ⊎_elim (λ passed. let t = any_in p xs passed in passed ∙ sym (in_any p ys t.0 (to t.0 t.1) t.2))
      (λ failed. failed ∙ sym (none_any p ys (λ x c h. any_none p xs x failed (from x c) h)))
      (cases_Bool (list_any p xs))

  pub pairs_head : (R : X → X → Type 0) (x : X) (xs : List X) → AllPairs R (x ∷ xs) → (y : X) → Contains xs y → R x y
  pairs_head R x xs h y c = subst (R x) c.2 (h 0 (suc c.0) y (omega arith) (omega (arith, c.1)))

  pub pairs_tail : (R : X → X → Type 0) (x : X) (xs : List X) → AllPairs R (x ∷ xs) → AllPairs R xs
  pairs_tail R x xs h i j d lt within = h (suc i) (suc j) d (omega arith) (omega arith)

  pub pairs_cons : (R : X → X → Type 0) (x : X) (xs : List X) → ((y : X) → Contains xs y → R x y) → AllPairs R xs → AllPairs R (x ∷ xs)
  pairs_cons R x xs first rest zero zero d lt within = absurd (omega (arith, lt))
  pairs_cons R x xs first rest zero (suc j) d lt within = first (get_or xs j d) (place xs j d (omega arith))
    where
      place : (ys : List X) (k : ℕ) (e : X) → k < length ys → Contains ys (get_or ys k e)
      place [] k e h = absurd (omega (arith, h))
      place (y ∷ ys) zero e h = here y ys
      place (y ∷ ys) (suc k) e h = there y ys (get_or ys k e) (place ys k e (omega arith))
  pairs_cons R x xs first rest (suc i) zero d lt within = absurd (omega (arith, lt))
  pairs_cons R x xs first rest (suc i) (suc j) d lt within = rest i j d (omega arith) (omega arith)

  pub pairs_none : (R : X → X → Type 0) → AllPairs R []
  pairs_none R i j d lt within = absurd (omega (arith, within))

  pub pairs_filter : (R : X → X → Type 0) (p : X → Bool) (xs : List X) → AllPairs R xs → AllPairs R (filter p xs)
  pairs_filter R p [] h = pairs_none R
  pairs_filter R p (x ∷ xs) h = step (p x) (pairs_filter R p xs (pairs_tail R x xs h))
    where
      step : (b : Bool) → AllPairs R (filter p xs) → AllPairs R (cond b (x ∷ filter p xs) (filter p xs))
      step true later = pairs_cons R x (filter p xs) (λ y c. pairs_head R x xs h y (in_filter p xs y c).0) later
      step false later = later

  pub pairs_left : (R : X → X → Type 0) (xs ys : List X) → AllPairs R (xs ++ ys) → AllPairs R xs
  pairs_left R [] ys h = pairs_none R
  pairs_left R (x ∷ xs) ys h = pairs_cons R x xs (λ y c. pairs_head R x (xs ++ ys) h y (Contains-append_left xs ys y c)) (pairs_left R xs ys (pairs_tail R x (xs ++ ys) h))

  pub pairs_right : (R : X → X → Type 0) (xs ys : List X) → AllPairs R (xs ++ ys) → AllPairs R ys
  pairs_right R [] ys h = h
  pairs_right R (x ∷ xs) ys h = pairs_right R xs ys (pairs_tail R x (xs ++ ys) h)

module _ {X Y : Type 0} (f : X → Y) where
  pub in_map : (xs : List X) (y : Y) → Contains (map f xs) y → (x : X) × Contains xs x × (f x ≡ y)
  in_map [] y c = absurd (none_in y c)
  in_map (x ∷ xs) y c = ⊎_elim (λ e. (x, here x xs, e)) (λ d. let t = in_map xs y d in (t.0, there x xs t.0 t.1, t.2)) (in_cons (f x) (map f xs) y c)

  pub map_in : (xs : List X) (x : X) → Contains xs x → Contains (map f xs) (f x)
  map_in [] x c = absurd (none_in x c)
  map_in (y ∷ ys) x c = ⊎_elim (λ e. subst (λ z. Contains (map f (y ∷ ys)) (f z)) e (here (f y) (map f ys))) (λ d. there (f y) (map f ys) (f x) (map_in ys x d)) (in_cons y ys x c)
