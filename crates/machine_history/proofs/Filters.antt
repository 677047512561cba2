-- What passes two tests, or one test behind a map.
use Rattle.std.proofs.Common.{◌≡◌, ◌⊎◌, Bool, true, false, cond, List, [], ◌∷◌, refl, sym, ap, ◌∙◌, subst, inl, inr}
use Rattle.std.specs.Prelude.{◌&&◌, Contains, filter, find, map, Some}
use Rattle.std.specs.List.{AllByRecursion, AllPairs}
use Rattle.std.proofs.lemmas.Bool.{cases_Bool}
use Rattle.update_plan.proofs.Members.{here, there, none_in, in_cons, pairs_head, pairs_tail}

module _ {X : Type 0} where
  pub filter_both : (p q : X → Bool) (xs : List X) → filter p (filter q xs) ≡ filter (λ x. q x && p x) xs
  filter_both p q [] = refl
  filter_both p q (x ∷ xs) = step (q x) (filter_both p q xs)
    where
      step : (b : Bool) → filter p (filter q xs) ≡ filter (λ y. q y && p y) xs
          → filter p (cond b (x ∷ filter q xs) (filter q xs)) ≡ cond (b && p x) (x ∷ filter (λ y. q y && p y) xs) (filter (λ y. q y && p y) xs)
      step true later = ap (λ ys. cond (p x) (x ∷ ys) ys) later
      step false later = later

  pub filter_all : (p : X → Bool) (xs : List X) → AllByRecursion (λ x. p x ≡ true) xs → filter p xs ≡ xs
  filter_all p [] h = refl
  filter_all p (x ∷ xs) h = ap (λ b. cond b (x ∷ filter p xs) (filter p xs)) h.0 ∙ ap (λ ys. x ∷ ys) (filter_all p xs h.1)

  pub filter_none : (p : X → Bool) → ((x : X) → p x ≡ false) → (xs : List X) → filter p xs ≡ []
  filter_none p none [] = refl
  filter_none p none (x ∷ xs) = ap (λ b. cond b (x ∷ filter p xs) (filter p xs)) (none x) ∙ filter_none p none xs

  -- elements of a list are the same, or apart in its order or against it
  pub same_or_apart : (R : X → X → Type 0) (xs : List X) → AllPairs R xs → (x y : X) → Contains xs x → Contains xs y → (x ≡ y) ⊎ (R x y ⊎ R y x)
  same_or_apart R [] h x y c d = absurd (none_in x c)
  same_or_apart R (z ∷ zs) h x y c d = go (same_or_apart R zs (pairs_tail R z zs h) x y) (in_cons z zs x c) (in_cons z zs y d)
    where
      go : (Contains zs x → Contains zs y → (x ≡ y) ⊎ (R x y ⊎ R y x)) → (z ≡ x) ⊎ Contains zs x → (z ≡ y) ⊎ Contains zs y → (x ≡ y) ⊎ (R x y ⊎ R y x)
      go later (inl e) (inl f) = inl (sym e ∙ f)
      go later (inl e) (inr f) = inr (inl (subst (λ u. R u y) e (pairs_head R z zs h y f)))
      go later (inr e) (inl f) = inr (inr (subst (λ u. R u x) f (pairs_head R z zs h x e)))
      go later (inr e) (inr f) = later e f

  -- the one that passes is found
  pub find_only : (p : X → Bool) (x : X) (xs : List X) → Contains xs x → p x ≡ true → ((y : X) → Contains xs y → p y ≡ true → y ≡ x) → find p xs ≡ Some x
  find_only p x [] c h only = absurd (none_in x c)
  find_only p x (y ∷ ys) c h only = go (λ d. find_only p x ys d h (λ z k g. only z (there y ys z k) g)) (cases_Bool (p y)) (in_cons y ys x c)
    where
      go : (Contains ys x → find p ys ≡ Some x) → (p y ≡ true) ⊎ (p y ≡ false) → (y ≡ x) ⊎ Contains ys x → find p (y ∷ ys) ≡ Some x
      go later (inl e) d = ap (λ b. cond b (Some y) (find p ys)) e ∙ ap Some (only y (here y ys) e)
      go later (inr e) (inl f) = let g = sym e ∙ ap p f ∙ h in absurd (cc)
      go later (inr e) (inr d) = ap (λ b. cond b (Some y) (find p ys)) e ∙ later d

module _ {X Y : Type 0} where
  pub filter_map_is : (f : X → Y) (p : Y → Bool) (xs : List X) → filter p (map f xs) ≡ map f (filter (λ x. p (f x)) xs)
  filter_map_is f p [] = refl
  filter_map_is f p (x ∷ xs) = step (p (f x)) (filter_map_is f p xs)
    where
      step : (b : Bool) → filter p (map f xs) ≡ map f (filter (λ y. p (f y)) xs) → cond b (f x ∷ filter p (map f xs)) (filter p (map f xs)) ≡ map f (cond b (x ∷ filter (λ y. p (f y)) xs) (filter (λ y. p (f y)) xs))
      step true later = ap (λ ys. f x ∷ ys) later
      step false later = later

-- a second test matters only where the first passes
pub and_agree : (a b c : Bool) → (a ≡ true → b ≡ c) → (a && b) ≡ (a && c)
and_agree true b c h = h refl
and_agree false b c h = refl
