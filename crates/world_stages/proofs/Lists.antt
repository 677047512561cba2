-- What passes a test in a list, what holds of all, and what stands ahead of the last.
use Rattle.std.proofs.Common.{◌≡◌, Bool, true, false, cond, List, [], ◌∷◌, ◌++◌, refl, sym, ap, ◌∙◌, subst}
use Rattle.std.specs.Prelude.{filter}
use Rattle.std.specs.List.{AllByRecursion}
use Rattle.std.proofs.lemmas.List.{append-nil}
use Rattle.std.proofs.lemmas.List.Elements.{filter-append}

module _ {X : Type 0} where
  -- ---- tests

  pub filter_takes : (p : X → Bool) (x : X) (xs : List X) → p x ≡ true → filter p (x ∷ xs) ≡ x ∷ filter p xs
  filter_takes p x xs h = ap (λ b. cond b (x ∷ filter p xs) (filter p xs)) h

  pub filter_passes_over : (p : X → Bool) (x : X) (xs : List X) → p x ≡ false → filter p (x ∷ xs) ≡ filter p xs
  filter_passes_over p x xs h = ap (λ b. cond b (x ∷ filter p xs) (filter p xs)) h

  pub filter_none : (p : X → Bool) (xs : List X) → AllByRecursion (λ x. p x ≡ false) xs → filter p xs ≡ []
  filter_none p [] h = refl
  filter_none p (x ∷ xs) h = filter_passes_over p x xs h.0 ∙ filter_none p xs h.1

  pub filter_all : (p : X → Bool) (xs : List X) → AllByRecursion (λ x. p x ≡ true) xs → filter p xs ≡ xs
  filter_all p [] h = refl
  filter_all p (x ∷ xs) h = filter_takes p x xs h.0 ∙ ap (λ ys. x ∷ ys) (filter_all p xs h.1)

  -- elements that don't pass, at the end
  pub filter_end : (p : X → Bool) (xs ys : List X) → filter p ys ≡ [] → filter p (xs ++ ys) ≡ filter p xs
  filter_end p xs ys h = filter-append p xs ys ∙ ap (λ zs. filter p xs ++ zs) h ∙ append-nil (filter p xs)

  -- one that does, and one that doesn't, among others
  pub filter_among : (p : X → Bool) (xs : List X) (x : X) (ys : List X) → p x ≡ true → filter p (xs ++ x ∷ ys) ≡ filter p xs ++ x ∷ filter p ys
  filter_among p xs x ys h = filter-append p xs (x ∷ ys) ∙ ap (λ zs. filter p xs ++ zs) (filter_takes p x ys h)

  pub filter_without : (p : X → Bool) (xs : List X) (x : X) (ys : List X) → p x ≡ false → filter p (xs ++ x ∷ ys) ≡ filter p (xs ++ ys)
  filter_without p xs x ys h = filter-append p xs (x ∷ ys) ∙ ap (λ zs. filter p xs ++ zs) (filter_passes_over p x ys h) ∙ sym (filter-append p xs ys)

  -- ---- what holds of all

  pub all_left : (P : X → Type 0) (xs ys : List X) → AllByRecursion P (xs ++ ys) → AllByRecursion P xs
  all_left P [] ys h = tt
  all_left P (x ∷ xs) ys h = (h.0, all_left P xs ys h.1)

  pub all_right : (P : X → Type 0) (xs ys : List X) → AllByRecursion P (xs ++ ys) → AllByRecursion P ys
  all_right P [] ys h = h
  all_right P (x ∷ xs) ys h = all_right P xs ys h.1

  pub all_append : (P : X → Type 0) (xs ys : List X) → AllByRecursion P xs → AllByRecursion P ys → AllByRecursion P (xs ++ ys)
  all_append P [] ys h g = g
  all_append P (x ∷ xs) ys h g = (h.0, all_append P xs ys h.1 g)

  pub all_weaker : (P Q : X → Type 0) → ((x : X) → P x → Q x) → (xs : List X) → AllByRecursion P xs → AllByRecursion Q xs
  all_weaker P Q weaker [] h = tt
  all_weaker P Q weaker (x ∷ xs) h = (weaker x h.0, all_weaker P Q weaker xs h.1)

  -- ---- one among others

  pub some_there : (xs : List X) (x : X) (ys : List X) → xs ++ x ∷ ys ≡ [] → ⊥
  some_there [] x ys e = cc
  some_there (z ∷ xs) x ys e = cc

  -- what stands in a list and isn't its last element stands ahead of that
  pub ahead_of_last : (xs : List X) (x : X) (ys zs : List X) (last : X) → (x ≡ last → ⊥) → xs ++ x ∷ ys ≡ zs ++ last ∷ []
      → (ws : List X) × (zs ≡ xs ++ x ∷ ws) × (ys ≡ ws ++ last ∷ [])
  ahead_of_last [] x ys [] last apart e = absurd (apart (cc))
  ahead_of_last [] x ys (z ∷ zs) last apart e = (zs, (cc), (cc))
  ahead_of_last (a ∷ xs) x ys [] last apart e = absurd (some_there xs x ys (cc))
  ahead_of_last (a ∷ xs) x ys (z ∷ zs) last apart e = let t = ahead_of_last xs x ys zs last apart (cc) in let f = t.1 in (t.0, (cc), t.2)

-- ---- what holds of all that pass a test

module _ {X : Type 0} (p : X → Bool) (P : X → Type 0) where
  pub passing_append : (xs ys : List X) → AllByRecursion P (filter p xs) → AllByRecursion P (filter p ys) → AllByRecursion P (filter p (xs ++ ys))
  passing_append xs ys h g = subst (AllByRecursion P) (sym (filter-append p xs ys)) (all_append P (filter p xs) (filter p ys) h g)

  pub passing_left : (xs ys : List X) → AllByRecursion P (filter p (xs ++ ys)) → AllByRecursion P (filter p xs)
  passing_left xs ys h = all_left P (filter p xs) (filter p ys) (subst (AllByRecursion P) (filter-append p xs ys) h)

  pub passing_right : (xs ys : List X) → AllByRecursion P (filter p (xs ++ ys)) → AllByRecursion P (filter p ys)
  passing_right xs ys h = all_right P (filter p xs) (filter p ys) (subst (AllByRecursion P) (filter-append p xs ys) h)

  pub passing_first : (x : X) (xs : List X) → p x ≡ true → AllByRecursion P (filter p (x ∷ xs)) → P x
  passing_first x xs e h = (subst (AllByRecursion P) (filter_takes p x xs e) h).0

  pub passing_rest : (x : X) (xs : List X) → AllByRecursion P (filter p (x ∷ xs)) → AllByRecursion P (filter p xs)
  passing_rest x xs h = passing_right (x ∷ []) xs h

  pub passing_without : (xs : List X) (x : X) (ys : List X) → AllByRecursion P (filter p (xs ++ x ∷ ys)) → AllByRecursion P (filter p (xs ++ ys))
  passing_without xs x ys h = passing_append xs ys (passing_left xs (x ∷ ys) h) (passing_rest x ys (passing_right xs (x ∷ ys) h))

  pub passing_one : (x : X) → (p x ≡ true → P x) → AllByRecursion P (filter p (x ∷ []))
  passing_one x h = go (p x) h
    where
      go : (b : Bool) → (b ≡ true → P x) → AllByRecursion P (cond b (x ∷ []) [])
      go true g = (g refl, tt)
      go false g = tt
