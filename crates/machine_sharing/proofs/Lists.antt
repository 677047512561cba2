-- Lists that only grow, or of which some are left, and what is found in lists whose elements are others than before.
use Rattle.std.proofs.Common.{◌≡◌, Bool, true, false, cond, List, [], ◌∷◌, ◌++◌, append-nil, append_assoc, refl, sym, ap, ◌∙◌, subst}
use Rattle.std.specs.Prelude.{◌&&◌, filter, find, Some}
use Rattle.std.specs.List.{AllZip}
use Rattle.history_lock.specs.Histories.{StartsWith}
use Rattle.machine_steps.specs.Machine.{Session}
use Rattle.machine_sharing.specs.Between.{Both}

module _ {X : Type 0} where
  pub starts_same : (xs ys : List X) → ys ≡ xs → StartsWith ys xs
  starts_same xs ys e = ([], e ∙ sym (append-nil xs))

  pub starts_then : (xs ys zs : List X) → StartsWith ys xs → StartsWith zs ys → StartsWith zs xs
  starts_then xs ys zs (more, e) (further, f) = (more ++ further, f ∙ ap (λ zs. zs ++ further) e ∙ append_assoc xs more further)

  pub filter_all : (xs : List X) → filter (λ x. true) xs ≡ xs
  filter_all [] = refl
  filter_all (x ∷ xs) = ap (λ ys. x ∷ ys) (filter_all xs)

  pub filter_twice : (p q : X → Bool) (xs : List X) → filter q (filter p xs) ≡ filter (λ x. p x && q x) xs
  filter_twice p q [] = refl
  filter_twice p q (x ∷ xs) = step (p x) (filter_twice p q xs)
    where
      step : (b : Bool) → filter q (filter p xs) ≡ filter (λ y. p y && q y) xs
          → filter q (cond b (x ∷ filter p xs) (filter p xs)) ≡ cond (b && q x) (x ∷ filter (λ y. p y && q y) xs) (filter (λ y. p y && q y) xs)
      step true later = ap (λ ys. cond (q x) (x ∷ ys) ys) later
      step false later = later

-- in lists that stand in a relation place by place, what is found does, too
pub both_found : (R : Session → Session → Type 0) (p : Session → Bool) → ((s t : Session) → R s t → p t ≡ p s) → (ss ts : List Session) → AllZip R ss ts → Both R (find p ss) (find p ts)
both_found R p f [] [] h = tt
both_found R p f [] (t ∷ ts) h = absurd h
both_found R p f (s ∷ ss) [] h = absurd h
both_found R p f (s ∷ ss) (t ∷ ts) h = subst (λ b. Both R (cond (p s) (Some s) (find p ss)) (cond b (Some t) (find p ts))) (sym (f s t h.0)) (step (p s) (both_found R p f ss ts h.1))
  where
    step : (b : Bool) → Both R (find p ss) (find p ts) → Both R (cond b (Some s) (find p ss)) (cond b (Some t) (find p ts))
    step true later = h.0
    step false later = later
