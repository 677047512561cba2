-- The other rules of a table, beside the one at a place.
use Rattle.std.proofs.Common.{◌≡◌, ◌≢◌, ℕ, zero, suc, ◌<◌, Bool, true, false, not, cond, List, [], ◌∷◌, length, get_or, take, drop, set, refl, sym, ap, ◌∙◌, subst, arith}
use Rattle.std.specs.Prelude.{filter, ◌||◌}
use Rattle.std.specs.List.{All, remove, list_any}
use Rattle.std.specs.List.Sorted.{IsPermutation}
use Rattle.std.proofs.lemmas.List.{set_split}
use Rattle.std.proofs.lemmas.List.Elements.{All-head, All-tail}
use Rattle.std.proofs.lemmas.List.Sorted.{IsPermutation-middle, IsPermutation-sym}

module _ {X : Type 0} (p : X → Bool) where
  pub none_kept : (xs : List X) → All (λ x. p x ≡ false) xs → filter (λ x. not (p x)) xs ≡ xs
  none_kept [] none = refl
  none_kept (x ∷ xs) none =
      ap (λ b. cond (not b) (x ∷ filter (λ y. not (p y)) xs) (filter (λ y. not (p y)) xs)) (All-head (λ y. p y ≡ false) x xs none)
      ∙ ap (λ l. x ∷ l) (none_kept xs (All-tail (λ y. p y ≡ false) x xs none))

  pub rest_kept : (xs : List X) (i : ℕ) → i < length xs → ((d : X) → p (get_or xs i d) ≡ true) → ((k : ℕ) (d : X) → k < length xs → k ≢ i → p (get_or xs k d) ≡ false) → filter (λ x. not (p x)) xs ≡ remove xs i
  rest_kept [] i within here others = absurd (omega arith)
  rest_kept (x ∷ xs) zero within here others =
      ap (λ b. cond (not b) (x ∷ filter (λ y. not (p y)) xs) (filter (λ y. not (p y)) xs)) (here x)
      ∙ none_kept xs (λ k d lt. others (suc k) d (omega arith) (λ e. absurd (omega (arith, e))))
  rest_kept (x ∷ xs) (suc i) within here others =
      ap (λ b. cond (not b) (x ∷ filter (λ y. not (p y)) xs) (filter (λ y. not (p y)) xs)) (others zero x (omega arith) (λ e. absurd (omega (arith, e))))
      ∙ ap (λ l. x ∷ l) (rest_kept xs i (omega arith) here (λ k d lt ne. others (suc k) d (omega arith) (λ e. ne (omega (arith, e)))))

  pub any_none : (xs : List X) → All (λ x. p x ≡ false) xs → list_any p xs ≡ false
  any_none [] none = refl
  any_none (x ∷ xs) none = ap (λ b. b || list_any p xs) (All-head (λ y. p y ≡ false) x xs none) ∙ any_none xs (All-tail (λ y. p y ≡ false) x xs none)

  pub any_at : (xs : List X) (i : ℕ) → i < length xs → ((d : X) → p (get_or xs i d) ≡ true) → list_any p xs ≡ true
  any_at [] i within here = absurd (omega arith)
  any_at (x ∷ xs) zero within here = ap (λ b. b || list_any p xs) (here x)
  any_at (x ∷ xs) (suc i) within here = ap (λ b. p x || b) (any_at xs i (omega arith) here) ∙ or_true (p x)
    where
      or_true : (b : Bool) → (b || true) ≡ true
      or_true true = refl
      or_true false = refl

pub put_at : {X : Type 0} (xs : List X) (i : ℕ) (y : X) → i < length xs → IsPermutation (y ∷ remove xs i) (set xs i y)
put_at xs i y within =
    subst (λ l. IsPermutation (y ∷ remove xs i) l) (sym (set_split xs i y within))
    (IsPermutation-sym _ _ (IsPermutation-middle (take i xs) y (drop (suc i) xs)))
