-- Lists whose elements have different keys: an element is found, changed and removed by its place or by its key.
use Rattle.std.proofs.Common.{◌≡◌, ◌≢◌, ℕ, zero, suc, ◌+◌, ◌<◌, ◌≤◌, Bool, true, false, cond, not, eqb, ltb, List, [], ◌∷◌, ◌++◌, ◌||◌, length, get_or, set, map, Some, None, refl, sym, ap, ◌∙◌, subst, arith, ⊎_elim}
use Rattle.std.specs.Option.{MatchOption}
use Rattle.std.specs.List.{list_any, AllByRecursion, AllPairs, filter, find, position, position_or_len, remove, slice_get}
use Rattle.std.proofs.lemmas.List.{same_lists, get_or-map, get_or-set_same, get_or-set_other, get_or_default, length-map, length-set}
use Rattle.std.proofs.lemmas.Bool.{cases_eq, cases_lt, cases_order, eq-eqb, le-ltb, lt-ltb, ne_eqb}
use Rattle.std.proofs.lemmas.List.Folds.{find_at}
use Rattle.std.proofs.lemmas.Option.{none-some, same_Some, slice_get-get_or, slice_get_past}

module _ {X : Type 0} (key : X → ℕ) where
  abbrev pub Apart : List X → Type 0
  Apart xs = AllPairs (λ a b. key a ≢ key b) xs

  -- another place has another key
  pub elsewhere : (xs : List X) (i k : ℕ) (d : X) → Apart xs → i < length xs → k < length xs → k ≢ i → key (get_or xs k d) ≢ key (get_or xs i d)
  elsewhere xs i k d apart at in' ne e =
      ⊎_elim (λ (same : k ≡ i). ne same) (λ h. ⊎_elim (λ (lt : k < i). apart k i d lt at e) (λ (gt : i < k). apart i k d gt in' (sym e)) h) (cases_order k i)

  put : X → X → X
  put t u = cond (eqb (key u) (key t)) t u

  put_at : (xs : List X) (i k : ℕ) (t d : X) → i < length xs → k ≡ i → key (get_or xs i t) ≡ key t → get_or (map (λ u. cond (eqb (key u) (key t)) t u) xs) k d ≡ get_or (set xs i t) k d
  put_at xs i k t d at same is =
      let here : k < length xs = omega arith in
      get_or-map (λ u. cond (eqb (key u) (key t)) t u) xs k d d here
      ∙ ap (λ b. cond b t (get_or xs k d)) (eq-eqb _ _ (ap key (get_or_default xs k d t here ∙ ap (λ n. get_or xs n t) same) ∙ is))
      ∙ sym (ap (λ n. get_or (set xs i t) n d) same ∙ get_or-set_same xs i t d at)

  put_off : (xs : List X) (i k : ℕ) (t d : X) → i < length xs → k < length xs → k ≢ i → key (get_or xs k d) ≢ key t → get_or (map (λ u. cond (eqb (key u) (key t)) t u) xs) k d ≡ get_or (set xs i t) k d
  put_off xs i k t d at here ne other =
      get_or-map (λ u. cond (eqb (key u) (key t)) t u) xs k d d here
      ∙ ap (λ b. cond b t (get_or xs k d)) (ne_eqb _ _ other)
      ∙ sym (get_or-set_other xs i k t d ne)

  -- the element at a place changed, and its key the same: it is changed by its key
  pub set_by_key : (xs : List X) (i : ℕ) (t : X) → i < length xs → Apart xs → key (get_or xs i t) ≡ key t → map (λ u. cond (eqb (key u) (key t)) t u) xs ≡ set xs i t
  set_by_key xs i t at apart is =
      same_lists _ _ (length-map xs _ ∙ sym (length-set xs i t)) (λ k d h.
      let here : k < length xs = omega (arith, length-map xs (λ u. cond (eqb (key u) (key t)) t u)) in
      ⊎_elim (λ (same : k ≡ i). put_at xs i k t d at same is)
      (λ (ne : k ≢ i). put_off xs i k t d at here ne (λ e. elsewhere xs i k d apart at here ne (e ∙ sym is ∙ ap key (get_or_default xs i t d at))))
      (cases_eq k i))

  -- the element at a place is found by its key
  pub found_by_key : (c : ℕ) (xs : List X) (i : ℕ) (d : X) → i < length xs → Apart xs → key (get_or xs i d) ≡ c → find (λ u. eqb (key u) c) xs ≡ Some (get_or xs i d)
  found_by_key c [] i d at apart is = absurd (omega arith)
  found_by_key c (x ∷ xs) zero d at apart is = ap (λ b. cond b (Some x) (find (λ u. eqb (key u) c) xs)) (eq-eqb _ _ is)
  found_by_key c (x ∷ xs) (suc i) d at apart is =
      ap (λ b. cond b (Some x) (find (λ u. eqb (key u) c) xs)) (ne_eqb _ _ (λ e. apart 0 (suc i) d (omega arith) at (e ∙ sym is)))
      ∙ found_by_key c xs i d (omega arith) (λ j k e lt in'. apart (suc j) (suc k) e (omega arith) (omega arith)) is

  -- where no element has the key all are kept
  kept : (c : ℕ) (xs : List X) → ((k : ℕ) (d : X) → k < length xs → key (get_or xs k d) ≢ c) → filter (λ u. not (eqb (key u) c)) xs ≡ xs
  kept c [] none = refl
  kept c (x ∷ xs) none =
      ap (λ b. cond (not b) (x ∷ filter (λ u. not (eqb (key u) c)) xs) (filter (λ u. not (eqb (key u) c)) xs)) (ne_eqb _ _ (none 0 x (omega arith)))
      ∙ ap (λ ys. x ∷ ys) (kept c xs (λ k d h. none (suc k) d (omega arith)))

  -- the element at a place removed: it is removed by its key
  pub remove_by_key : (c : ℕ) (xs : List X) (i : ℕ) → i < length xs → Apart xs → ((d : X) → key (get_or xs i d) ≡ c) → filter (λ u. not (eqb (key u) c)) xs ≡ remove xs i
  remove_by_key c [] i at apart is = absurd (omega arith)
  remove_by_key c (x ∷ xs) zero at apart is =
      ap (λ b. cond (not b) (x ∷ filter (λ u. not (eqb (key u) c)) xs) (filter (λ u. not (eqb (key u) c)) xs)) (eq-eqb _ _ (is x))
      ∙ kept c xs (λ k d h e. apart 0 (suc k) d (omega arith) (omega arith) (is d ∙ sym e))
  remove_by_key c (x ∷ xs) (suc i) at apart is =
      ap (λ b. cond (not b) (x ∷ filter (λ u. not (eqb (key u) c)) xs) (filter (λ u. not (eqb (key u) c)) xs)) (ne_eqb _ _ (λ e. apart 0 (suc i) x (omega arith) at (e ∙ sym (is x))))
      ∙ ap (λ ys. x ∷ ys) (remove_by_key c xs i (omega arith) (λ j k d lt in'. apart (suc j) (suc k) d (omega arith) (omega arith)) is)

-- the first that passes is found at its place, seen through a function
pub place_of_map : {X Y : Type 0} (p : Y → Bool) (f : X → Y) (xs : List X) → position_or_len p (map f xs) ≡ position_or_len (λ x. p (f x)) xs
place_of_map p f [] = refl
place_of_map p f (x ∷ xs) = ap (λ n. cond (not (p (f x))) (1 + n) 0) (place_of_map p f xs)

-- what holds of each by recursion, after a change
pub each-set : {X : Type 0} (P : X → Type 0) (xs : List X) (i : ℕ) (t : X) → AllByRecursion P xs → P t → AllByRecursion P (set xs i t)
each-set P [] i t h p = h
each-set P (x ∷ xs) zero t h p = (p, h.1)
each-set P (x ∷ xs) (suc i) t h p = (h.0, each-set P xs i t h.1 p)

pub each_push : {X : Type 0} (P : X → Type 0) (xs : List X) (t : X) → AllByRecursion P xs → P t → AllByRecursion P (xs ++ t ∷ [])
each_push P [] t h p = (p, tt)
each_push P (x ∷ xs) t h p = (h.0, each_push P xs t h.1 p)

pub each-remove : {X : Type 0} (P : X → Type 0) (xs : List X) (i : ℕ) → AllByRecursion P xs → AllByRecursion P (remove xs i)
each-remove P [] zero h = h
each-remove P [] (suc i) h = h
each-remove P (x ∷ xs) zero h = h.1
each-remove P (x ∷ xs) (suc i) h = (h.0, each-remove P xs i h.1)

pub each_at : {X : Type 0} (P : X → Type 0) (xs : List X) (i : ℕ) (d : X) → i < length xs → AllByRecursion P xs → P (get_or xs i d)
each_at P [] i d lt h = absurd (omega arith)
each_at P (x ∷ xs) zero d lt h = h.0
each_at P (x ∷ xs) (suc i) d lt h = each_at P xs i d (omega arith) h.1

-- the first that passes, by its place
pub first_there : {X : Type 0} (p : X → Bool) (xs : List X) → MatchOption (position p xs) (find p xs ≡ None) (λ i. (x : X) × (slice_get xs i ≡ Some x) × (find p xs ≡ Some x))
first_there p [] = refl
first_there {X} p (x ∷ xs) =
    let ys = x ∷ xs in
    let n = position_or_len p ys in
    ⊎_elim
    (λ (lt : n < length ys). subst (λ b. MatchOption (cond b (Some n) None) (find p ys ≡ None) (λ i. (y : X) × (slice_get ys i ≡ Some y) × (find p ys ≡ Some y))) (sym (lt-ltb n (length ys) lt))
    (get_or ys n x, slice_get-get_or ys n x lt, find_at p ys ∙ slice_get-get_or ys n x lt))
    (λ (ge : length ys ≤ n). subst (λ b. MatchOption (cond b (Some n) None) (find p ys ≡ None) (λ i. (y : X) × (slice_get ys i ≡ Some y) × (find p ys ≡ Some y))) (sym (le-ltb n (length ys) ge))
    (find_at p ys ∙ slice_get_past ys n ge))
    (cases_lt n (length ys))

pub position_of_map : {X Y : Type 0} (p : Y → Bool) (f : X → Y) (xs : List X) → position (λ x. p (f x)) xs ≡ position p (map f xs)
position_of_map p f xs = sym (ap (λ n. cond (ltb n (length (map f xs))) (Some n) None) (place_of_map p f xs) ∙ ap (λ l. cond (ltb (position_or_len (λ x. p (f x)) xs) l) (Some (position_or_len (λ x. p (f x)) xs)) None) (length-map xs f))

-- what find gives passes
pub find_passes : {X : Type 0} (p : X → Bool) (xs : List X) (x : X) → find p xs ≡ Some x → p x ≡ true
find_passes p [] x e = absurd (none-some x e)
find_passes {X} p (y ∷ ys) x e =
    elim (p y) as (λ b. p y ≡ b → cond b (Some y) (find p ys) ≡ Some x → p x ≡ true) [
      | true ↦ λ py s. ap p (sym (same_Some y x s)) ∙ py
      | false ↦ λ _ s. find_passes p ys x s
    ] refl e

pub any_map : {X Y : Type 0} (p : Y → Bool) (v : X → Y) (xs : List X) → list_any p (map v xs) ≡ list_any (λ x. p (v x)) xs
any_map p v [] = refl
any_map p v (x ∷ xs) = ap (λ b. p (v x) || b) (any_map p v xs)
