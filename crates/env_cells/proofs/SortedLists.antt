-- What an edit at the place of a key does to a list of entries whose keys rise.
use Rattle.std.proofs.Common.{◌≡◌, ℕ, zero, suc, ◌+◌, ◌<◌, ◌≤◌, Bool, true, false, cond, Option, Some, None, Result, Ok, Err, IfOk, IfErr, List, [], ◌∷◌, length, get_or, set, sym, ap, ◌∙◌, subst, refl, arith}
use Rattle.std.specs.Prelude.{T, ◌&&◌, not, insert, remove}
use Rattle.std.specs.declared.cmp.Ordering.{Ordering}
use Rattle.std.specs.declared.cmp.Ordering.TheVariants.{Less, Equal, Greater}
use Rattle.std.specs.Ordering.{eq_by_cmp, is_eq, is_lt, ordering_reverse, ordering_index}
use Rattle.std.specs.Cmp.{IsTotalOrder, alike_right, tied_back, tied_itself, eq_by_cmp_equiv}
use Rattle.std.specs.List.Sorted.{IsSearchInRange, IsBinarySearchResult, IsNonDecreasingBy}
use Rattle.std.specs.FinMap as map
use Rattle.std.specs.FinMap.Entries.{find, put, where_key, by_order, is_sorted, below_all, find-put, is_sorted-put, find-where_key, is_sorted-where_key}
use Rattle.std.proofs.lemmas.List.{set-get_or}
use Rattle.std.proofs.lemmas.List.Sorted.{searchable_from_sorted}
use Rattle.env_cells.specs.Sorted.{AreEntries, IsHit, IsGap, map_of}

pub truth : (b : Bool) → T b → b ≡ true
truth true h = refl
truth false h = absurd h

first_true : (a b : Bool) → (a && b) ≡ true → a ≡ true
first_true true b h = refl
first_true false b h = h

pub second_true : (a b : Bool) → (a && b) ≡ true → b ≡ true
second_true true b h = h
second_true false b h = cc

less_true : (o : Ordering) → is_lt o ≡ true → o ≡ Less
less_true Less h = refl
less_true Equal h = cc
less_true Greater h = cc

module _ {K X : Type 0} (R : K → K → Ordering) where
  below_at : (x : K) (es : List (K × X)) (j : ℕ) (d : K × X) → below_all R x es ≡ true → j < length es → R x (get_or es j d).0 ≡ Less
  below_at x [] j d h lt = absurd (omega arith)
  below_at x (e ∷ es) zero d h lt = less_true _ (first_true _ _ h)
  below_at x (e ∷ es) (suc j) d h lt = below_at x es j d (second_true _ _ h) (omega arith)

  -- each key is below those behind it
  pub rises : (es : List (K × X)) (i j : ℕ) (d : K × X) → is_sorted R es ≡ true → i < j → j < length es → R (get_or es i d).0 (get_or es j d).0 ≡ Less
  rises [] i j d h lt within = absurd (omega arith)
  rises (e ∷ es) i zero d h lt within = absurd (omega arith)
  rises (e ∷ es) zero (suc j) d h lt within = below_at e.0 es j d (first_true _ _ h) (omega arith)
  rises (e ∷ es) (suc i) (suc j) d h lt within = rises es i j d (second_true _ _ h) (omega arith) (omega arith)

  -- where the key stands
  record Stands (es : List (K × X)) (k : K) (at : ℕ) : Type 0 where
    within : at < length es
    before : (j : ℕ) (d : K × X) → j < at → R k (get_or es j d).0 ≡ Greater
    here : (d : K × X) → R k (get_or es at d).0 ≡ Equal

  -- where the key would stand
  record Lacks (es : List (K × X)) (k : K) (at : ℕ) : Type 0 where
    within : at ≤ length es
    before : (j : ℕ) (d : K × X) → j < at → R k (get_or es j d).0 ≡ Greater
    behind : (j : ℕ) (d : K × X) → at ≤ j → j < length es → R k (get_or es j d).0 ≡ Less

  stands_later : (e : K × X) (es : List (K × X)) (k : K) (at : ℕ) → Stands (e ∷ es) k (suc at) → Stands es k at
  stands_later e es k at h = record { within = omega (arith, h.within); before = λ j d lt. h.before (suc j) d (omega arith); here = h.here }

  lacks_later : (e : K × X) (es : List (K × X)) (k : K) (at : ℕ) → Lacks (e ∷ es) k (suc at) → Lacks es k at
  lacks_later e es k at h = record { within = omega (arith, h.within); before = λ j d lt. h.before (suc j) d (omega arith); behind = λ j d le lt. h.behind (suc j) d (omega arith) (omega arith) }

  lacks_behind : (e : K × X) (es : List (K × X)) (k : K) → Lacks (e ∷ es) k 0 → Lacks es k 0
  lacks_behind e es k h = record { within = omega arith; before = λ j d lt. absurd (omega arith); behind = λ j d le lt. h.behind (suc j) d (omega arith) (omega arith) }

turned : {K : Type 0} {R : K → K → Ordering} → IsTotalOrder R → (x y : K) (r : Ordering) → R x y ≡ r → R y x ≡ ordering_reverse r
turned o x y r e = o.antisymm y x ∙ ap ordering_reverse e

module _ {K X : Type 0} {R : K → K → Ordering} (o : IsTotalOrder R) (same : map.IsAntisymmetric R) where
  put_here : (es : List (K × X)) (k : K) (v : X) (at : ℕ) → Stands R es k at → set es at (k, v) ≡ put R k v es
  put_here [] k v at h = absurd (omega (arith, h.within))
  put_here (e ∷ es) k v zero h = ap (λ x. (x, v) ∷ es) (same k e.0 (h.here e)) ∙ sym (ap (λ r. by_order r ((k, v) ∷ e ∷ es) ((e.0, v) ∷ es) (e ∷ put R k v es)) (h.here e))
  put_here (e ∷ es) k v (suc at) h =
      ap (λ l. e ∷ l) (put_here es k v at (stands_later R e es k at h))
      ∙ sym (ap (λ r. by_order r ((k, v) ∷ e ∷ es) ((e.0, v) ∷ es) (e ∷ put R k v es)) (h.before 0 e (omega arith)))

  put_between : (es : List (K × X)) (k : K) (v : X) (at : ℕ) → Lacks R es k at → insert es at (k, v) ≡ put R k v es
  put_between [] k v zero h = refl
  put_between [] k v (suc at) h = absurd (omega (arith, h.within))
  put_between (e ∷ es) k v zero h = sym (ap (λ r. by_order r ((k, v) ∷ e ∷ es) ((e.0, v) ∷ es) (e ∷ put R k v es)) (h.behind 0 e (omega arith) (omega arith)))
  put_between (e ∷ es) k v (suc at) h =
      ap (λ l. e ∷ l) (put_between es k v at (lacks_later R e es k at h))
      ∙ sym (ap (λ r. by_order r ((k, v) ∷ e ∷ es) ((e.0, v) ∷ es) (e ∷ put R k v es)) (h.before 0 e (omega arith)))

  find_none : (es : List (K × X)) (k : K) (at : ℕ) → Lacks R es k at → find R k es ≡ None
  find_none [] k at h = refl
  find_none (e ∷ es) k zero h =
      ap (λ r. cond (is_eq r) (Some e.1) (find R k es)) (h.behind 0 e (omega arith) (omega arith)) ∙ find_none es k 0 (lacks_behind R e es k h)
  find_none (e ∷ es) k (suc at) h =
      ap (λ r. cond (is_eq r) (Some e.1) (find R k es)) (h.before 0 e (omega arith)) ∙ find_none es k at (lacks_later R e es k at h)

  all_others : (k : K) (es : List (K × X)) → below_all R k es ≡ true → es ≡ where_key R (λ x. not (eq_by_cmp R k x)) es
  all_others k [] h = refl
  all_others k (e ∷ es) h =
      ap (λ l. e ∷ l) (all_others k es (second_true _ _ h))
      ∙ sym (ap (λ r. cond (not (is_eq r)) (e ∷ where_key R (λ x. not (eq_by_cmp R k x)) es) (where_key R (λ x. not (eq_by_cmp R k x)) es)) (less_true _ (first_true _ _ h)))

  removed_here : (es : List (K × X)) (k : K) (at : ℕ) → is_sorted R es ≡ true → Stands R es k at → remove es at ≡ where_key R (λ x. not (eq_by_cmp R k x)) es
  removed_here [] k at sorted h = absurd (omega (arith, h.within))
  removed_here (e ∷ es) k zero sorted h =
      all_others k es (subst (λ x. below_all R x es ≡ true) (sym (same k e.0 (h.here e))) (first_true _ _ sorted))
      ∙ sym (ap (λ r. cond (not (is_eq r)) (e ∷ where_key R (λ x. not (eq_by_cmp R k x)) es) (where_key R (λ x. not (eq_by_cmp R k x)) es)) (h.here e))
  removed_here (e ∷ es) k (suc at) sorted h =
      ap (λ l. e ∷ l) (removed_here es k at (second_true _ _ sorted) (stands_later R e es k at h))
      ∙ sym (ap (λ r. cond (not (is_eq r)) (e ∷ where_key R (λ x. not (eq_by_cmp R k x)) es) (where_key R (λ x. not (eq_by_cmp R k x)) es)) (h.before 0 e (omega arith)))

  from_put : (es fs : List (K × X)) (k : K) (v : X) → is_sorted R es ≡ true → fs ≡ put R k v es → AreEntries R fs (map.insert (map_of R es) k v)
  from_put es fs k v sorted is = record {
    rise = ap (is_sorted R) is ∙ truth _ (is_sorted-put R o k v es (subst T (sym sorted) tt));
    made = map.same_map o same _ _ (λ q. map.get-from_entries o fs q ∙ ap (find R q) is ∙ find-put R o q k v es
        ∙ ap (cond (eq_by_cmp R q k) (Some v)) (sym (map.get-from_entries o es q)) ∙ sym (map.get-insert o _ k v q));
  }

  from_others : (es fs : List (K × X)) (k : K) → is_sorted R es ≡ true → fs ≡ where_key R (λ x. not (eq_by_cmp R k x)) es → AreEntries R fs (map.remove (map_of R es) k)
  from_others es fs k sorted is = record {
    rise = ap (is_sorted R) is ∙ truth _ (is_sorted-where_key R (λ x. not (eq_by_cmp R k x)) es (subst T (sym sorted) tt));
    made = map.same_map o same _ _ (λ q. map.get-from_entries o fs q ∙ ap (find R q) is
        ∙ find-where_key R (λ x. not (eq_by_cmp R k x)) q (λ x tied. ap (λ r. not (is_eq r)) (sym (alike_right o q x k tied))) es
        ∙ flipped (eq_by_cmp R k q) (find R q es) ∙ ap (λ b. cond b None (find R q es)) ((eq_by_cmp_equiv o).symm k q)
        ∙ ap (cond (eq_by_cmp R q k) None) (sym (map.get-from_entries o es q)) ∙ sym (map.get-remove o _ k q));
  }
    where
      flipped : (b : Bool) (x : Option X) → cond (not b) x None ≡ cond b None x
      flipped true x = refl
      flipped false x = refl

  -- to remove what is not there changes nothing
  pub remove_absent : (m : map.FinMap R X) (k : K) → map.get m k ≡ None → m ≡ map.remove m k
  remove_absent m k none =
      map.same_map o same _ _ (λ q. kept q (R q k) refl ∙ sym (map.get-remove o m k q))
    where
      kept : (q : K) (r : Ordering) → R q k ≡ r → map.get m q ≡ cond (is_eq (R q k)) None (map.get m q)
      kept q Equal tied = sym (map.get_tied o m q k tied) ∙ none ∙ sym (ap (λ r. cond (is_eq r) None (map.get m q)) tied)
      kept q Less apart = sym (ap (λ r. cond (is_eq r) None (map.get m q)) apart)
      kept q Greater apart = sym (ap (λ r. cond (is_eq r) None (map.get m q)) apart)

  hit : (es : List (K × X)) (k : K) (at : ℕ) → is_sorted R es ≡ true → Stands R es k at → IsHit R es k at
  hit es k at sorted h = record {
    within = h.within;
    own = λ d. sym (same k _ (h.here d));
    value = λ d.
        let v = (get_or es at d).1 in
        let kept : es ≡ put R k v es = sym (set-get_or es at d) ∙ ap (λ x. set es at (x, v)) (sym (same k _ (h.here d))) ∙ put_here es k v at h in
        sym (map.get-from_entries o es k ∙ ap (find R k) kept ∙ find-put R o k k v es ∙ ap (λ r. cond (is_eq r) (Some v) (find R k es)) (tied_itself o k));
    written = λ v. from_put es _ k v sorted (put_here es k v at h);
    removed = from_others es _ k sorted (removed_here es k at sorted h);
  }

  gap : (es : List (K × X)) (k : K) (at : ℕ) → is_sorted R es ≡ true → Lacks R es k at → IsGap R es k at
  gap es k at sorted h =
      let none = map.get-from_entries o es k ∙ find_none es k at h in
      record { within = h.within; value = sym none; written = λ v. from_put es _ k v sorted (put_between es k v at h); removed = remove_absent (map_of R es) k none }

  -- a binary search ends at the key, or at the gap for it
  pub searched : (es : List (K × X)) (k : K) → is_sorted R es ≡ true → (r : Result ℕ ℕ) → IsSearchInRange r (length es) → IsBinarySearchResult (λ e. R e.0 k) es r → record { found : IfOk r (IsHit R es k); absent : IfErr r (IsGap R es k) }
  searched es k sorted (Ok at) bound equal = record {
    found = hit es k at sorted (record {
      within = bound;
      before = λ j d lt. turned o _ _ Less (sym (alike_right o _ k _ (equal d)) ∙ rises R es j at d sorted lt bound);
      here = λ d. tied_back o _ _ (equal d);
    });
    absent = tt;
  }
  searched es k sorted (Err at) bound parted =
      let rising : IsNonDecreasingBy (λ y. ordering_index (R y.0 k)) es = searchable_from_sorted o (λ (e : K × X). e.0) es k (λ i d low lt. ap is_lt (turned o _ _ Less (rises R es i (i + 1) d sorted (omega arith) lt))) in
      record {
        found = tt;
        absent = gap es k at sorted (record {
          within = bound;
          before = λ j d lt. turned o _ _ Less ((parted rising).0 j d (omega arith) lt);
          behind = λ j d le lt. turned o _ _ Greater ((parted rising).1 j d le lt);
        });
      }
