-- The finite map of a list of entries, against what a tree says of the list.
use Rattle.std.proofs.Common.{◌≡◌, ℕ, true, false, cond, Some, None, Result, Ok, Err, OnErr, List, [], ◌∷◌, length, sym, ap, ◌∙◌, subst, refl}
use Rattle.std.specs.Prelude.{T, ◌&&◌, is_some, IsSome, unwrap_or}
use Rattle.std.specs.declared.cmp.Ordering.{Ordering}
use Rattle.std.specs.declared.cmp.Ordering.TheVariants.{Less, Equal, Greater}
use Rattle.std.specs.Ordering.{eq_by_cmp, is_lt, is_eq, nat_cmp}
use Rattle.std.specs.Cmp.{IsTotalOrder, eq_by_cmp_equiv, nat_cmp_total}
use Rattle.std.specs.List.{AllByRecursion}
use Rattle.std.specs.List.Sorted.{IsStrictlySortedBy}
use Rattle.std.specs.Map.{lookup, keys_of}
use Rattle.std.specs.BTreeMap.{BTreeMap, is_at, get_by, WritesThrough}
use Rattle.std.specs.FinMap as map
use Rattle.std.specs.FinMap.{nat_cmp-IsAntisymmetric}
use Rattle.std.specs.FinMap.Entries.{find, is_sorted, below_all}

module _ {K X : Type 0} (R : K → K → Ordering) where
  pub find-lookup : (q : K) (es : List (K × X)) → find R q es ≡ lookup (is_at (R q)) es
  find-lookup q [] = refl
  find-lookup q (e ∷ es) = ap (cond (eq_by_cmp R q e.0) (Some e.1)) (find-lookup q es)

  below_from_less : (k : K) (es : List (K × X)) → AllByRecursion (λ y. R k y ≡ Less) (keys_of es) → below_all R k es ≡ true
  below_from_less k [] h = refl
  below_from_less k (e ∷ es) h = ap (λ o. is_lt o && below_all R k es) h.0 ∙ below_from_less k es h.1

  pub is_sorted-from : (es : List (K × X)) → IsStrictlySortedBy R (keys_of es) → is_sorted R es ≡ true
  unfolding IsStrictlySortedBy
  is_sorted-from [] h = refl
  is_sorted-from (e ∷ es) h = ap (λ b. b && is_sorted R es) (below_from_less e.0 es h.0) ∙ is_sorted-from es h.1

module _ {K X : Type 0} {R : K → K → Ordering} (o : IsTotalOrder R) where
  pub get-lookup : (es : List (K × X)) (q : K) → map.get (map.from_entries {R = R} es) q ≡ lookup (is_at (R q)) es
  get-lookup es q = map.get-from_entries o es q ∙ find-lookup R q es

  module _ (same : map.IsAntisymmetric R) where
    pub from_entries-sorted : (es : List (K × X)) → is_sorted R es ≡ true → map.from_entries {R = R} es ≡ map.from_sorted es
    from_entries-sorted es h =
        map.same_map o same _ _ (λ q. map.get-from_entries o es q ∙ sym (map.get-from_sorted R es q (subst T (sym h) tt)))

    pub entries-from_entries : (es : List (K × X)) → is_sorted R es ≡ true → map.entries (map.from_entries {R = R} es) ≡ es
    entries-from_entries es h = ap map.entries (from_entries-sorted es h) ∙ map.entries-from_sorted R es (subst T (sym h) tt)

    pub len-from_entries : (es : List (K × X)) → is_sorted R es ≡ true → map.len (map.from_entries {R = R} es) ≡ length es
    len-from_entries es h = map.len-entries _ ∙ ap length (entries-from_entries es h)

    pub from_entries-insert : (es fs : List (K × X)) (k : K) (v : X) → ((q : K) → lookup (is_at (R q)) fs ≡ cond (is_at (R k) q) (Some v) (lookup (is_at (R q)) es)) → map.from_entries {R = R} fs ≡ map.insert (map.from_entries es) k v
    from_entries-insert es fs k v h =
        map.same_map o same _ _ (λ q. get-lookup fs q ∙ h q ∙ ap (λ b. cond b (Some v) (lookup (is_at (R q)) es)) ((eq_by_cmp_equiv o).symm k q)
        ∙ ap (cond (eq_by_cmp R q k) (Some v)) (sym (get-lookup es q)) ∙ sym (map.get-insert o _ k v q))

    pub from_entries-remove : (es fs : List (K × X)) (k : K) → ((q : K) → lookup (is_at (R q)) fs ≡ cond (is_at (R k) q) None (lookup (is_at (R q)) es)) → map.from_entries {R = R} fs ≡ map.remove (map.from_entries es) k
    from_entries-remove es fs k h =
        map.same_map o same _ _ (λ q. get-lookup fs q ∙ h q ∙ ap (λ b. cond b None (lookup (is_at (R q)) es)) ((eq_by_cmp_equiv o).symm k q)
        ∙ ap (cond (eq_by_cmp R q k) None) (sym (get-lookup es q)) ∙ sym (map.get-remove o _ k q))

    -- to insert the value that is there changes nothing
    pub insert_same : (m : map.FinMap R X) (k : K) (v : X) → map.get m k ≡ Some v → map.insert m k v ≡ m
    insert_same m k v here =
        map.same_map o same _ _ (λ q. map.get-insert o m k v q ∙ kept q (R q k) refl)
      where
        kept : (q : K) (r : Ordering) → R q k ≡ r → cond (is_eq (R q k)) (Some v) (map.get m q) ≡ map.get m q
        kept q Equal tied = ap (λ r. cond (is_eq r) (Some v) (map.get m q)) tied ∙ sym here ∙ map.get_tied o m q k tied
        kept q Less apart = ap (λ r. cond (is_eq r) (Some v) (map.get m q)) apart
        kept q Greater apart = ap (λ r. cond (is_eq r) (Some v) (map.get m q)) apart

module _ {X : Type 0} where
  -- what is written through a loan of a tree
  pub written : (m n : BTreeMap ℕ X) (k : ℕ) (w v : X) → WritesThrough nat_cmp (nat_cmp k) m w n → Some v ≡ get_by (nat_cmp k) m → map.from_entries {R = nat_cmp} n.entries ≡ map.insert (map.from_entries m.entries) k w
  written m n k w v wrote here =
      let there : IsSome (get_by (nat_cmp k) m) = ap is_some (sym here) in
      from_entries-insert nat_cmp_total nat_cmp-IsAntisymmetric m.entries n.entries k w (wrote.3 there).0

  pub written_back : (m n : BTreeMap ℕ X) (k : ℕ) (w v : X) → w ≡ v → WritesThrough nat_cmp (nat_cmp k) m w n → Some v ≡ get_by (nat_cmp k) m → map.from_entries {R = nat_cmp} n.entries ≡ map.from_entries m.entries
  written_back m n k w v kept wrote here =
      written m n k w v wrote here ∙ ap (map.insert (map.from_entries m.entries) k) kept
      ∙ insert_same nat_cmp_total nat_cmp-IsAntisymmetric _ k v (get-lookup nat_cmp_total m.entries k ∙ sym here)

  pub found : (m : BTreeMap ℕ X) (k : ℕ) (v d : X) → Some v ≡ get_by (nat_cmp k) m → v ≡ unwrap_or (map.get (map.from_entries {R = nat_cmp} m.entries) k) d
  found m k v d here = ap (λ x. unwrap_or x d) (here ∙ sym (get-lookup nat_cmp_total m.entries k))

  pub not_absent : (m : BTreeMap ℕ X) (k : ℕ) → None ≡ get_by (nat_cmp k) m → map.contains_key (map.from_entries {R = nat_cmp} m.entries) k ≡ true → ⊥
  not_absent m k none known = let h : false ≡ true = ap is_some (none ∙ sym (get-lookup nat_cmp_total m.entries k)) ∙ known in cc

pub on_err : {A E P : Type 0} (r : Result A E) → P → OnErr r P
on_err (Ok x) p = tt
on_err (Err e) p = p
