-- The rules of a tree differ from each other in match or in priority.
use Rattle.std.proofs.Common.{◌≡◌, ℕ, zero, suc, ◌+◌, ◌<◌, Bool, true, false, List, [], ◌∷◌, ◌++◌, get_or, Some, refl, sym, ap, ◌∙◌, ⊎_elim, arith}
use Rattle.std.specs.Prelude.{Contains, map, filter_map}
use Rattle.std.specs.List.{IsDistinct, AllByRecursion}
use Rattle.std.specs.List.Sorted.{IsPermutation}
use Rattle.std.proofs.lemmas.Bool.{cases_Bool}
use Rattle.std.proofs.lemmas.Map.Keys.{IsDistinct-cons, IsDistinct-IsPermutation, apart_from_distinct}
use Rattle.std.proofs.lemmas.List.Sorted.{IsPermutation-refl, IsPermutation-cons, IsPermutation-middle, IsPermutation-trans, IsPermutation-sym}
use Rattle.std.proofs.lemmas.List.Elements.{Contains-append_cases, Contains-append_right}
use Rattle.maple_base.specs.declared.key.Field.{Field}
use Rattle.maple_base.specs.declared.key.Match.{Match}
use Rattle.maple_base.specs.declared.decision.Rule.{Rule}
use Rattle.maple_base.specs.Keys.{fix, fixed_of, anything}
use Rattle.maple_base.specs.Choice.{Differ}
use Rattle.flow_table.specs.Effects.{is_at}
use Rattle.flow_table.proofs.Matches.{at_is, at_of}
use Rattle.trace_tree.specs.Shape.{Shape, Branches, Empty, Ends, Reads, Tests, NoBranch, Branch}
use Rattle.trace_tree.specs.Growth.{IsOrdered, AreOrdered, scratch}
use Rattle.trace_tree.proofs.Growths.{grown_ordered}
use Rattle.priority_plan.specs.declared.rows.Row.{Row}
use Rattle.priority_plan.specs.declared.rows.Row.TheVariants.{Fact, Barrier}
use Rattle.priority_plan.specs.Rules.{with_barrier, levels_of, barrier_behind, rows_of, rows_in, fact_of, barrier_of}
use Rattle.priority_plan.specs.Standing.{rule_of}
use Rattle.priority_plan.proofs.Spans.{none_in, barrier_above, barrier_least, within}
use Rattle.priority_plan.proofs.Listed.{listed, listed_in, own_row}
use Rattle.rule_builder.specs.Laws.{DistinctLaw}
use Rattle.rule_builder.proofs.Fixes.{IsFresh, AreFresh, scratch_fresh}
use Rattle.rule_builder.proofs.Forms.{row_has, in_above, FixesAbove}

abbrev Apart : List Row → List Row → Type 0
Apart xs ys = (x y : Row) → Contains xs x → Contains ys y → Differ (rule_of x) (rule_of y)

-- each row differs from the later ones
abbrev Distinct : List Row → Type 0
Distinct [] = Unit {0}
Distinct (x ∷ xs) = ((y : Row) → Contains xs y → Differ (rule_of x) (rule_of y)) × Distinct xs

distinct_append : (xs ys : List Row) → Distinct xs → Distinct ys → Apart xs ys → Distinct (xs ++ ys)
distinct_append [] ys a b c = b
distinct_append (x ∷ xs) ys a b c =
    (λ y h. ⊎_elim (λ i. a.0 y i) (λ i. c x y (0, omega arith, refl) i) (Contains-append_cases xs ys y h), distinct_append xs ys a.1 b (λ z y i j. c z y (Contains-append_right (x ∷ []) xs z i) j))

turned : (r q : Rule) → Differ r q → Differ q r
turned r q h e p = h (sym e) (sym p)

by_level : (r q : Rule) → q.priority < r.priority → Differ r q
by_level r q h e p = omega (arith, h, p)

by_value : (f : Field) (v : ℕ) (r q : Rule) → fixed_of r.of f ≡ Some v → FixesAbove f v q.of → Differ r q
by_value f v r q e h same _ =
    let s : Some v ≡ Some h.value = sym e ∙ ap (λ (m : Match). fixed_of m f) same ∙ h.fixes in
    let n : v ≡ h.value = cc in
    let a = h.above in
    omega (arith, n, a)

mutual
  rows_distinct : (t : Shape) (m : Match) (b : ℕ) → IsFresh t m → IsOrdered t → Distinct (rows_of t m b)
  rows_distinct Empty m b fresh o = tt
  rows_distinct (Ends l) m b fresh o = (λ y h. none_in _ y h, tt)
  rows_distinct (Reads f bs) m b fresh o = rows_in_distinct bs f m b fresh.1 o
  rows_distinct (Tests f v n y) m b fresh o =
      let c = b + with_barrier (levels_of n) in
      let own = map Barrier (barrier_behind (levels_of n) (fix f v m) b) in
      let high = rows_of y (fix f v m) c in
      let low = rows_of n m b in
      let at = λ (x : Row) (h : Contains own x). (own_row x (levels_of n) (fix f v m) b).0 h in
      let above = λ (x : Row) (h : Contains high x). within x y (fix f v m) c ((listed x y (fix f v m) c).0 h) in
      let below = λ (x : Row) (h : Contains low x). within x n m b ((listed x n m b).0 h) in
      distinct_append high (own ++ low) (rows_distinct y (fix f v m) c fresh.2 o.1)
      (distinct_append own low (alone (levels_of n)) (rows_distinct n m b fresh.1 o.0)
      (λ x z i j. let e = at x i in let p = ap (λ w. (rule_of w).priority) e.1 in let w = below z j in let g = barrier_above (levels_of n) e.0 in by_level (rule_of x) (rule_of z) (omega (arith, p, w.1, g))))
      (λ x z i j.
      let u = above x i in
      by_level (rule_of x) (rule_of z) (⊎_elim (λ d. let e = at z d in let p = ap (λ w. (rule_of w).priority) e.1 in omega (arith, p, u.0)) (λ d. let w = below z d in let g = barrier_least (levels_of n) in omega (arith, u.0, w.1, g)) (Contains-append_cases own low z j)))
    where
      alone : (l : ℕ) → Distinct (map Barrier (barrier_behind l (fix f v m) b))
      alone zero = tt
      alone (suc l) = (λ z h. none_in _ z h, tt)

  rows_in_distinct : (bs : Branches) (f : Field) (m : Match) (b : ℕ) → AreFresh bs f m → AreOrdered bs → Distinct (rows_in bs f m b)
  rows_in_distinct NoBranch f m b fresh o = tt
  rows_in_distinct (Branch v t bs) f m b fresh o =
      distinct_append (rows_of t (fix f v m) b) (rows_in bs f m b) (rows_distinct t (fix f v m) b fresh.0 o.1) (rows_in_distinct bs f m b fresh.1 o.2)
      (λ x z i j. by_value f v (rule_of x) (rule_of z) (row_has x f v t m b fresh.0 ((listed x t (fix f v m) b).0 i)) (in_above z bs v f m b o.0 fresh.1 ((listed_in z bs f m b).0 j)))

-- two rules agree in match and priority
abbrev agree : Rule → Rule → Bool
agree r q = is_at r.of r.priority q

agree_turned : (r q : Rule) → agree r q ≡ true → agree q r ≡ true
agree_turned r q h = let s = at_is r.of r.priority q h in at_of q.of q.priority r (sym s.0) (sym s.1)

agree_flips : (r q : Rule) → agree r q ≡ agree q r
agree_flips r q =
    ⊎_elim (λ h. h ∙ sym (agree_turned r q h)) (λ h. ⊎_elim (λ i. agree_turned q r i ∙ sym i) (λ i. h ∙ sym i) (cases_Bool (agree q r))) (cases_Bool (agree r q))

differ_apart : (r q : Rule) → Differ r q → agree r q ≡ false
differ_apart r q d = ⊎_elim (λ h. let s = at_is r.of r.priority q h in absurd (d (sym s.0) (sym s.1))) (λ h. h) (cases_Bool (agree r q))

all_apart : (r : Rule) (xs : List Row) → ((y : Row) → Contains xs y → Differ r (rule_of y)) → AllByRecursion (λ q. agree r q ≡ false) (map rule_of xs)
all_apart r [] h = tt
all_apart r (x ∷ xs) h = (differ_apart r (rule_of x) (h x (0, omega arith, refl)), all_apart r xs (λ y c. h y (Contains-append_right (x ∷ []) xs y c)))

distinct_rules : (xs : List Row) → Distinct xs → IsDistinct agree (map rule_of xs)
unfolding IsDistinct
distinct_rules [] h = tt
distinct_rules (x ∷ xs) h = IsDistinct-cons agree (rule_of x) (map rule_of xs) (all_apart (rule_of x) xs h.0) (distinct_rules xs h.1)

-- the facts and the barriers among some rows are their rules
both_kinds : (xs : List Row) → IsPermutation (map rule_of xs) (filter_map fact_of xs ++ filter_map barrier_of xs)
both_kinds [] = IsPermutation-refl []
both_kinds (Fact r ∷ xs) = IsPermutation-cons r _ _ (both_kinds xs)
both_kinds (Barrier r ∷ xs) =
    IsPermutation-trans _ _ _ (IsPermutation-cons r _ _ (both_kinds xs)) (IsPermutation-sym _ _ (IsPermutation-middle (filter_map fact_of xs) r (filter_map barrier_of xs)))

pub distinct_law : DistinctLaw
distinct_law traces table admitted once moves =
    let t = scratch traces in
    let rows = rows_of t anything 0 in
    let distinct = distinct_rules rows (rows_distinct t anything 0 (scratch_fresh traces admitted once) (grown_ordered traces Empty tt)) in
    let all = IsDistinct-IsPermutation agree agree_flips (map rule_of rows) table (IsPermutation-trans _ _ _ (both_kinds rows) moves) distinct in
    λ i j d lt lj e p. let r = get_or table i d in let f = sym (at_of r.of r.priority (get_or table j d) (sym e) (sym p)) ∙ apart_from_distinct agree table i j d all lt lj in absurd (cc)
