-- The changes that the look-ups choose are those of the batches, and the peaks that they count are those of the batches.
use Rattle.std.proofs.Common.{◌≡◌, ◌⊎◌, ℕ, ◌+◌, ◌-◌, ◌≤◌, Bool, true, false, List, [], ◌∷◌, length, refl, sym, ap, ◌∙◌, subst, inl, inr, ⊎_elim, arith}
use Rattle.std.specs.Prelude.{Contains, filter, map, not, ◌&&◌, nat_eq}
use Rattle.std.specs.List.{count_by}
use Rattle.std.specs.List.Sorted.{IsPermutation}
use lib.Pointwise.{pointwise}
use Rattle.std.specs.Cmp.Lexicographic.{same_text, nat_list_eq_equiv}
use Rattle.std.specs.Cmp.{both_ways}
use Rattle.std.proofs.lemmas.Bool.{cases_Bool, and_parts, and_from}
use Rattle.std.proofs.lemmas.List.Sorted.{IsPermutation-sym, Contains-permutation, length_permutation}
use Rattle.std.proofs.lemmas.List.Elements.{Contains-append_cases, Contains-append_left, Contains-append_right}
use Rattle.maple_base.specs.Ports.{controller_port}
use Rattle.maple_base.specs.declared.decision.Rule.{Rule}
use Rattle.maple_base.specs.declared.decision.TableMod.TheVariants.{Add}
use Rattle.maple_base.specs.RuleLists.{Rules}
use Rattle.maple_base.specs.Choice.{Differ}
use Rattle.flow_table.specs.Effects.{is_at, has_at, after}
use Rattle.flow_table.specs.Shielding.{IsBarrier}
use Rattle.update_plan.specs.Batches.{rules_of, no_rules, IsTarget, same_rule, has_rule, lacking, first_adds, first_deletes, second_adds, second_deletes, deletion, between, peak_one, peak_two}
use Rattle.update_plan.specs.Lookups.{is_in, is_barrier, barrier_at}
use Rattle.update_plan.proofs.Members.{any_in, in_any, none_any, same_any, pairs_filter, pairs_left}
use Rattle.update_plan.proofs.Distinct.{Agree, agree_at, at_agree, turned, one_of}
use Rattle.update_plan.proofs.During.{at_in, keeps_place}
use Rattle.update_plan.proofs.Shielded.{has_in, in_has, barriers_one, in_lacking, lacking_in, in_leaving, first_apart, second_apart, first_shields, between_during, done_first, between_rest}
use Rattle.update_plan.proofs.Safe.{adds_leave}
use Rattle.update_plan.proofs.Counted.{filter_on, count_on, after_append, length_adds, length_deletes}

-- an index of a list has its rules
module _ (X : Rules) (index : List Rule) (same : IsPermutation (rules_of X) index) where
  pub to_index : (r : Rule) → Contains (rules_of X) r → Contains index r
  to_index r c = Contains-permutation (rules_of X) index r same c

  pub from_index : (r : Rule) → Contains index r → Contains (rules_of X) r
  from_index r c = Contains-permutation index (rules_of X) r (IsPermutation-sym (rules_of X) index same) c

  pub in_is : (r : Rule) → is_in index r ≡ has_rule X r
  in_is r = same_any (same_rule r) index (rules_of X) from_index to_index

  pub at_is_at : (r : Rule) → has_at r.of r.priority index ≡ has_at r.of r.priority (rules_of X)
  at_is_at r = same_any (is_at r.of r.priority) index (rules_of X) from_index to_index

-- the test of barriers
pub sends : (r : Rule) → is_barrier r ≡ true → IsBarrier r
sends r h = same_text r.actions (controller_port ∷ []) (sym h)

pub sent : (r : Rule) → IsBarrier r → is_barrier r ≡ true
sent r e = ap (λ l. pointwise nat_eq l (controller_port ∷ [])) e ∙ nat_list_eq_equiv.refl (controller_port ∷ [])

-- a barrier of the list at the place of a rule
barrier_in : (index : List Rule) (r : Rule) → barrier_at index r ≡ true → (q : Rule) × Contains index q × Agree q r × IsBarrier q
barrier_in index r h = let t = any_in (λ q. is_at r.of r.priority q && is_barrier q) index h in let p = and_parts (is_at r.of r.priority t.0) (is_barrier t.0) t.2 in (t.0, t.1, at_agree r t.0 p.0, sends t.0 p.1)

in_barrier : (index : List Rule) (r q : Rule) → Contains index q → Agree q r → IsBarrier q → barrier_at index r ≡ true
in_barrier index r q c s e = in_any (λ x. is_at r.of r.priority x && is_barrier x) index q c (and_from _ _ (agree_at r q s) (sent q e))

both : (p : Bool) (x y : Bool) → (p ≡ false → x ≡ y) → (not p && x) ≡ (not p && y)
both true x y h = refl
both false x y h = h refl

module _ (capacity : ℕ) (A B : Rules) (a : IsTarget capacity A) (b : IsTarget capacity B) (from to : List Rule) (of_a : IsPermutation (rules_of A) from) (of_b : IsPermutation (rules_of B) to) where
  pub lacking_is : (rules : List Rule) → filter (λ r. not (is_in from r)) rules ≡ lacking A rules
  lacking_is rules = filter_on (λ r. not (is_in from r)) (λ r. not (has_rule A r)) rules (λ r c. ap not (in_is A from of_a r))

  -- a barrier of B takes the place of a stale fact of A just where it is added
  takes_fact : (r : Rule) → Contains A.facts r → has_rule B r ≡ false → barrier_at to r ≡ has_at r.of r.priority (first_adds A B)
  takes_fact r c out = both_ways (barrier_at to r) (has_at r.of r.priority (first_adds A B))
      (λ h. let t = barrier_in to r h in added t.0 (from_index B to of_b t.0 t.1) t.2 t.3)
      (λ h. let t = at_in r (first_adds A B) h in let l = in_lacking A B.barriers t.0 t.1 in in_barrier to r t.0 (to_index B to of_b t.0 (Contains-append_right B.facts B.barriers t.0 l.0)) t.2 (b.barrier t.0 l.0))
    where
      added : (q : Rule) → Contains (rules_of B) q → Agree q r → IsBarrier q → has_at r.of r.priority (first_adds A B) ≡ true
      added q d s e = ⊎_elim (λ f. absurd (b.fact q f e))
          (λ f. ⊎_elim (λ g. absurd (a.fact r c (subst IsBarrier (one_of (rules_of A) q r a.distinct g (Contains-append_left A.facts A.barriers r c) s) e)))
          (λ g. in_any (is_at r.of r.priority) (first_adds A B) q g (agree_at r q s))
          (lacking_in A B.barriers q f))
          (Contains-append_cases B.facts B.barriers q d)

  pub stale_facts_is : filter (λ r. not (is_in to r) && not (barrier_at to r)) A.facts ≡ first_deletes A B
  stale_facts_is = filter_on (λ r. not (is_in to r) && not (barrier_at to r)) (λ r. not (has_rule B r) && not (has_at r.of r.priority (first_adds A B))) A.facts
      (λ r c. ap (λ p. not p && not (barrier_at to r)) (in_is B to of_b r) ∙ both (has_rule B r) (not (barrier_at to r)) (not (has_at r.of r.priority (first_adds A B))) (λ e. ap not (takes_fact r c e)))

  -- a rule of B takes the place of a barrier of A: it is that barrier, or a fact
  takes_barrier : (r : Rule) → Contains A.barriers r → not (has_at r.of r.priority to) ≡ (not (has_rule B r) && not (has_at r.of r.priority B.facts))
  takes_barrier r c = both_ways (not (has_at r.of r.priority to)) (not (has_rule B r) && not (has_at r.of r.priority B.facts))
      (λ h. let none = not_true (has_at r.of r.priority to) h in and_from _ _ (⊎_elim (λ e. absurd (clash none (to_index B to of_b r (has_in B r e)))) (λ e. ap not e) (cases_Bool (has_rule B r)))
      (⊎_elim (λ e. absurd (let t = at_in r B.facts e in clash_at none t.0 (Contains-append_left B.facts B.barriers t.0 t.1) t.2)) (λ e. ap not e) (cases_Bool (has_at r.of r.priority B.facts))))
      (λ h. let p = and_parts (not (has_rule B r)) (not (has_at r.of r.priority B.facts)) h in ap not (none_any (is_at r.of r.priority) to (λ q d e. kind q (at_agree r q e) (not_true _ p.0) (not_true _ p.1) (Contains-append_cases B.facts B.barriers q (from_index B to of_b q d)))))
    where
      not_true : (x : Bool) → not x ≡ true → x ≡ false
      not_true true h = absurd (cc)
      not_true false h = refl

      clash : has_at r.of r.priority to ≡ false → Contains to r → ⊥
      clash none d = let e = in_any (is_at r.of r.priority) to r d (agree_at r r (refl, refl)) in cc

      clash_at : has_at r.of r.priority to ≡ false → (q : Rule) → Contains (rules_of B) q → Agree q r → ⊥
      clash_at none q d s = let e = in_any (is_at r.of r.priority) to q (to_index B to of_b q d) (agree_at r q s) in cc

      kind : (q : Rule) → Agree q r → has_rule B r ≡ false → has_at r.of r.priority B.facts ≡ false → Contains B.facts q ⊎ Contains B.barriers q → ⊥
      kind q s out free (inl d) = let e = in_any (is_at r.of r.priority) B.facts q d (agree_at r q s) in cc
      kind q s out free (inr d) = let e = in_has B r (subst (Contains (rules_of B)) (sym (barriers_one capacity A B a b r q c d (turned q r s))) (Contains-append_right B.facts B.barriers q d)) in cc

  pub stale_barriers_is : filter (λ r. not (has_at r.of r.priority to)) A.barriers ≡ second_deletes A B
  stale_barriers_is = filter_on (λ r. not (has_at r.of r.priority to)) (λ r. not (has_rule B r) && not (has_at r.of r.priority B.facts)) A.barriers takes_barrier

  -- the first peak
  pub peak_one_is : length from + count_by (λ r. not (has_at r.of r.priority from)) (first_adds A B) ≡ peak_one A B
  peak_one_is =
      let n = length_adds (first_adds A B) (rules_of A) (first_apart capacity A B a b).distinct a.distinct in
      let m = length_permutation (rules_of A) from of_a in
      let k = count_on (λ r. not (has_at r.of r.priority from)) (λ r. not (has_at r.of r.priority (rules_of A))) (first_adds A B) (λ r c. ap not (at_is_at A from of_a r)) in
      omega (arith, n, m, k)

  -- the deletions of the first batch each take a rule
  deletes_take : length (between A B) + length (first_deletes A B) ≡ peak_one A B
  deletes_take =
      let whole = adds_leave (rules_of A) (first_adds A B) a.distinct (first_apart capacity A B a b).distinct in
      let n = length_deletes (first_deletes A B) (after (map Add (first_adds A B)) (rules_of A)) (pairs_filter Differ (λ r. not (has_rule B r) && not (has_at r.of r.priority (first_adds A B))) A.facts (pairs_left Differ A.facts A.barriers a.distinct)) whole.distinct
      (λ r c. let t = keeps_place (first_adds A B) (rules_of A) r (Contains-append_left A.facts A.barriers r (in_leaving B (first_adds A B) A.facts r c).there) in in_any (is_at r.of r.priority) (after (map Add (first_adds A B)) (rules_of A)) t.0 t.1 (agree_at r t.0 t.2)) in
      let m = ap length (after_append (map Add (first_adds A B)) (map deletion (first_deletes A B)) (rules_of A)) in
      omega (arith, n, m)

  -- a new fact finds a rule at its place just where a barrier of A is there
  finds_barrier : (r : Rule) → Contains (second_adds A B) r → barrier_at from r ≡ has_at r.of r.priority (between A B)
  finds_barrier r c = both_ways (barrier_at from r) (has_at r.of r.priority (between A B))
      (λ h. let t = barrier_in from r h in stays t.0 t.2 t.3 (Contains-append_cases A.facts A.barriers t.0 (from_index A from of_a t.0 t.1)))
      (λ h. let t = at_in r (between A B) h in kind t.0 t.2 (between_rest capacity A B a b t.0 t.1))
    where
      fresh : Contains B.facts r × (Contains (rules_of A) r → ⊥)
      fresh = in_lacking A B.facts r c

      stays : (q : Rule) → Agree q r → IsBarrier q → Contains A.facts q ⊎ Contains A.barriers q → has_at r.of r.priority (between A B) ≡ true
      stays q s e (inl d) = absurd (a.fact q d e)
      stays q s e (inr d) = in_any (is_at r.of r.priority) (between A B) q ((first_shields capacity A B a b (done_first capacity A B a b) (between A B) (between_during capacity A B a b)).barriers q d) (agree_at r q s)

      kind : (q : Rule) → Agree q r → (Contains A.barriers q ⊎ Contains B.barriers q) ⊎ (Contains A.facts q × Contains B.facts q) → barrier_at from r ≡ true
      kind q s (inl (inl d)) = in_barrier from r q (to_index A from of_a q (Contains-append_right A.facts A.barriers q d)) s (a.barrier q d)
      kind q s (inl (inr d)) = absurd (b.fact r fresh.0 (subst IsBarrier (one_of (rules_of B) q r b.distinct (Contains-append_right B.facts B.barriers q d) (Contains-append_left B.facts B.barriers r fresh.0) s) (b.barrier q d)))
      kind q s (inr d) = absurd (fresh.1 (subst (Contains (rules_of A)) (one_of (rules_of B) q r b.distinct (Contains-append_left B.facts B.barriers q d.1) (Contains-append_left B.facts B.barriers r fresh.0) s) (Contains-append_left A.facts A.barriers q d.0)))

  pub few_deletes : length (first_deletes A B) ≤ peak_one A B
  few_deletes = let n = deletes_take in omega (arith, n)

  pub peak_two_is : (peak_one A B - length (first_deletes A B)) + count_by (λ r. not (barrier_at from r)) (second_adds A B) ≡ peak_two A B
  peak_two_is =
      let n = length_adds (second_adds A B) (between A B) (second_apart capacity A B a b).distinct (between_during capacity A B a b).distinct in
      let m = deletes_take in
      let k = count_on (λ r. not (barrier_at from r)) (λ r. not (has_at r.of r.priority (between A B))) (second_adds A B) (λ r c. ap not (finds_barrier r c)) in
      omega (arith, n, m, k)

-- the empty list lacks all rules
pub all_lacking : (rules : List Rule) → lacking no_rules rules ≡ rules
all_lacking [] = refl
all_lacking (r ∷ rules) = ap (λ l. r ∷ l) (all_lacking rules)
