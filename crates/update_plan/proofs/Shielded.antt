-- The batches from A to B keep the shield.
use Rattle.std.proofs.Common.{◌≡◌, ◌⊎◌, ℕ, Bool, true, false, List, [], ◌++◌, refl, sym, ap, ◌∙◌, subst, inl, inr, ⊎_elim, eqb-true, eq-eqb}
use Rattle.std.specs.Prelude.{Contains, not, ◌&&◌, ◌==◌, nat_eq}
use Rattle.std.specs.List.Sorted.{IsPermutation}
use lib.Pointwise.{pointwise}
use Rattle.std.specs.Cmp.Lexicographic.{same_text, nat_list_eq_equiv}
use Rattle.std.proofs.lemmas.Bool.{cases_Bool, and_parts, and_from}
use Rattle.std.proofs.lemmas.List.Sorted.{IsPermutation-refl}
use Rattle.std.proofs.lemmas.List.Elements.{Contains-append_cases, Contains-append_left, Contains-append_right}
use Rattle.maple_base.specs.declared.decision.Rule.{Rule}
use Rattle.maple_base.specs.declared.decision.TableMod.{TableMod}
use Rattle.maple_base.specs.RuleLists.{Rules}
use Rattle.maple_base.specs.Choice.{Differ}
use Rattle.flow_table.specs.Effects.{is_at, has_at}
use Rattle.flow_table.specs.Shielding.{IsBarrier, IsShieldedBy}
use Rattle.flow_table.proofs.Matches.{at_is}
use Rattle.update_plan.specs.Batches.{rules_of, IsTarget, same_rule, has_rule, lacking, leaving, first_adds, first_deletes, second_adds, second_deletes, first_batch, second_batch, between}
use Rattle.update_plan.specs.Laws.{AreFrom, InFirst, InSecond}
use Rattle.update_plan.proofs.Members.{in_filter, filter_in, any_in, in_any, pairs_filter, pairs_left, pairs_right}
use Rattle.update_plan.proofs.Distinct.{Agree, agree_at, turned, one_of, same_rules}
use Rattle.update_plan.proofs.During.{at_in, none_at, at_none, AreApart, during_begins, after_during, done_with, is_done, add_there, settled, one_end}

-- the test of whole rules tells whether they are equal
pub same_is : (r q : Rule) → same_rule r q ≡ true → q ≡ r
same_is r q h =
    let d = and_parts (is_at r.of r.priority q && pointwise nat_eq q.actions r.actions && q.cookie == r.cookie) (q.idle == r.idle) h in
    let c = and_parts (is_at r.of r.priority q && pointwise nat_eq q.actions r.actions) (q.cookie == r.cookie) d.0 in
    let b = and_parts (is_at r.of r.priority q) (pointwise nat_eq q.actions r.actions) c.0 in
    let a = at_is r.of r.priority q b.0 in
    let actions = same_text q.actions r.actions (sym b.1) in
    let cookie = eqb-true q.cookie r.cookie c.1 in
    let idle = eqb-true q.idle r.idle d.1 in
    λ i. record { of = a.0 i; priority = a.1 i; actions = actions i; cookie = cookie i; idle = idle i }

pub same_itself : (r : Rule) → same_rule r r ≡ true
same_itself r =
    and_from _ _ (and_from _ _ (and_from _ _ (agree_at r r (refl, refl)) (nat_list_eq_equiv.refl r.actions)) (eq-eqb r.cookie r.cookie refl)) (eq-eqb r.idle r.idle refl)

pub has_in : (X : Rules) (r : Rule) → has_rule X r ≡ true → Contains (rules_of X) r
has_in X r h = let t = any_in (same_rule r) (rules_of X) h in subst (Contains (rules_of X)) (same_is r t.0 t.2) t.1

pub in_has : (X : Rules) (r : Rule) → Contains (rules_of X) r → has_rule X r ≡ true
in_has X r c = in_any (same_rule r) (rules_of X) r c (same_itself r)

pub in_lacking : (X : Rules) (rules : List Rule) (r : Rule) → Contains (lacking X rules) r → Contains rules r × (Contains (rules_of X) r → ⊥)
in_lacking X rules r c = let t = in_filter (λ x. not (has_rule X x)) rules r c in (t.0, λ d. let e = ap not (in_has X r d) in let f = t.1 in absurd (cc))

pub lacking_in : (X : Rules) (rules : List Rule) (r : Rule) → Contains rules r → Contains (rules_of X) r ⊎ Contains (lacking X rules) r
lacking_in X rules r c = ⊎_elim (λ e. inl (has_in X r e)) (λ e. inr (filter_in (λ x. not (has_rule X x)) rules r c (ap not e))) (cases_Bool (has_rule X r))

pub record IsLeaving (X : Rules) (takers rules : List Rule) (r : Rule) : Type 0 where
  pub there : Contains rules r
  pub out : Contains (rules_of X) r → ⊥
  pub free : (q : Rule) → Contains takers q → Agree q r → ⊥

not_true : (b : Bool) → not b ≡ true → b ≡ false
not_true true h = absurd (cc)
not_true false h = refl

pub in_leaving : (X : Rules) (takers rules : List Rule) (r : Rule) → Contains (leaving X takers rules) r → IsLeaving X takers rules r
in_leaving X takers rules r c =
    let t = in_filter (λ x. not (has_rule X x) && not (has_at x.of x.priority takers)) rules r c in
    let s = and_parts (not (has_rule X r)) (not (has_at r.of r.priority takers)) t.1 in
    record { there = t.0; out = λ d. (let e = ap not (in_has X r d) in let f = s.0 in absurd (cc)); free = λ q d a. none_at r q takers (not_true _ s.1) d a }

pub leaving_in : (X : Rules) (takers rules : List Rule) (r : Rule) → Contains rules r → (Contains (rules_of X) r ⊎ ((q : Rule) × Contains takers q × Agree q r)) ⊎ Contains (leaving X takers rules) r
leaving_in X takers rules r c =
    ⊎_elim (λ e. inl (inl (has_in X r e)))
    (λ e. ⊎_elim (λ f. inl (inr (at_in r takers f)))
    (λ f. inr (filter_in (λ x. not (has_rule X x) && not (has_at x.of x.priority takers)) rules r c (and_from _ _ (ap not e) (ap not f))))
    (cases_Bool (has_at r.of r.priority takers)))
    (cases_Bool (has_rule X r))

-- barriers that agree in match and priority are one: all else of a barrier is fixed
one_barrier : (r q : Rule) → IsBarrier r → IsBarrier q → (r.cookie ≡ 0) × (r.idle ≡ 0) → (q.cookie ≡ 0) × (q.idle ≡ 0) → Agree r q → r ≡ q
one_barrier r q a b p s t =
    let actions = a ∙ sym b in
    let cookie = p.0 ∙ sym s.0 in
    let idle = p.1 ∙ sym s.1 in
    λ i. record { of = t.0 i; priority = t.1 i; actions = actions i; cookie = cookie i; idle = idle i }

fact_in : (X : Rules) (r : Rule) → Contains X.facts r → Contains (rules_of X) r
fact_in X r c = Contains-append_left X.facts X.barriers r c

barrier_in : (X : Rules) (r : Rule) → Contains X.barriers r → Contains (rules_of X) r
barrier_in X r c = Contains-append_right X.facts X.barriers r c

in_rules : (X : Rules) (r : Rule) → Contains (rules_of X) r → Contains X.facts r ⊎ Contains X.barriers r
in_rules X r c = Contains-append_cases X.facts X.barriers r c

module _ (capacity : ℕ) (A B : Rules) (a : IsTarget capacity A) (b : IsTarget capacity B) where
  -- two barriers of the lists at one match and priority
  pub barriers_one : (r q : Rule) → Contains A.barriers r → Contains B.barriers q → Agree r q → r ≡ q
  barriers_one r q c d s = one_barrier r q (a.barrier r c) (b.barrier q d) (a.plain r c) (b.plain q d) s

  facts_apart : (r q : Rule) → Contains A.facts r → Contains A.barriers q → Agree r q → ⊥
  facts_apart r q c d s = a.fact r c (subst IsBarrier (sym (one_of (rules_of A) r q a.distinct (fact_in A r c) (barrier_in A q d) s)) (a.barrier q d))

  facts_apart_too : (r q : Rule) → Contains B.facts r → Contains B.barriers q → Agree r q → ⊥
  facts_apart_too r q c d s = b.fact r c (subst IsBarrier (sym (one_of (rules_of B) r q b.distinct (fact_in B r c) (barrier_in B q d) s)) (b.barrier q d))

  -- a fact of one list is no barrier of the other
  fact_there : (r : Rule) → Contains A.facts r → Contains (rules_of B) r → Contains B.facts r
  fact_there r c d = ⊎_elim (λ e. e) (λ e. absurd (a.fact r c (b.barrier r e))) (in_rules B r d)

  fact_here : (r : Rule) → Contains B.facts r → Contains (rules_of A) r → Contains A.facts r
  fact_here r c d = ⊎_elim (λ e. e) (λ e. absurd (b.fact r c (a.barrier r e))) (in_rules A r d)

  barrier_here : (r : Rule) → Contains B.barriers r → Contains (rules_of A) r → Contains A.barriers r
  barrier_here r c d = ⊎_elim (λ e. absurd (a.fact r e (b.barrier r c))) (λ e. e) (in_rules A r d)

  pub first_apart : AreApart (first_adds A B) (first_deletes A B)
  first_apart = record {
    distinct = pairs_filter Differ (λ r. not (has_rule A r)) B.barriers (pairs_right Differ B.facts B.barriers b.distinct);
    parted = λ r q c d s. (in_leaving B (first_adds A B) A.facts r c).free q d s;
  }

  pub second_apart : AreApart (second_adds A B) (second_deletes A B)
  second_apart = record {
    distinct = pairs_filter Differ (λ r. not (has_rule A r)) B.facts (pairs_left Differ B.facts B.barriers b.distinct);
    parted = λ r q c d s. (in_leaving B B.facts A.barriers r c).free q (in_lacking A B.facts q d).0 s;
  }

  -- nothing of the first batch is at a barrier of A, or at a fact of both lists
  first_spares : (r : Rule) → Contains A.barriers r → has_at r.of r.priority (first_adds A B ++ first_deletes A B) ≡ false
  first_spares r c = at_none r (first_adds A B ++ first_deletes A B) (λ q d s. ⊎_elim
      (λ e. let t = in_lacking A B.barriers q e in t.1 (subst (Contains (rules_of A)) (barriers_one r q c t.0 (turned q r s)) (barrier_in A r c)))
      (λ e. facts_apart q r (in_leaving B (first_adds A B) A.facts q e).there c s)
      (Contains-append_cases (first_adds A B) (first_deletes A B) q d))

  first_spares_fact : (r : Rule) → Contains A.facts r → Contains B.facts r → has_at r.of r.priority (first_adds A B ++ first_deletes A B) ≡ false
  first_spares_fact r c f = at_none r (first_adds A B ++ first_deletes A B) (λ q d s. ⊎_elim
      (λ e. facts_apart_too r q f (in_lacking A B.barriers q e).0 (turned q r s))
      (λ e. let t = in_leaving B (first_adds A B) A.facts q e in t.out (subst (Contains (rules_of B)) (sym (one_of (rules_of A) q r a.distinct (fact_in A q t.there) (fact_in A r c) s)) (fact_in B r f)))
      (Contains-append_cases (first_adds A B) (first_deletes A B) q d))

  -- nor of the second at a barrier of B, or at a fact of both
  second_spares : (r : Rule) → Contains B.barriers r → has_at r.of r.priority (second_adds A B ++ second_deletes A B) ≡ false
  second_spares r c = at_none r (second_adds A B ++ second_deletes A B) (λ q d s. ⊎_elim
      (λ e. facts_apart_too q r (in_lacking A B.facts q e).0 c s)
      (λ e. let t = in_leaving B B.facts A.barriers q e in t.out (subst (Contains (rules_of B)) (sym (barriers_one q r t.there c s)) (barrier_in B r c)))
      (Contains-append_cases (second_adds A B) (second_deletes A B) q d))

  second_spares_fact : (r : Rule) → Contains A.facts r → Contains B.facts r → has_at r.of r.priority (second_adds A B ++ second_deletes A B) ≡ false
  second_spares_fact r c f = at_none r (second_adds A B ++ second_deletes A B) (λ q d s. ⊎_elim
      (λ e. let t = in_lacking A B.facts q e in t.1 (subst (Contains (rules_of A)) (sym (one_of (rules_of B) q r b.distinct (fact_in B q t.0) (fact_in B r f) s)) (fact_in A r c)))
      (λ e. facts_apart r q c (in_leaving B B.facts A.barriers q e).there (turned q r s))
      (Contains-append_cases (second_adds A B) (second_deletes A B) q d))

  pub first_shields : (done : List TableMod) (table : List Rule) → InFirst A B done table → IsShieldedBy A table
  first_shields done table h = record {
    barriers = λ r c. h.kept r (barrier_in A r c) (first_spares r c);
    rest = λ r c. ⊎_elim (λ d. ⊎_elim (λ e. inr e) (λ e. inl (a.barrier r e)) (in_rules A r d)) (λ d. inl (b.barrier r (in_lacking A B.barriers r d).0)) (h.came r c);
  }

  -- the whole first batch, in the order of the definition
  pub done_first : List TableMod
  done_first = done_with (rules_of A) (first_adds A B) (first_deletes A B) [] (first_batch A B)

  pub between_during : InFirst A B done_first (between A B)
  unfolding done_first
  between_during = after_during (rules_of A) (first_adds A B) (first_deletes A B) first_apart [] (first_batch A B) (rules_of A) (λ m c. c) (during_begins (rules_of A) (first_adds A B) (first_deletes A B) (rules_of A) a.distinct (IsPermutation-refl (rules_of A)))

  all_first : AreFrom done_first (first_batch A B)
  unfolding done_first
  all_first m c = is_done (rules_of A) (first_adds A B) (first_deletes A B) [] (first_batch A B) m c

  pub second_begins : (done : List TableMod) (table : List Rule) → AreFrom done (first_batch A B) → InFirst A B done table → InSecond A B [] table
  second_begins done table all h =
      during_begins (between A B) (second_adds A B) (second_deletes A B) table between_during.distinct (one_end (rules_of A) (first_adds A B) (first_deletes A B) done_first done (between A B) table all_first all between_during h)

  -- behind the first batch: all barriers of B, further barriers of A, and of facts those of both
  pub between_barrier : (r : Rule) → Contains B.barriers r → Contains (between A B) r
  between_barrier r c = ⊎_elim (λ d. between_during.kept r d (first_spares r (barrier_here r c d))) (λ d. add_there (rules_of A) (first_adds A B) (first_deletes A B) done_first (between A B) all_first between_during r d) (lacking_in A B.barriers r c)

  between_fact : (r : Rule) → Contains A.facts r → Contains B.facts r → Contains (between A B) r
  between_fact r c f = between_during.kept r (fact_in A r c) (first_spares_fact r c f)

  abbrev pub Sort : Rule → Type 0
  Sort r = (Contains A.barriers r ⊎ Contains B.barriers r) ⊎ (Contains A.facts r × Contains B.facts r)

  pub between_rest : (r : Rule) → Contains (between A B) r → Sort r
  between_rest r c = ⊎_elim (λ d. inl (inr (in_lacking A B.barriers r d).0)) (λ d. ⊎_elim (λ e. fact d.1 e (leaving_in B (first_adds A B) A.facts r e)) (λ e. inl (inl e)) (in_rules A r d.0))
      (settled (rules_of A) (first_adds A B) (first_deletes A B) done_first (between A B) all_first between_during r c)
    where
      fact : has_at r.of r.priority (first_adds A B ++ first_deletes A B) ≡ false → Contains A.facts r
          → (Contains (rules_of B) r ⊎ ((q : Rule) × Contains (first_adds A B) q × Agree q r)) ⊎ Contains (first_deletes A B) r → (Contains A.barriers r ⊎ Contains B.barriers r) ⊎ (Contains A.facts r × Contains B.facts r)
      fact e f (inl (inl d)) = inr (f, fact_there r f d)
      fact e f (inl (inr t)) = absurd (none_at r t.0 (first_adds A B ++ first_deletes A B) e (Contains-append_left (first_adds A B) (first_deletes A B) t.0 t.1) t.2)
      fact e f (inr d) = absurd (none_at r r (first_adds A B ++ first_deletes A B) e (Contains-append_right (first_adds A B) (first_deletes A B) r d) (refl, refl))

  pub second_shields : (done : List TableMod) (table : List Rule) → InSecond A B done table → IsShieldedBy B table
  second_shields done table h = record {
    barriers = λ r c. h.kept r (between_barrier r c) (second_spares r c);
    rest = λ r c. ⊎_elim (λ d. kind r (between_rest r d)) (λ d. inr (in_lacking A B.facts r d).0) (h.came r c);
  }
    where
      kind : (r : Rule) → (Contains A.barriers r ⊎ Contains B.barriers r) ⊎ (Contains A.facts r × Contains B.facts r) → IsBarrier r ⊎ Contains B.facts r
      kind r (inl (inl c)) = inl (a.barrier r c)
      kind r (inl (inr c)) = inl (b.barrier r c)
      kind r (inr c) = inr c.1

  -- behind both batches: the rules of B
  module _ (done : List TableMod) (table : List Rule) (all : AreFrom done (second_batch A B)) (h : InSecond A B done table) where
    end_fact : (r : Rule) → Contains B.facts r → Contains table r
    end_fact r c = ⊎_elim (λ d. let f = fact_here r c d in h.kept r (between_fact r f c) (second_spares_fact r f c)) (λ d. add_there (between A B) (second_adds A B) (second_deletes A B) done table all h r d) (lacking_in A B.facts r c)

    end_there : (r : Rule) → Contains (rules_of B) r → Contains table r
    end_there r c = ⊎_elim (λ d. end_fact r d) (λ d. (second_shields done table h).barriers r d) (in_rules B r c)

    end_only : (r : Rule) → Contains table r → Contains (rules_of B) r
    end_only r c = ⊎_elim (λ d. fact_in B r (in_lacking A B.facts r d).0) (λ d. kind d.1 (between_rest r d.0)) (settled (between A B) (second_adds A B) (second_deletes A B) done table all h r c)
      where
        kind : has_at r.of r.priority (second_adds A B ++ second_deletes A B) ≡ false → (Contains A.barriers r ⊎ Contains B.barriers r) ⊎ (Contains A.facts r × Contains B.facts r) → Contains (rules_of B) r
        kind e (inr d) = fact_in B r d.1
        kind e (inl (inr d)) = barrier_in B r d
        kind e (inl (inl d)) = barrier (leaving_in B B.facts A.barriers r d)
          where
            barrier : (Contains (rules_of B) r ⊎ ((q : Rule) × Contains B.facts q × Agree q r)) ⊎ Contains (second_deletes A B) r → Contains (rules_of B) r
            barrier (inl (inl g)) = g
            barrier (inl (inr t)) = subst (Contains (rules_of B)) (one_of table t.0 r h.distinct (end_fact t.0 t.1) c t.2) (fact_in B t.0 t.1)
            barrier (inr g) = absurd (none_at r r (second_adds A B ++ second_deletes A B) e (Contains-append_right (second_adds A B) (second_deletes A B) r g) (refl, refl))

    pub second_ends : IsPermutation (rules_of B) table
    second_ends = same_rules (rules_of B) table b.distinct h.distinct end_there end_only
