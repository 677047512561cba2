-- The rules that stand in a tree, and those of its lists.
use Rattle.std.proofs.Common.{◌≡◌, ◌⊎◌, ℕ, zero, suc, ◌+◌, ◌++◌, List, [], ◌∷◌, refl, ap, inl, inr, ⊎_elim, arith}
use Rattle.std.specs.Prelude.{◌↔◌, Contains, map, filter_map}
use Rattle.std.proofs.lemmas.List.Elements.{Contains-append_cases, Contains-append_left, Contains-append_right}
use Rattle.maple_base.specs.declared.key.Field.{Field}
use Rattle.maple_base.specs.declared.key.Match.{Match}
use Rattle.maple_base.specs.declared.decision.Rule.{Rule}
use Rattle.maple_base.specs.Keys.{fix}
use Rattle.trace_tree.specs.Shape.{Shape, Branches, Empty, Ends, Reads, Tests, NoBranch, Branch}
use Rattle.priority_plan.specs.declared.rows.Row.{Row}
use Rattle.priority_plan.specs.declared.rows.Row.TheVariants.{Fact, Barrier}
use Rattle.priority_plan.specs.Rules.{with_barrier, levels_of, fact, barrier, barrier_behind, rows_of, rows_in, fact_of, barrier_of, facts_of, barriers_of, rules_within}
use Rattle.priority_plan.specs.Standing.{rule_of, IsOwn, Stands, StandsIn}
use Rattle.priority_plan.proofs.Spans.{none_in, the_one}

pub own_row : (x : Row) (n : ℕ) (m : Match) (b : ℕ) → Contains (map Barrier (barrier_behind n m b)) x ↔ IsOwn x n m b
own_row x zero m b = (none_in _ x, λ h. absurd (omega (arith, h.0)))
own_row x (suc n) m b = (λ h. (omega arith, the_one (Barrier (barrier m (b + with_barrier (suc n)))) x h), λ h. (0, omega arith, h.1))

pub own_stands : (r : Rule) (n : ℕ) (m : Match) (b : ℕ) → Contains (barrier_behind n m b) r → IsOwn (Barrier r) n m b
own_stands r zero m b h = none_in _ r h
own_stands r (suc n) m b h = (omega arith, ap Barrier (the_one (barrier m (b + with_barrier (suc n))) r h))

-- one of two lists contains it
in_either : (xs ys : List Row) (x : Row) (A B : Type 0) → (Contains xs x ↔ A) → (Contains ys x ↔ B) → (Contains (xs ++ ys) x ↔ (A ⊎ B))
in_either xs ys x A B a b = (
  λ c. ⊎_elim (λ d. inl (a.0 d)) (λ d. inr (b.0 d)) (Contains-append_cases xs ys x c),
  λ s. ⊎_elim (λ d. Contains-append_left xs ys x (a.1 d)) (λ d. Contains-append_right xs ys x (b.1 d)) s,
)

mutual
  pub listed : (x : Row) (t : Shape) (m : Match) (b : ℕ) → Contains (rows_of t m b) x ↔ Stands x t m b
  listed x Empty m b = (none_in _ x, λ h. absurd h)
  listed x (Ends l) m b = (the_one (Fact (fact l m b)) x, λ h. (0, omega arith, h))
  listed x (Reads f bs) m b = listed_in x bs f m b
  listed x (Tests f v n y) m b =
      in_either _ _ x _ _ (listed x y (fix f v m) (b + with_barrier (levels_of n))) (in_either _ _ x _ _ (own_row x (levels_of n) (fix f v m) b) (listed x n m b))

  pub listed_in : (x : Row) (bs : Branches) (f : Field) (m : Match) (b : ℕ) → Contains (rows_in bs f m b) x ↔ StandsIn x bs f m b
  listed_in x NoBranch f m b = (none_in _ x, λ h. absurd h)
  listed_in x (Branch v t bs) f m b = in_either _ _ x _ _ (listed x t (fix f v m) b) (listed_in x bs f m b)

-- the facts and the barriers among some rows
fact_among : (xs : List Row) (r : Rule) → Contains (filter_map fact_of xs) r → Contains xs (Fact r)
fact_among [] r c = none_in _ r c
fact_among (Fact q ∷ xs) r c = ⊎_elim (λ d. (0, omega arith, ap Fact (the_one q r d))) (λ d. Contains-append_right (Fact q ∷ []) xs _ (fact_among xs r d)) (Contains-append_cases (q ∷ []) _ r c)
fact_among (Barrier q ∷ xs) r c = Contains-append_right (Barrier q ∷ []) xs _ (fact_among xs r c)

among_facts : (xs : List Row) (r : Rule) → Contains xs (Fact r) → Contains (filter_map fact_of xs) r
among_facts [] r c = none_in _ (Fact r) c
among_facts (Fact q ∷ xs) r c =
    ⊎_elim (λ d. let e = the_one (Fact q) (Fact r) d in (0, omega arith, cc)) (λ d. Contains-append_right (q ∷ []) _ r (among_facts xs r d)) (Contains-append_cases (Fact q ∷ []) xs (Fact r) c)
among_facts (Barrier q ∷ xs) r c = ⊎_elim (λ d. let e = the_one (Barrier q) (Fact r) d in absurd (cc)) (λ d. among_facts xs r d) (Contains-append_cases (Barrier q ∷ []) xs (Fact r) c)

barrier_among : (xs : List Row) (r : Rule) → Contains (filter_map barrier_of xs) r → Contains xs (Barrier r)
barrier_among [] r c = none_in _ r c
barrier_among (Barrier q ∷ xs) r c =
    ⊎_elim (λ d. (0, omega arith, ap Barrier (the_one q r d))) (λ d. Contains-append_right (Barrier q ∷ []) xs _ (barrier_among xs r d)) (Contains-append_cases (q ∷ []) _ r c)
barrier_among (Fact q ∷ xs) r c = Contains-append_right (Fact q ∷ []) xs _ (barrier_among xs r c)

among_barriers : (xs : List Row) (r : Rule) → Contains xs (Barrier r) → Contains (filter_map barrier_of xs) r
among_barriers [] r c = none_in _ (Barrier r) c
among_barriers (Barrier q ∷ xs) r c =
    ⊎_elim (λ d. let e = the_one (Barrier q) (Barrier r) d in (0, omega arith, cc)) (λ d. Contains-append_right (q ∷ []) _ r (among_barriers xs r d)) (Contains-append_cases (Barrier q ∷ []) xs (Barrier r) c)
among_barriers (Fact q ∷ xs) r c = ⊎_elim (λ d. let e = the_one (Fact q) (Barrier r) d in absurd (cc)) (λ d. among_barriers xs r d) (Contains-append_cases (Fact q ∷ []) xs (Barrier r) c)

module _ (r : Rule) (t : Shape) (m : Match) (b : ℕ) where
  pub fact_stands : Contains (facts_of t m b) r → Stands (Fact r) t m b
  fact_stands h = (listed (Fact r) t m b).0 (fact_among (rows_of t m b) r h)

  pub stands_fact : Stands (Fact r) t m b → Contains (facts_of t m b) r
  stands_fact h = among_facts (rows_of t m b) r ((listed (Fact r) t m b).1 h)

  pub barrier_stands : Contains (barriers_of t m b) r → Stands (Barrier r) t m b
  barrier_stands h = (listed (Barrier r) t m b).0 (barrier_among (rows_of t m b) r h)

  pub stands_barrier : Stands (Barrier r) t m b → Contains (barriers_of t m b) r
  stands_barrier h = among_barriers (rows_of t m b) r ((listed (Barrier r) t m b).1 h)

-- a rule is that of one of these rows
pub record IsOne (S : Row → Type 0) (r : Rule) : Type 0 where
  pub row : Row
  pub stands : S row
  pub is : rule_of row ≡ r

pub rule_stands : (r : Rule) (t : Shape) (m : Match) (b : ℕ) → Contains (rules_within t m b) r → IsOne (λ x. Stands x t m b) r
rule_stands r t m b h =
    ⊎_elim (λ c. record { row = Fact r; stands = fact_stands r t m b c; is = refl }) (λ c. record { row = Barrier r; stands = barrier_stands r t m b c; is = refl })
    (Contains-append_cases (facts_of t m b) _ r h)

pub stands_rule : (x : Row) (t : Shape) (m : Match) (b : ℕ) → Stands x t m b → Contains (rules_within t m b) (rule_of x)
stands_rule (Fact r) t m b h = Contains-append_left _ _ r (stands_fact r t m b h)
stands_rule (Barrier r) t m b h = Contains-append_right (facts_of t m b) _ r (stands_barrier r t m b h)
