-- The rules of a tree, counted.
use Rattle.std.proofs.Common.{◌≡◌, ℕ, zero, suc, ◌+◌, ◌≤◌, List, [], ◌∷◌, length, refl, ◌∙◌, arith, length-append}
use Rattle.std.specs.Prelude.{map, filter_map}
use Rattle.maple_base.specs.declared.key.Field.{Field}
use Rattle.maple_base.specs.declared.key.Match.{Match}
use Rattle.maple_base.specs.Keys.{fix, anything}
use Rattle.trace_tree.specs.Shape.{Shape, Branches, Empty, Ends, Reads, Tests, NoBranch, Branch}
use Rattle.priority_plan.specs.declared.rows.Row.{Row}
use Rattle.priority_plan.specs.declared.rows.Row.TheVariants.{Fact, Barrier}
use Rattle.priority_plan.specs.Rules.{with_barrier, levels_of, most_levels, barrier_behind, rows_of, rows_in, fact_of, barrier_of, facts_of, barriers_of, rules_needed}
use Rattle.priority_plan.specs.Counts.{count_of, count_in}

pub barrier_mono : (a b : ℕ) → a ≤ b → with_barrier a ≤ with_barrier b
barrier_mono zero b h = omega arith
barrier_mono (suc a) zero h = absurd (omega (arith, h))
barrier_mono (suc a) (suc b) h = omega (arith, h)

no_barrier : (n : ℕ) → n ≡ 0 → with_barrier n ≡ 0
no_barrier zero e = refl
no_barrier (suc n) e = absurd (omega (arith, e))

-- no more levels than rules, and rules only where there is a level
abbrev Agree : ℕ → ℕ → Type 0
Agree levels rules = (levels ≤ rules) × (levels ≡ 0 → rules ≡ 0)

agree_behind : (l c : ℕ) → Agree l c → Agree (with_barrier l) (with_barrier c)
agree_behind zero c a = (omega arith, λ e. no_barrier c (a.1 refl))
agree_behind (suc l) zero a = absurd (omega (arith, a.0))
agree_behind (suc l) (suc c) a = (omega (arith, a.0), λ e. absurd (omega (arith, e)))

mutual
  pub counted : (t : Shape) → Agree (levels_of t) (count_of t)
  counted Empty = (omega arith, λ e. refl)
  counted (Ends l) = (omega arith, λ e. absurd (omega (arith, e)))
  counted (Reads f bs) = counted_in bs
  counted (Tests f v n y) =
      let a = agree_behind (levels_of n) (count_of n) (counted n) in
      let b = counted y in
      (omega (arith, a.0, b.0), λ e. let c = a.1 (omega (arith, e)) in let d = b.1 (omega (arith, e)) in omega (arith, c, d))

  counted_in : (bs : Branches) → Agree (most_levels bs) (count_in bs)
  counted_in NoBranch = (omega arith, λ e. refl)
  counted_in (Branch v t bs) =
      let a = counted t in
      let b = counted_in bs in
      (omega (arith, a.0, b.0), λ e. let c = a.1 (omega (arith, e)) in let d = b.1 (omega (arith, e)) in omega (arith, c, d))

pub no_rules : (t : Shape) → levels_of t ≡ 0 → count_of t ≡ 0
no_rules t e = (counted t).1 e

pub levels_within : (t : Shape) → levels_of t ≤ count_of t
levels_within t = (counted t).0

behind_length : (l c : ℕ) (m : Match) (b : ℕ) → Agree l c → c + length (map Barrier (barrier_behind l m b)) ≡ with_barrier c
behind_length zero c m b a = let e = a.1 refl in let w = no_barrier c e in omega (arith, e, w)
behind_length (suc l) zero m b a = absurd (omega (arith, a.0))
behind_length (suc l) (suc c) m b a = omega arith

mutual
  pub rows_length : (t : Shape) (m : Match) (b : ℕ) → length (rows_of t m b) ≡ count_of t
  rows_length Empty m b = refl
  rows_length (Ends l) m b = refl
  rows_length (Reads f bs) m b = rows_length_in bs f m b
  rows_length (Tests f v n y) m b =
      let p = rows_length n m b in
      let q = rows_length y (fix f v m) (b + with_barrier (levels_of n)) in
      let r = behind_length (levels_of n) (count_of n) (fix f v m) b (counted n) in
      simp length-append (omega (arith, p, q, r))

  rows_length_in : (bs : Branches) (f : Field) (m : Match) (b : ℕ) → length (rows_in bs f m b) ≡ count_in bs
  rows_length_in NoBranch f m b = refl
  rows_length_in (Branch v t bs) f m b = let p = rows_length t (fix f v m) b in let q = rows_length_in bs f m b in simp length-append (omega (arith, p, q))

kinds_length : (xs : List Row) → length (filter_map fact_of xs) + length (filter_map barrier_of xs) ≡ length xs
kinds_length [] = refl
kinds_length (Fact r ∷ xs) = let h = kinds_length xs in omega (arith, h)
kinds_length (Barrier r ∷ xs) = let h = kinds_length xs in omega (arith, h)

pub needed_count : (t : Shape) → rules_needed t ≡ count_of t
needed_count t = length-append (facts_of t anything 0) (barriers_of t anything 0) ∙ kinds_length (rows_of t anything 0) ∙ rows_length t anything 0
