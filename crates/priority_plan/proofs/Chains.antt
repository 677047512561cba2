-- The chain of a tree's rules.
use Rattle.std.proofs.Common.{◌≡◌, ℕ, zero, suc, ◌+◌, ◌<◌, ◌≤◌, false, cond, List, [], ◌∷◌, ◌++◌, length, refl, sym, ap, ◌∙◌, subst, inl, inr, ⊎_elim, arith, length-append, append-nil}
use Rattle.std.specs.Prelude.{max, ◌==◌, reverse, Contains}
use Rattle.std.proofs.lemmas.List.{reverse-append}
use Rattle.std.proofs.lemmas.Bool.{cases_Bool, cases_lt, eqb-true, eq-eqb}
use Rattle.std.proofs.lemmas.List.Elements.{Contains-append_cases, Contains-append_right}
use Rattle.maple_base.specs.declared.key.Field.{Field}
use Rattle.maple_base.specs.declared.key.Match.{Match}
use Rattle.maple_base.specs.declared.decision.Rule.{Rule}
use Rattle.maple_base.specs.Keys.{fix, anything}
use Rattle.trace_tree.specs.Shape.{Shape, Branches, Empty, Ends, Reads, Tests, NoBranch, Branch}
use Rattle.priority_plan.specs.declared.rows.Row.{Row}
use Rattle.priority_plan.specs.declared.rows.Row.TheVariants.{Fact, Barrier}
use Rattle.priority_plan.specs.Standing.{Stands, StandsIn}
use Rattle.priority_plan.specs.Rules.{with_barrier, levels_of, most_levels, fact, barrier, barrier_behind, rules_within, rules_of, StandsBelow, StandsBelowIn, MustStandBelow}
use Rattle.priority_plan.specs.Chains.{EachBelowNext, LeastLevels}
use Rattle.priority_plan.specs.Highest.{chain_of, chain_in}
use Rattle.priority_plan.proofs.Spans.{none_in, the_one}
use Rattle.priority_plan.proofs.Listed.{IsOne, own_stands, stands_rule}

-- either this child or a later one has the most levels
picked : (P : List Rule → Type 0) (n most : ℕ) (here later : List Rule) → ((n ≡ most) → P here) → (((n == most) ≡ false) → P later) → P (cond (n == most) here later)
picked P n most here later own rest =
    ⊎_elim (λ e. subst (λ b. P (cond b here later)) (sym e) (own (eqb-true n most e)))
    (λ e. subst (λ b. P (cond b here later)) (sym e) (rest e))
    (cases_Bool (n == most))

behind_long : (n : ℕ) (m : Match) (b : ℕ) → n + length (barrier_behind n m b) ≡ with_barrier n
behind_long zero m b = refl
behind_long (suc n) m b = refl

not_same : (n most : ℕ) → n ≡ most → (n == most) ≡ false → ⊥
not_same n most e ne = cc (eq-eqb n most e, ne)

other : (n k most : ℕ) → most ≡ max n k → (n == most) ≡ false → most ≡ k
other n k most e ne = ⊎_elim (λ lt. omega (arith, lt, e)) (λ le. absurd (not_same n most (omega (arith, le, e)) ne)) (cases_lt n k)

mutual
  pub chain_long : (t : Shape) (m : Match) (b : ℕ) → length (chain_of t m b) ≡ levels_of t
  chain_long Empty m b = refl
  chain_long (Ends l) m b = refl
  chain_long (Reads f bs) m b = chain_in_long bs (most_levels bs) f m b refl
  chain_long (Tests f v n y) m b =
      let c = b + with_barrier (levels_of n) in
      let p = chain_long n m b in
      let q = chain_long y (fix f v m) c in
      let r = behind_long (levels_of n) (fix f v m) b in
      simp length-append (omega (arith, p, q, r))

  chain_in_long : (bs : Branches) (most : ℕ) (f : Field) (m : Match) (b : ℕ) → most ≡ most_levels bs → length (chain_in bs most f m b) ≡ most
  chain_in_long NoBranch most f m b e = sym e
  chain_in_long (Branch v t bs) most f m b e =
      picked (λ l. length l ≡ most) (levels_of t) most (chain_of t (fix f v m) b) (chain_in bs most f m b)
      (λ own. chain_long t (fix f v m) b ∙ own)
      (λ rest. chain_in_long bs most f m b (other (levels_of t) (most_levels bs) most e rest))

wider : (S T : Row → Type 0) (r : Rule) → ((x : Row) → S x → T x) → IsOne S r → IsOne T r
wider S T r h s = record { row = s.row; stands = h s.row s.stands; is = s.is }

mutual
  chain_stands : (t : Shape) (m : Match) (b : ℕ) (r : Rule) → Contains (chain_of t m b) r → IsOne (λ x. Stands x t m b) r
  chain_stands Empty m b r h = none_in _ r h
  chain_stands (Ends l) m b r h = record { row = Fact (fact l m b); stands = refl; is = the_one (fact l m b) r h }
  chain_stands (Reads f bs) m b r h = chain_in_stands bs (most_levels bs) f m b r h
  chain_stands (Tests f v n y) m b r h =
      let c = b + with_barrier (levels_of n) in
      let bar = barrier_behind (levels_of n) (fix f v m) b in
      ⊎_elim (λ d. wider _ _ r (λ x s. inl s) (chain_stands y (fix f v m) c r d))
      (λ d. ⊎_elim (λ e. record { row = Barrier r; stands = inr (inl (own_stands r (levels_of n) (fix f v m) b e)); is = refl }) (λ e. wider _ _ r (λ x s. inr (inr s)) (chain_stands n m b r e)) (Contains-append_cases bar _ r d))
      (Contains-append_cases (chain_of y (fix f v m) c) _ r h)

  chain_in_stands : (bs : Branches) (most : ℕ) (f : Field) (m : Match) (b : ℕ) (r : Rule) → Contains (chain_in bs most f m b) r → IsOne (λ x. StandsIn x bs f m b) r
  chain_in_stands NoBranch most f m b r h = none_in _ r h
  chain_in_stands (Branch v t bs) most f m b r h =
      picked (λ l. Contains l r → IsOne (λ x. StandsIn x (Branch v t bs) f m b) r) (levels_of t) most (chain_of t (fix f v m) b) (chain_in bs most f m b)
      (λ own d. wider _ _ r (λ x s. inl s) (chain_stands t (fix f v m) b r d)) (λ rest d. wider _ _ r (λ x s. inr s) (chain_in_stands bs most f m b r d)) h

pub chain_within : (t : Shape) (m : Match) (b : ℕ) (r : Rule) → Contains (chain_of t m b) r → Contains (rules_within t m b) r
chain_within t m b r h = let s = chain_stands t m b r h in subst (Contains (rules_within t m b)) s.is (stands_rule s.row t m b s.stands)

each_map : (R S : Rule → Rule → Type 0) → ((r q : Rule) → R r q → S r q) → (rs : List Rule) → EachBelowNext R rs → EachBelowNext S rs
each_map R S f [] h = tt
each_map R S f (r ∷ []) h = tt
each_map R S f (r ∷ q ∷ rs) h = (f r q h.0, each_map R S f (q ∷ rs) h.1)

-- what must stand above a rule, the rule, and what must stand below it
each_through : (R : Rule → Rule → Type 0) (x : Rule) (rs qs : List Rule) → EachBelowNext R rs → EachBelowNext R qs → ((r : Rule) → Contains rs r → R r x) → ((q : Rule) → Contains qs q → R x q) → EachBelowNext R (rs ++ (x ∷ qs))
each_through R x [] [] a c above below = tt
each_through R x [] (q ∷ qs) a c above below = (below q (0, omega arith, refl), c)
each_through R x (r ∷ []) qs a c above below = (above r (0, omega arith, refl), each_through R x [] qs tt c (λ s h. none_in _ s h) below)
each_through R x (r ∷ s ∷ rs) qs a c above below = (a.0, each_through R x (s ∷ rs) qs a.1 c (λ u h. above u (Contains-append_right (r ∷ []) (s ∷ rs) u h)) below)

append-none : (rs : List Rule) (n : ℕ) → n ≡ 0 → length rs ≡ n → rs ≡ []
append-none [] n z e = refl
append-none (r ∷ rs) n z e = absurd (omega (arith, z, e))

-- at a test: with a barrier where the false side has a level, else the true side's alone
at_test : (R : Rule → Rule → Type 0) (n : ℕ) (m : Match) (b : ℕ) (rs qs : List Rule) → length qs ≡ n → EachBelowNext R rs → EachBelowNext R qs →
    ((r x : Rule) → Contains rs r → Contains (barrier_behind n m b) x → R r x) → ((x q : Rule) → Contains (barrier_behind n m b) x → Contains qs q → R x q) → EachBelowNext R (rs ++ (barrier_behind n m b ++ qs))
at_test R zero m b rs qs e a c above below = subst (EachBelowNext R) (sym (ap (λ x. rs ++ x) (append-none qs 0 refl e) ∙ append-nil rs)) a
at_test R (suc n) m b rs qs e a c above below =
    let x = barrier m (b + with_barrier (suc n)) in
    each_through R x rs qs a c (λ r h. above r x h (0, omega arith, refl)) (λ q h. below x q (0, omega arith, refl) h)

-- q must stand below r
abbrev Over : (Rule → Rule → Type 0) → Rule → Rule → Type 0
Over R r q = R q r

mutual
  chain_over : (t : Shape) (m : Match) (b : ℕ) → EachBelowNext (Over (StandsBelow t m b)) (chain_of t m b)
  chain_over Empty m b = tt
  chain_over (Ends l) m b = tt
  chain_over (Reads f bs) m b = chain_in_over bs (most_levels bs) f m b
  chain_over (Tests f v n y) m b =
      let c = b + with_barrier (levels_of n) in
      at_test (Over (StandsBelow (Tests f v n y) m b)) (levels_of n) (fix f v m) b (chain_of y (fix f v m) c) (chain_of n m b) (chain_long n m b)
      (each_map _ _ (λ r q h. inr (inr h)) _ (chain_over y (fix f v m) c))
      (each_map _ _ (λ r q h. inr (inl h)) _ (chain_over n m b))
      (λ r x h i. inl (inr (i, chain_within y (fix f v m) c r h)))
      (λ x q i h. inl (inl (chain_within n m b q h, i)))

  chain_in_over : (bs : Branches) (most : ℕ) (f : Field) (m : Match) (b : ℕ) → EachBelowNext (Over (StandsBelowIn bs f m b)) (chain_in bs most f m b)
  chain_in_over NoBranch most f m b = tt
  chain_in_over (Branch v t bs) most f m b =
      picked (EachBelowNext (Over (StandsBelowIn (Branch v t bs) f m b))) (levels_of t) most (chain_of t (fix f v m) b) (chain_in bs most f m b)
      (λ own. each_map _ _ (λ r q h. inl h) _ (chain_over t (fix f v m) b))
      (λ rest. each_map _ _ (λ r q h. inr h) _ (chain_in_over bs most f m b))

each_push : (R : Rule → Rule → Type 0) (rs : List Rule) (q x : Rule) → EachBelowNext R (rs ++ q ∷ []) → R q x → EachBelowNext R ((rs ++ q ∷ []) ++ x ∷ [])
each_push R [] q x a h = (h, tt)
each_push R (r ∷ []) q x a h = (a.0, (h, tt))
each_push R (r ∷ s ∷ rs) q x a h = (a.0, each_push R (s ∷ rs) q x a.1 h)

-- the other way round, the lowest first
each_turned : (R : Rule → Rule → Type 0) (rs : List Rule) → EachBelowNext (Over R) rs → EachBelowNext R (reverse rs)
each_turned R [] h = tt
each_turned R (r ∷ []) h = tt
each_turned R (r ∷ q ∷ rs) h =
    let e = reverse-append (q ∷ []) rs in
    subst (EachBelowNext R) (sym (reverse-append (r ∷ []) (q ∷ rs) ∙ ap (λ x. x ++ r ∷ []) e)) (each_push R (reverse rs) q r (subst (EachBelowNext R) e (each_turned R (q ∷ rs) h.1)) h.0)

pub chain_below : (t : Shape) (m : Match) (b : ℕ) → EachBelowNext (StandsBelow t m b) (reverse (chain_of t m b))
chain_below t m b = each_turned (StandsBelow t m b) (chain_of t m b) (chain_over t m b)

-- down a chain the numbers fall, so the first is not below the length
falls : (R : Rule → Rule → Type 0) (number : Rule → ℕ) → ((r q : Rule) → R r q → number r < number q) → (r : Rule) (rs : List Rule) → ((q : Rule) → Contains (r ∷ rs) q → 1 ≤ number q) → EachBelowNext (Over R) (r ∷ rs) → length (r ∷ rs) ≤ number r
falls R number rises r [] from each = from r (0, omega arith, refl)
falls R number rises r (q ∷ rs) from each =
    let up = rises q r each.0 in
    let rest = falls R number rises q rs (λ s h. from s (Contains-append_right (r ∷ []) (q ∷ rs) s h)) each.1 in
    omega (arith, up, rest)

pub least_levels : LeastLevels
least_levels t number keeps some = first (chain_of t anything 0) (chain_long t anything 0) (λ r h. chain_within t anything 0 r h) (chain_over t anything 0)
  where
    first : (rs : List Rule) → length rs ≡ levels_of t → ((r : Rule) → Contains rs r → Contains (rules_of t) r) → EachBelowNext (Over (MustStandBelow t)) rs → (r : Rule) × Contains (rules_of t) r × (levels_of t ≤ number r)
    first [] e there each = absurd (omega (arith, e, some))
    first (r ∷ rs) e there each =
        let high = falls (MustStandBelow t) number keeps.rises r rs (λ q h. keeps.from q (there q h)) each in
        (r, there r (0, omega arith, refl), omega (arith, e, high))
