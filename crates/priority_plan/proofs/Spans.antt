-- Where the rules of a tree stand.
use Rattle.std.proofs.Common.{◌≡◌, ℕ, zero, suc, ◌+◌, ◌<◌, ◌≤◌, [], ◌∷◌, refl, ap, inl, inr, ⊎_elim, arith}
use Rattle.std.specs.Prelude.{Contains}
use Rattle.std.proofs.lemmas.List.Elements.{Contains-push_cases}
use Rattle.maple_base.specs.declared.key.Field.{Field}
use Rattle.maple_base.specs.declared.key.Match.{Match}
use Rattle.maple_base.specs.declared.decision.Rule.{Rule}
use Rattle.trace_tree.specs.Shape.{Shape, Branches, Empty, Ends, Reads, Tests, NoBranch, Branch}
use Rattle.maple_base.specs.Keys.{fix}
use Rattle.priority_plan.specs.declared.rows.Row.{Row}
use Rattle.priority_plan.specs.Rules.{with_barrier, levels_of, most_levels}
use Rattle.priority_plan.specs.Standing.{rule_of, Stands, StandsIn}

pub none_in : {X : Type 0} (P : Type 0) (x : X) → Contains [] x → P
none_in P x h = absurd (omega (arith, h.1))

pub the_one : {X : Type 0} (y x : X) → Contains (y ∷ []) x → y ≡ x
the_one y x h = ⊎_elim (λ n. none_in _ x n) (λ e. e) (Contains-push_cases [] y x h)

pub barrier_above : (n : ℕ) → 0 < n → with_barrier n ≡ n + 1
barrier_above zero h = absurd (omega arith)
barrier_above (suc n) h = refl

pub barrier_least : (n : ℕ) → n ≤ with_barrier n
barrier_least zero = omega arith
barrier_least (suc n) = omega arith

-- where a rule stands in a span of levels
abbrev pub Within : ℕ → ℕ → Rule → Type 0
Within b n r = (b < r.priority) × (r.priority ≤ b + n)

abbrev priority_of : Row → ℕ
priority_of x = (rule_of x).priority

mutual
  pub within : (x : Row) (t : Shape) (m : Match) (b : ℕ) → Stands x t m b → Within b (levels_of t) (rule_of x)
  within x Empty m b h = absurd h
  within x (Ends l) m b h = let p = ap priority_of h in (omega (arith, p), omega (arith, p))
  within x (Reads f bs) m b h = within_in x bs f m b h
  within x (Tests f v n y) m b (inr (inr h)) = let w = within x n m b h in let l = barrier_least (levels_of n) in (w.0, omega (arith, w.1, l))
  within x (Tests f v n y) m b (inr (inl h)) =
      let p = ap priority_of h.1 in
      let a = barrier_above (levels_of n) h.0 in
      (omega (arith, p, a, h.0), omega (arith, p, a))
  within x (Tests f v n y) m b (inl h) = let w = within x y (fix f v m) (b + with_barrier (levels_of n)) h in (omega (arith, w.0), omega (arith, w.1))

  within_in : (x : Row) (bs : Branches) (f : Field) (m : Match) (b : ℕ) → StandsIn x bs f m b → Within b (most_levels bs) (rule_of x)
  within_in x NoBranch f m b h = absurd h
  within_in x (Branch v t bs) f m b (inl h) = let w = within x t (fix f v m) b h in (w.0, omega (arith, w.1))
  within_in x (Branch v t bs) f m b (inr h) = let w = within_in x bs f m b h in (w.0, omega (arith, w.1))
