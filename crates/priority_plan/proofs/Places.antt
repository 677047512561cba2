-- Where the rules of a tree stand, facts and barriers together.
use Rattle.std.proofs.Common.{ℕ, ◌+◌, ◌<◌, ap, subst, inl, inr, arith}
use Rattle.std.specs.Prelude.{Contains}
use Rattle.maple_base.specs.declared.key.Field.{Field}
use Rattle.maple_base.specs.declared.key.Match.{Match}
use Rattle.maple_base.specs.declared.decision.Rule.{Rule}
use Rattle.maple_base.specs.Keys.{fix, anything}
use Rattle.trace_tree.specs.Shape.{Shape, Branches, Empty, Ends, Reads, Tests, NoBranch, Branch}
use Rattle.priority_plan.specs.Rules.{with_barrier, levels_of, rules_within, PartedBy, StandsBelow, StandsBelowIn}
use Rattle.priority_plan.specs.Standing.{rule_of}
use Rattle.priority_plan.specs.Chains.{KeepsOrder}
use Rattle.priority_plan.specs.Laws.{NoneLower, LevelsLaw, BelowLaw}
use Rattle.priority_plan.proofs.Spans.{barrier_above, Within, within}
use Rattle.priority_plan.proofs.Listed.{own_stands, rule_stands}
use Rattle.priority_plan.proofs.Chains.{least_levels}

pub rules_between : (t : Shape) (m : Match) (b : ℕ) (r : Rule) → Contains (rules_within t m b) r → Within b (levels_of t) r
rules_between t m b r h = let s = rule_stands r t m b h in subst (Within b (levels_of t)) s.is (within s.row t m b s.stands)

pub none_lower : NoneLower
none_lower t r h = let w = rules_between t anything 0 r h in omega (arith, w.0)

parted : (f : Field) (v : ℕ) (n y : Shape) (m : Match) (b : ℕ) (r q : Rule) → PartedBy f v n y m b r q → r.priority < q.priority
parted f v n y m b r q (inl c) =
    let w = rules_between n m b r c.0 in
    let e = own_stands q (levels_of n) (fix f v m) b c.1 in
    let p = ap (λ x. (rule_of x).priority) e.1 in
    let u = barrier_above (levels_of n) e.0 in
    omega (arith, w.1, p, u)
parted f v n y m b r q (inr c) =
    let e = own_stands r (levels_of n) (fix f v m) b c.0 in
    let p = ap (λ x. (rule_of x).priority) e.1 in
    let w = rules_between y (fix f v m) (b + with_barrier (levels_of n)) q c.1 in
    omega (arith, w.0, p)

mutual
  stands : (t : Shape) (m : Match) (b : ℕ) (r q : Rule) → StandsBelow t m b r q → r.priority < q.priority
  stands Empty m b r q h = absurd h
  stands (Ends l) m b r q h = absurd h
  stands (Reads f bs) m b r q h = stands_in bs f m b r q h
  stands (Tests f v n y) m b r q (inl h) = parted f v n y m b r q h
  stands (Tests f v n y) m b r q (inr (inl h)) = stands n m b r q h
  stands (Tests f v n y) m b r q (inr (inr h)) = stands y (fix f v m) (b + with_barrier (levels_of n)) r q h

  stands_in : (bs : Branches) (f : Field) (m : Match) (b : ℕ) (r q : Rule) → StandsBelowIn bs f m b r q → r.priority < q.priority
  stands_in NoBranch f m b r q h = absurd h
  stands_in (Branch v t bs) f m b r q (inl h) = stands t (fix f v m) b r q h
  stands_in (Branch v t bs) f m b r q (inr h) = stands_in bs f m b r q h

pub below_law : BelowLaw
below_law t r q h = stands t anything 0 r q h

-- the priorities keep the order, so the greatest is not below the number of levels
pub levels_law : LevelsLaw
levels_law t =
    record {
      bound = λ r h. let w = rules_between t anything 0 r h in omega (arith, w.1);
      reached = λ h.
          let keeps : KeepsOrder t (λ (r : Rule). r.priority) = record { from = none_lower t; rises = below_law t } in
          let s = least_levels t (λ r. r.priority) keeps h in
          let w = rules_between t anything 0 s.0 s.1 in
          (s.0, s.1, omega (arith, s.2, w.1));
    }
