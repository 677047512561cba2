-- The rules of a tree of traces.
use Rattle.std.specs.Prelude.{ℕ, zero, suc, ◌+◌, ◌⊎◌, max, List, [], ◌∷◌, ◌++◌, map, filter_map, Option, Some, None, Contains, length}
use Rattle.maple_base.specs.Ports.{controller_port}
use Rattle.maple_base.specs.declared.key.Field.{Field}
use Rattle.maple_base.specs.declared.key.Match.{Match}
use Rattle.maple_base.specs.declared.decision.Rule.{Rule}
use Rattle.maple_base.specs.declared.decision.Decision.{Decision}
use Rattle.maple_base.specs.declared.decision.Decision.TheVariants.{Drop, Out, Flood, Path}
use Rattle.maple_base.specs.declared.cells.Place.{Place}
use Rattle.maple_base.specs.Decisions.{actions_at}
use Rattle.maple_base.specs.Keys.{fix, anything}
use Rattle.trace_tree.specs.declared.node.Leaf.{Leaf}
use Rattle.trace_tree.specs.Shape.{Shape, Branches, Empty, Ends, Reads, Tests, NoBranch, Branch}
use Rattle.priority_plan.specs.declared.rows.Row.{Row}
use Rattle.priority_plan.specs.declared.rows.Row.TheVariants.{Fact, Barrier}

-- the most levels of a tree whose rules are made: they take priorities from 1 on
abbrev pub level_limit : ℕ
level_limit = 65000

-- the levels of a false side and the barrier behind them, which stands only behind a rule
abbrev pub with_barrier : ℕ → ℕ
with_barrier zero = 0
with_barrier (suc n) = suc n + 1

abbrev mutual
  -- how many levels a tree has: none where it is empty, one for a trace, the greatest of the branches, and those of a test's false side, its barrier and its true side
  pub levels_of : Shape → ℕ
  levels_of Empty = 0
  levels_of (Ends l) = 1
  levels_of (Reads f bs) = most_levels bs
  levels_of (Tests f v n y) = with_barrier (levels_of n) + levels_of y

  pub most_levels : Branches → ℕ
  most_levels NoBranch = 0
  most_levels (Branch v t bs) = max (levels_of t) (most_levels bs)

abbrev pub first_switch : List Place → ℕ
first_switch [] = 0
first_switch (p ∷ ps) = p.switch

-- the actions of a decision's rule, for a path those at the switch of its first hop
abbrev pub fact_actions : Decision → List ℕ
fact_actions Drop = actions_at Drop 0
fact_actions (Out ps) = actions_at (Out ps) 0
fact_actions Flood = actions_at Flood 0
fact_actions (Path hops) = actions_at (Path hops) (first_switch hops)

-- the rule of a trace, at the first level above the base
abbrev pub fact : Leaf → Match → ℕ → Rule
fact l m base = record { of = m; priority = base + 1; actions = fact_actions l.decision; cookie = 0; idle = 0 }

-- a rule that sends to the controller (OpenFlow Switch Specification 1.0.0, 5.2.1, OFPP_CONTROLLER)
abbrev pub barrier : Match → ℕ → Rule
barrier m priority = record { of = m; priority = priority; actions = controller_port ∷ []; cookie = 0; idle = 0 }

-- a barrier behind so many levels
abbrev pub barrier_behind : ℕ → Match → ℕ → List Rule
barrier_behind zero m base = []
barrier_behind (suc n) m base = barrier m (base + with_barrier (suc n)) ∷ []

abbrev mutual
  -- the rules of the traces, and between the two sides of a test, whose false side has a rule, its barrier. The rule of a trace fixes the reads and the true
  -- tests of its path, and a barrier the tested value too. Of a test's rules the highest stand first
  pub rows_of : Shape → Match → ℕ → List Row
  rows_of Empty m base = []
  rows_of (Ends l) m base = Fact (fact l m base) ∷ []
  rows_of (Reads f bs) m base = rows_in bs f m base
  rows_of (Tests f v n y) m base =
      rows_of y (fix f v m) (base + with_barrier (levels_of n)) ++ (map Barrier (barrier_behind (levels_of n) (fix f v m) base) ++ rows_of n m base)

  pub rows_in : Branches → Field → Match → ℕ → List Row
  rows_in NoBranch f m base = []
  rows_in (Branch v t bs) f m base = rows_of t (fix f v m) base ++ rows_in bs f m base

abbrev pub fact_of : Row → Option Rule
fact_of (Fact r) = Some r
fact_of (Barrier r) = None

abbrev pub barrier_of : Row → Option Rule
barrier_of (Fact r) = None
barrier_of (Barrier r) = Some r

-- the rules of the traces
abbrev pub facts_of : Shape → Match → ℕ → List Rule
facts_of t m base = filter_map fact_of (rows_of t m base)

-- the barriers of the tests
abbrev pub barriers_of : Shape → Match → ℕ → List Rule
barriers_of t m base = filter_map barrier_of (rows_of t m base)

-- the rules of a part of a tree
abbrev pub rules_within : Shape → Match → ℕ → List Rule
rules_within t m base = facts_of t m base ++ barriers_of t m base

-- the rules of a tree
abbrev pub rules_of : Shape → List Rule
rules_of t = rules_within t anything 0

abbrev pub rules_needed : Shape → ℕ
rules_needed t = length (rules_of t)

-- at one test whose false side has a rule: a rule of the false side and the barrier, or the barrier and a rule of the true side
abbrev pub PartedBy : Field → ℕ → Shape → Shape → Match → ℕ → Rule → Rule → Type 0
PartedBy f v n y m base r q =
    (Contains (rules_within n m base) r × Contains (barrier_behind (levels_of n) (fix f v m) base) q)
    ⊎ (Contains (barrier_behind (levels_of n) (fix f v m) base) r × Contains (rules_within y (fix f v m) (base + with_barrier (levels_of n))) q)

abbrev mutual
  pub StandsBelow : Shape → Match → ℕ → Rule → Rule → Type 0
  StandsBelow Empty m base r q = ⊥
  StandsBelow (Ends l) m base r q = ⊥
  StandsBelow (Reads f bs) m base r q = StandsBelowIn bs f m base r q
  StandsBelow (Tests f v n y) m base r q =
      PartedBy f v n y m base r q ⊎ (StandsBelow n m base r q ⊎ StandsBelow y (fix f v m) (base + with_barrier (levels_of n)) r q)

  pub StandsBelowIn : Branches → Field → Match → ℕ → Rule → Rule → Type 0
  StandsBelowIn NoBranch f m base r q = ⊥
  StandsBelowIn (Branch v t bs) f m base r q = StandsBelow t (fix f v m) base r q ⊎ StandsBelowIn bs f m base r q

-- the first rule of a tree must stand below the second: at a test the rules of the false side below its barrier, and the barrier below the rules of the true side
abbrev pub MustStandBelow : Shape → Rule → Rule → Type 0
MustStandBelow t r q = StandsBelow t anything 0 r q
