-- The promise on the rules of a tree: what a switch may choose is the rule of the trace that the key finds.
use Rattle.std.specs.Prelude.{◌≡◌, ◌⊎◌, ◌++◌, true, false, List, [], ◌∷◌, Some, None, Contains, MatchOption, IfSome}
use Rattle.std.specs.List.Sorted.{IsPermutation}
use Rattle.maple_base.specs.declared.key.Key.{Key}
use Rattle.maple_base.specs.declared.key.Match.{Match}
use Rattle.maple_base.specs.declared.decision.Rule.{Rule}
use Rattle.maple_base.specs.declared.items.Item.{Item}
use Rattle.maple_base.specs.declared.items.Item.TheVariants.{Read, Test}
use Rattle.maple_base.specs.Keys.{fix, anything}
use Rattle.maple_base.specs.Choice.{fits, MayChoose}
use Rattle.maple_base.specs.RuleLists.{Rules}
use Rattle.flow_table.specs.Shielding.{IsBarrier, IsShieldedBy}
use Rattle.trace_tree.specs.declared.node.Trace.{Trace}
use Rattle.trace_tree.specs.Shape.{Shape, Empty}
use Rattle.trace_tree.specs.Growth.{found, scratch, AreAdmitted, AllAskOnce}
use Rattle.priority_plan.specs.Rules.{facts_of, barriers_of, fact_actions, rules_of}

-- a match with the reads and the true tests of these items fixed
abbrev pub fixed_by : List Item → Match → Match
fixed_by [] m = m
fixed_by (Read f v ∷ is) m = fixed_by is (fix f v m)
fixed_by (Test f v true ∷ is) m = fixed_by is (fix f v m)
fixed_by (Test f v false ∷ is) m = fixed_by is m

-- the tree's fact of this trace: it fixes what the trace read or found true, and does what the trace decided
pub record IsFactOf (t : Shape) (x : Trace) (r : Rule) : Type 0 where
  pub there : Contains (facts_of t anything 0) r
  pub fixes : r.of ≡ fixed_by x.items anything
  pub does : r.actions ≡ fact_actions x.decision

-- a table of the tree's rules, in any order
pub record HoldsRules (t : Shape) (table : List Rule) : Type 0 where
  pub all : (r : Rule) → Contains (rules_of t) r → Contains table r
  pub only : (r : Rule) → Contains table r → Contains (rules_of t) r

-- the rules of the tree as two lists
abbrev pub list_of : Shape → Rules
list_of t = record { facts = facts_of t anything 0; barriers = barriers_of t anything 0 }

-- the tree's rules: what may be chosen is the found trace's fact, and a barrier where none is found
abbrev pub IsFoundRule : List Trace → Key → Rule → Type 0
IsFoundRule traces k r =
    MatchOption (found traces k) (Contains (barriers_of (scratch traces) anything 0) r) (λ x. IsFactOf (scratch traces) x r)

-- fewer facts: it is the found trace's fact or a barrier, and a barrier where none is found
abbrev pub IsFoundOrBarrier : List Trace → Key → Rule → Type 0
IsFoundOrBarrier traces k r = MatchOption (found traces k) (IsBarrier r) (λ x. IsBarrier r ⊎ IsFactOf (scratch traces) x r)

-- what holds of a list of traces and a key
pub record ChoosesRight (traces : List Trace) (k : Key) : Type 0 where
  pub exact : (table : List Rule) (r : Rule) → HoldsRules (scratch traces) table → MayChoose table k r → IsFoundRule traces k r
  pub between : (table : List Rule) (r : Rule) → IsShieldedBy (list_of (scratch traces)) table → MayChoose table k r → IsFoundOrBarrier traces k r
  -- where a trace is found some rule may be chosen
  pub some : (table : List Rule) → HoldsRules (scratch traces) table → IfSome (found traces k) (λ _. (r : Rule) × MayChoose table k r)
  -- and no other
  pub one : (table : List Rule) (r q : Rule) → HoldsRules (scratch traces) table → MayChoose table k r → MayChoose table k q → IfSome (found traces k) (λ _. r ≡ q)
  -- a fact may be chosen only where a trace is found, and it is that trace's
  pub fact : (table : List Rule) (r : Rule) → HoldsRules (scratch traces) table → MayChoose table k r → Contains (facts_of (scratch traces) anything 0) r → (x : Trace) × (found traces k ≡ Some x) × IsFactOf (scratch traces) x r
  -- and a barrier only where none is
  pub barrier : (table : List Rule) (r : Rule) → HoldsRules (scratch traces) table → MayChoose table k r → Contains (barriers_of (scratch traces) anything 0) r → found traces k ≡ None
  -- where no rule fits none is found
  pub unfit : (table : List Rule) → HoldsRules (scratch traces) table → ((r : Rule) → Contains table r → fits r k ≡ false) → found traces k ≡ None

-- it holds of each list of traces that a tree admits one after the other, each asking of a fixed field no more
abbrev pub ChoiceLaw : Type 0
ChoiceLaw = (traces : List Trace) (k : Key) → AreAdmitted Empty traces → AllAskOnce traces → ChoosesRight traces k

-- the tree's facts and barriers, each in any order, make such a table
abbrev pub TableLaw : Type 0
TableLaw = (t : Shape) (facts barriers : List Rule) → IsPermutation (facts_of t anything 0) facts → IsPermutation (barriers_of t anything 0) barriers → HoldsRules t (facts ++ barriers)
