-- What is alike in all rules of a tree.
use Rattle.std.proofs.Common.{◌≡◌, ℕ, ◌+◌, ◌<◌, Bool, true, false, List, [], ◌∷◌, Some, None, refl, sym, ap, ◌∙◌, subst, inl, inr, arith}
use Rattle.std.specs.Prelude.{◌&&◌, is_some}
use Rattle.std.proofs.lemmas.List.Elements.{All-contains}
use Rattle.maple_base.specs.Ports.{controller_port}
use Rattle.maple_base.specs.declared.key.Field.{Field}
use Rattle.maple_base.specs.declared.key.Match.{Match}
use Rattle.maple_base.specs.declared.decision.Rule.{Rule}
use Rattle.maple_base.specs.declared.items.Item.{Item}
use Rattle.maple_base.specs.declared.items.Item.TheVariants.{Read, Test}
use Rattle.maple_base.specs.Keys.{match_exact, match_normal, fix, fixed_of, anything}
use Rattle.flow_table.specs.Shielding.{IsBarrier}
use Rattle.trace_tree.specs.declared.node.Leaf.{Leaf}
use Rattle.trace_tree.specs.Shape.{Shape, Branches, Empty, Ends, Reads, Tests, NoBranch, Branch}
use Rattle.trace_tree.specs.Growth.{IsBelow, scratch}
use Rattle.trace_tree.proofs.Growths.{both}
use Rattle.policy_meaning.specs.QuestionLaws.{asks_normally}
use Rattle.priority_plan.specs.declared.rows.Row.{Row}
use Rattle.priority_plan.specs.declared.rows.Row.TheVariants.{Fact, Barrier}
use Rattle.priority_plan.specs.Rules.{with_barrier, levels_of, fact_actions}
use Rattle.priority_plan.specs.Standing.{rule_of, Stands, StandsIn}
use Rattle.priority_plan.proofs.Listed.{fact_stands, barrier_stands, rule_stands}
use Rattle.rule_builder.specs.Chosen.{fixed_by}
use Rattle.rule_builder.specs.Laws.{NoneExact, AsksNormally, NormalLaw, FactLaw, BarrierLaw}
use Rattle.rule_builder.proofs.Paths.{IsFrom, scratch_along, along_map, along_any, of_each}
use Rattle.rule_builder.proofs.Fixes.{IsFresh, AreFresh, pcp-fix, own_fixed, Extends, extends_itself, extends_fix}

-- the VLAN priority is open, so no rule is exact
abbrev IsOpen : Match → Type 0
IsOpen m = m.dl_pcp ≡ None

open_next : (m : Match) (i : Item) → IsOpen m → IsOpen (fixed_by (i ∷ []) m)
open_next m (Read f v) e = pcp-fix f v m ∙ e
open_next m (Test f v true) e = pcp-fix f v m ∙ e
open_next m (Test f v false) e = e

inexact : (m : Match) → IsOpen m → match_exact m ≡ false
inexact m e = let s : is_some m.dl_pcp ≡ false = ap is_some e in grind arith

pub row_inexact : (x : Row) (t : Shape) → Stands x t anything 0 → match_exact (rule_of x).of ≡ false
row_inexact x t h =
    inexact (rule_of x).of
    (of_each (λ m is l. IsOpen m) (λ y. IsOpen (rule_of y).of) (λ m i is l e. open_next m i e) (λ m b l e. e) (λ m f v a is l p e. pcp-fix f v m ∙ e) x t anything 0 (along_any (λ is l. IsOpen anything) (λ is l. refl) t) h)

pub none_exact : NoneExact
none_exact t r h = let s = rule_stands r t anything 0 h in subst (λ (q : Rule). match_exact q.of ≡ false) s.is (row_inexact s.row t s.stands)

abbrev IsKept : Row → Type 0
IsKept (Fact r) = Unit {0}
IsKept (Barrier r) = IsBarrier r × (r.cookie ≡ 0) × (r.idle ≡ 0)

pub barrier_law : BarrierLaw
barrier_law t r h =
    of_each (λ m is l. Unit {0}) IsKept (λ m i is l e. tt) (λ m b l e. tt) (λ m f v a is l p e. (refl, refl, refl)) (Barrier r) t anything 0 (along_any (λ is l. Unit {0}) (λ is l. tt) t) (barrier_stands r t anything 0 h)

abbrev IsOther : Row → Type 0
IsOther (Fact r) = IsBarrier r → ⊥
IsOther (Barrier r) = Unit {0}

pub fact_law : FactLaw
fact_law traces r admitted none c =
    let P : Match → List Item → Leaf → Type 0 = λ m is l. fact_actions l.decision ≡ controller_port ∷ [] → ⊥ in
    let each = along_map (IsFrom traces) (P anything) (λ is l s d. none s.trace s.there (ap (λ (x : Leaf). fact_actions x.decision) s.leaf ∙ d)) (scratch traces) (scratch_along traces admitted) in
    of_each P IsOther (λ m i is l p. p) (λ m b l p. p) (λ m f v a is l p q. tt) (Fact r) (scratch traces) anything 0 each (fact_stands r (scratch traces) anything 0 c)

-- a match is normal, and so is each that the items behind it ask for
abbrev NormalBehind : Match → List Item → Leaf → Type 0
NormalBehind m is l = (match_normal m && asks_normally m is) ≡ true

normal_next : (m : Match) (i : Item) (is : List Item) (l : Leaf) → NormalBehind m (i ∷ is) l → NormalBehind (fixed_by (i ∷ []) m) is l
normal_next m (Read f v) is l h = (both (match_normal m) _ h).1
normal_next m (Test f v true) is l h = (both (match_normal m) _ h).1
normal_next m (Test f v false) is l h =
    let p = both (match_normal m) _ h in
    ap (λ b. b && asks_normally m is) p.0 ∙ (both (match_normal (fix f v m)) _ p.1).1

normal_test : (m : Match) (f : Field) (v : ℕ) (a : Bool) (is : List Item) (l : Leaf) → NormalBehind m (Test f v a ∷ is) l → match_normal (fix f v m) ≡ true
normal_test m f v true is l h = (both (match_normal (fix f v m)) _ (both (match_normal m) _ h).1).0
normal_test m f v false is l h = (both (match_normal (fix f v m)) _ (both (match_normal m) _ h).1).0

pub normal_law : NormalLaw
normal_law traces r admitted normally c =
    let s = rule_stands r (scratch traces) anything 0 c in
    let each = along_map (IsFrom traces) (NormalBehind anything) (λ is l x. sym (ap (asks_normally anything) x.items) ∙ All-contains AsksNormally traces x.trace normally x.there) (scratch traces) (scratch_along traces admitted) in
    subst (λ (q : Rule). match_normal q.of ≡ true) s.is
    (of_each NormalBehind (λ x. match_normal (rule_of x).of ≡ true) normal_next (λ m b l h. (both (match_normal m) true h).0) (λ m f v a is l p h. normal_test m f v a is l h) s.row (scratch traces) anything 0 each s.stands)

-- each rule fixes what the match of its path does
mutual
  pub extends : (x : Row) (t : Shape) (m : Match) (b : ℕ) → IsFresh t m → Stands x t m b → Extends m (rule_of x).of
  extends x Empty m b fresh h = absurd h
  extends x (Ends l) m b fresh h = extends_itself m (rule_of x).of (ap (λ y. (rule_of y).of) h)
  extends x (Reads f bs) m b fresh h = extends_in x bs f m b fresh.0 fresh.1 h
  extends x (Tests f v n y) m b fresh (inr (inr h)) = extends x n m b fresh.1 h
  extends x (Tests f v n y) m b fresh (inr (inl h)) = extends_fix f v m (rule_of x).of fresh.0 (extends_itself (fix f v m) (rule_of x).of (ap (λ y. (rule_of y).of) h.1))
  extends x (Tests f v n y) m b fresh (inl h) = extends_fix f v m (rule_of x).of fresh.0 (extends x y (fix f v m) (b + with_barrier (levels_of n)) fresh.2 h)

  extends_in : (x : Row) (bs : Branches) (f : Field) (m : Match) (b : ℕ) → fixed_of m f ≡ None → AreFresh bs f m → StandsIn x bs f m b → Extends m (rule_of x).of
  extends_in x NoBranch f m b free fresh h = absurd h
  extends_in x (Branch v t bs) f m b free fresh (inl h) = extends_fix f v m (rule_of x).of free (extends x t (fix f v m) b fresh.0 h)
  extends_in x (Branch v t bs) f m b free fresh (inr h) = extends_in x bs f m b free fresh.1 h

-- one behind a value fixes it
pub row_has : (x : Row) (f : Field) (v : ℕ) (t : Shape) (m : Match) (b : ℕ) → IsFresh t (fix f v m) → Stands x t (fix f v m) b → fixed_of (rule_of x).of f ≡ Some v
row_has x f v t m b fresh h = (extends x t (fix f v m) b fresh h).fixed f v (own_fixed f v m)

-- and one of the branches above a value a greater one
pub record FixesAbove (f : Field) (v : ℕ) (m : Match) : Type 0 where
  pub value : ℕ
  pub fixes : fixed_of m f ≡ Some value
  pub above : v < value

pub in_above : (x : Row) (bs : Branches) (w : ℕ) (f : Field) (m : Match) (b : ℕ) → IsBelow w bs → AreFresh bs f m → StandsIn x bs f m b → FixesAbove f w (rule_of x).of
in_above x NoBranch w f m b below fresh h = absurd h
in_above x (Branch v t bs) w f m b below fresh (inl h) = record { value = v; fixes = row_has x f v t m b fresh.0 h; above = below.0 }
in_above x (Branch v t bs) w f m b below fresh (inr h) = in_above x bs w f m b below.1 fresh.1 h
