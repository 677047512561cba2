-- The tree that is left when leaves go.
use Rattle.std.specs.Prelude.{◌≡◌, ℕ, Bool, true, false, ◌&&◌, if◌then◌else◌}
use Rattle.maple_base.specs.declared.key.Field.{Field}
use Rattle.trace_tree.specs.declared.node.Leaf.{Leaf}
use Rattle.trace_tree.specs.Shape.{Shape, Branches, Empty, Ends, Reads, Tests, NoBranch, Branch}

abbrev pub is_empty : Shape → Bool
is_empty Empty = true
is_empty t = false

-- a node of branches, or none where there are no branches
abbrev pub reads : Field → Branches → Shape
reads f NoBranch = Empty
reads f (Branch v t bs) = Reads f (Branch v t bs)

-- a branch ahead of others, left out where its tree is empty
abbrev pub branch : ℕ → Shape → Branches → Branches
branch v t bs = if is_empty t then bs else Branch v t bs

-- a test, or none where both sides are empty
abbrev pub tests : Field → ℕ → Shape → Shape → Shape
tests f v n y = if is_empty n && is_empty y then Empty else Tests f v n y

abbrev mutual
  -- the tree of those leaves of which p holds
  pub kept : (Leaf → Bool) → Shape → Shape
  kept p Empty = Empty
  kept p (Ends l) = if p l then Ends l else Empty
  kept p (Reads f bs) = reads f (kept_in p bs)
  kept p (Tests f v n y) = tests f v (kept p n) (kept p y)

  pub kept_in : (Leaf → Bool) → Branches → Branches
  kept_in p NoBranch = NoBranch
  kept_in p (Branch v t bs) = branch v (kept p t) (kept_in p bs)

abbrev mutual
  -- u is the tree of those leaves of t at which the answer was true; one leaf may be answered both ways
  pub IsKept : (Leaf → Bool → Type 0) → Shape → Shape → Type 0
  IsKept A Empty u = u ≡ Empty
  IsKept A (Ends l) u = (b : Bool) × A l b × (u ≡ (if b then Ends l else Empty))
  IsKept A (Reads f bs) u = (cs : Branches) × AreKept A bs cs × (u ≡ reads f cs)
  IsKept A (Tests f v n y) u = (m : Shape) × (z : Shape) × IsKept A n m × IsKept A y z × (u ≡ tests f v m z)

  pub AreKept : (Leaf → Bool → Type 0) → Branches → Branches → Type 0
  AreKept A NoBranch cs = cs ≡ NoBranch
  AreKept A (Branch v t bs) cs = (u : Shape) × (ds : Branches) × IsKept A t u × AreKept A bs ds × (cs ≡ branch v u ds)

-- the answers are p's
abbrev pub AnswersBy : (Leaf → Bool → Type 0) → (Leaf → Bool) → Type 0
AnswersBy A p = (l : Leaf) (b : Bool) → A l b → b ≡ p l

-- the tree once the tests that wait took their places again, each with the one above it on its false side
abbrev pub unwound : Shape → Shape → Shape
unwound (Tests f v up y) t = unwound up (tests f v t y)
unwound up t = t
