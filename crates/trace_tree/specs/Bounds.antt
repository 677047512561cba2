-- What every tree of traces keeps, and what is asked of a trace for that.
use Rattle.std.specs.Prelude.{◌≡◌, ℕ, ◌+◌, ◌^◌, ◌<◌, ◌≤◌, max, Bool, true, false, ◌&&◌, List, [], ◌∷◌, IsTrue}
use Rattle.maple_base.specs.declared.key.Field.{Field}
use Rattle.maple_base.specs.declared.items.Item.{Item}
use Rattle.maple_base.specs.declared.items.Item.TheVariants.{Read, Test}
use Rattle.maple_base.specs.Keys.{in_domain}
use Rattle.trace_tree.specs.Shape.{Shape, Branches, Empty, Ends, Reads, Tests, NoBranch, Branch}
use Rattle.maple_base.specs.Limits.{most_items}
use Rattle.maple_base.specs.Questions.{among}
use Rattle.trace_tree.specs.Growth.{IsOrdered, leaves_of}

-- each item's value is one that its field may have
abbrev pub items_within : List Item → Bool
items_within [] = true
items_within (Read f v ∷ is) = in_domain f v && items_within is
items_within (Test f v a ∷ is) = in_domain f v && items_within is

abbrev mutual
  -- each value is one that its node's field may have
  pub IsWithin : Shape → Type 0
  IsWithin Empty = Unit {0}
  IsWithin (Ends l) = Unit {0}
  IsWithin (Reads f bs) = AreWithin f bs
  IsWithin (Tests f v n y) = IsTrue (in_domain f v) × IsWithin n × IsWithin y

  pub AreWithin : Field → Branches → Type 0
  AreWithin f NoBranch = Unit {0}
  AreWithin f (Branch v t bs) = IsTrue (in_domain f v) × IsWithin t × AreWithin f bs

abbrev mutual
  -- no node asks of a field that was fixed above it, by its value or on the true side of a test
  pub IsFresh : List Field → Shape → Type 0
  IsFresh fixed Empty = Unit {0}
  IsFresh fixed (Ends l) = Unit {0}
  IsFresh fixed (Reads f bs) = (among fixed f ≡ false) × AreFresh (f ∷ fixed) bs
  IsFresh fixed (Tests f v n y) = (among fixed f ≡ false) × IsFresh fixed n × IsFresh (f ∷ fixed) y

  pub AreFresh : List Field → Branches → Type 0
  AreFresh fixed NoBranch = Unit {0}
  AreFresh fixed (Branch v t bs) = IsFresh fixed t × AreFresh fixed bs

abbrev mutual
  -- how many questions stand on the longest path
  pub longest_of : Shape → ℕ
  longest_of Empty = 0
  longest_of (Ends l) = 0
  longest_of (Reads f bs) = 1 + longest_in bs
  longest_of (Tests f v n y) = 1 + max (longest_of n) (longest_of y)

  pub longest_in : Branches → ℕ
  longest_in NoBranch = 0
  longest_in (Branch v t bs) = max (longest_of t) (longest_in bs)

-- what every tree keeps, beside the number of its leaves
pub record IsWellFormed (t : Shape) (leaves : ℕ) : Type 0 where
  pub ordered : IsOrdered t
  pub counted : leaves ≡ leaves_of t
  pub few : leaves_of t < 2 ^ 32
  pub within : IsWithin t
  pub fresh : IsFresh [] t
  pub short : longest_of t ≤ most_items
