-- One step along an item, and a path without branches.
use Rattle.std.specs.Prelude.{◌≡◌, ℕ, Bool, true, false, not, ◌==◌, if◌then◌else◌, List, [], ◌∷◌}
use Rattle.maple_base.specs.declared.items.Item.{Item}
use Rattle.maple_base.specs.declared.items.Item.TheVariants.{Read, Test}
use Rattle.trace_tree.specs.declared.node.Leaf.{Leaf}
use Rattle.trace_tree.specs.Shape.{Shape, Branches, Empty, Ends, Reads, Tests, NoBranch, Branch}
use Rattle.trace_tree.specs.Growth.{under, child, side}

-- whether one of the branches is the value's
abbrev pub has_branch : ℕ → Branches → Bool
has_branch v NoBranch = false
has_branch v (Branch w t bs) = if v == w then true else has_branch v bs

-- whether the tree's first node has a branch for the item's answer
abbrev pub leads : Item → Shape → Bool
leads (Read f v) (Reads h bs) = has_branch v bs
leads (Test f v a) (Tests h w n y) = true
leads i t = false

-- whether the first of these items leads nowhere
abbrev pub stops : List Item → Shape → Bool
stops [] t = true
stops (i ∷ is) t = not (leads i t)

-- what stands behind the item's answer
abbrev pub behind : Item → Shape → Shape
behind (Read f v) (Reads h bs) = child v bs
behind (Test f v a) (Tests h w n y) = side a n y
behind i t = Empty

-- the tree with another one behind the item's answer
abbrev pub put_behind : Item → Shape → Shape → Shape
put_behind i u t = under i (λ _. u) t

-- the tree has one leaf, at the end of a path without branches
abbrev pub EndsIn : Leaf → Shape → Type 0
EndsIn l (Ends m) = m ≡ l
EndsIn l (Reads f (Branch v t NoBranch)) = EndsIn l t
EndsIn l (Tests f v Empty y) = EndsIn l y
EndsIn l (Tests f v n Empty) = EndsIn l n
EndsIn l t = ⊥
