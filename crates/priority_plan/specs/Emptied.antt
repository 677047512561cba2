-- A tree of which only some leaves count.
use Rattle.std.specs.Prelude.{Bool, if◌then◌else◌}
use Rattle.trace_tree.specs.declared.node.Leaf.{Leaf}
use Rattle.trace_tree.specs.Shape.{Shape, Branches, Empty, Ends, Reads, Tests, NoBranch, Branch}

abbrev mutual
  -- with an empty node in the place of each leaf of which p doesn't hold
  pub emptied : (Leaf → Bool) → Shape → Shape
  emptied p Empty = Empty
  emptied p (Ends l) = if p l then Ends l else Empty
  emptied p (Reads f bs) = Reads f (emptied_in p bs)
  emptied p (Tests f v n y) = Tests f v (emptied p n) (emptied p y)

  pub emptied_in : (Leaf → Bool) → Branches → Branches
  emptied_in p NoBranch = NoBranch
  emptied_in p (Branch v t bs) = Branch v (emptied p t) (emptied_in p bs)
