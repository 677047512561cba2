-- How a clearing comes to its end.
use Rattle.std.proofs.Common.{◌≡◌, ℕ, ◌+◌, ◌≤◌, List, [], ◌∷◌, ◌++◌, refl, ap, ◌∙◌, arith}
use Rattle.std.specs.Prelude.{map}
use Rattle.trace_tree.specs.Shape.{Shape, Branches, Empty, Ends, Reads, Tests}
use Rattle.trace_tree.specs.TreeOf.{branches}
use Rattle.trace_tree.specs.Clears.{load_of, load_in, held_of, held_in}

pub load_some : (t : Shape) → 1 ≤ load_of t
load_some Empty = omega arith
load_some (Ends l) = omega arith
load_some (Reads f bs) = omega arith
load_some (Tests f v n y) = omega arith

module _ {X : Type 0} (h : X → Shape) where
  abbrev trees : List (ℕ × X) → Branches
  trees cs = branches (map (λ (c : ℕ × X). (c.0, h c.1)) cs)

  pub load_push : (all cs : List (ℕ × X)) (c : ℕ × X) → all ≡ cs ++ c ∷ [] → load_in (trees all) ≡ load_in (trees cs) + load_of (h c.1)
  load_push all [] c e = ap (λ l. load_in (trees l)) e ∙ omega arith
  load_push all (d ∷ cs) c e = let i = load_push (cs ++ c ∷ []) cs c refl in ap (λ l. load_in (trees l)) e ∙ omega (arith, i)

  pub held_push : (all cs : List (ℕ × X)) (c : ℕ × X) → all ≡ cs ++ c ∷ [] → held_in (trees all) ≡ load_in (trees cs) + held_of (h c.1)
  held_push all [] c e = ap (λ l. held_in (trees l)) e ∙ omega arith
  held_push all (d ∷ []) c e = ap (λ l. held_in (trees l)) e ∙ omega arith
  held_push all (d ∷ b ∷ cs) c e = let i = held_push (b ∷ cs ++ c ∷ []) (b ∷ cs) c refl in ap (λ l. held_in (trees l)) e ∙ omega (arith, i)
