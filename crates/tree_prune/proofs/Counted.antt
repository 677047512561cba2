-- The leaves of which p holds are those that are left when the others go.
use Rattle.std.proofs.Common.{◌≡◌, ℕ, ◌+◌, ◌≤◌, ◌<◌, ◌^◌, Bool, true, false, cond, refl, ◌∙◌, arith}
use Rattle.maple_base.specs.declared.key.Field.{Field}
use Rattle.trace_tree.specs.declared.node.Leaf.{Leaf}
use Rattle.trace_tree.specs.Shape.{Shape, Branches, Empty, Ends, Reads, Tests, NoBranch, Branch}
use Rattle.trace_tree.specs.Growth.{leaves_of, leaves_in}
use Rattle.trace_tree.specs.Kept.{reads, branch, tests, kept, kept_in}
use Rattle.tree_prune.specs.Counts.{leaves_with, leaves_with_in}

reads_leaves : (f : Field) (bs : Branches) → leaves_of (reads f bs) ≡ leaves_in bs
reads_leaves f NoBranch = refl
reads_leaves f (Branch v t bs) = refl

branch_leaves : (v : ℕ) (t : Shape) (bs : Branches) → leaves_in (branch v t bs) ≡ leaves_of t + leaves_in bs
branch_leaves v Empty bs = omega arith
branch_leaves v (Ends l) bs = refl
branch_leaves v (Reads f cs) bs = refl
branch_leaves v (Tests f w n y) bs = refl

tests_leaves : (f : Field) (v : ℕ) (n y : Shape) → leaves_of (tests f v n y) ≡ leaves_of n + leaves_of y
tests_leaves f v Empty Empty = omega arith
tests_leaves f v Empty (Ends l) = refl
tests_leaves f v Empty (Reads g bs) = refl
tests_leaves f v Empty (Tests g w m z) = refl
tests_leaves f v (Ends l) y = refl
tests_leaves f v (Reads g bs) y = refl
tests_leaves f v (Tests g w m z) y = refl

ends_leaves : (b : Bool) (l : Leaf) → leaves_of (cond b (Ends l) Empty) ≡ cond b 1 0
ends_leaves true l = refl
ends_leaves false l = refl

module _ (p : Leaf → Bool) where
  mutual
    pub kept_counted : (t : Shape) → leaves_of (kept p t) ≡ leaves_with p t
    kept_counted Empty = refl
    kept_counted (Ends l) = ends_leaves (p l) l
    kept_counted (Reads f bs) = reads_leaves f (kept_in p bs) ∙ kept_in_counted bs
    kept_counted (Tests f v n y) =
        let a = kept_counted n in
        let b = kept_counted y in
        let e = tests_leaves f v (kept p n) (kept p y) in
        omega (arith, a, b, e)

    kept_in_counted : (bs : Branches) → leaves_in (kept_in p bs) ≡ leaves_with_in p bs
    kept_in_counted NoBranch = refl
    kept_in_counted (Branch v t bs) =
        let a = kept_counted t in
        let b = kept_in_counted bs in
        let e = branch_leaves v (kept p t) (kept_in p bs) in
        omega (arith, a, b, e)

  mutual
    no_more : (t : Shape) → leaves_with p t ≤ leaves_of t
    no_more Empty = omega arith
    no_more (Ends l) = elim (p l) as (λ b. cond b 1 0 ≤ 1) [ true ↦ omega arith | false ↦ omega arith ]
    no_more (Reads f bs) = no_more_in bs
    no_more (Tests f v n y) = let a = no_more n in let b = no_more y in omega (arith, a, b)

    no_more_in : (bs : Branches) → leaves_with_in p bs ≤ leaves_in bs
    no_more_in NoBranch = omega arith
    no_more_in (Branch v t bs) = let a = no_more t in let b = no_more_in bs in omega (arith, a, b)

  pub few_counted : (t : Shape) → leaves_of t < 2 ^ 32 → leaves_with p t < 2 ^ 32
  few_counted t h = let a = no_more t in omega (arith, a, h)
