-- How many rules a further trace brings, and how many there are at most.
use Rattle.std.proofs.Common.{◌≡◌, ℕ, zero, suc, ◌+◌, ◌≤◌, ◌*◌, ◌<◌, ◌^◌, true, false, cond, List, [], ◌∷◌, length, ap, subst, ⊎_elim, arith}
use Rattle.std.specs.Prelude.{◌==◌, ◌&&◌}
use Rattle.std.proofs.lemmas.Bool.{cases_order, eq-eqb}
use Rattle.std.proofs.lemmas.Bool.Decides.{nat_tests}
use Rattle.maple_base.specs.declared.items.Item.{Item}
use Rattle.maple_base.specs.declared.items.Item.TheVariants.{Read, Test}
use Rattle.maple_base.specs.Questions.{same_field}
use Rattle.trace_tree.specs.declared.node.Leaf.{Leaf}
use Rattle.trace_tree.specs.Shape.{Shape, Branches, Empty, Ends, Reads, Tests, NoBranch, Branch}
use Rattle.maple_base.specs.Limits.{most_items}
use Rattle.trace_tree.specs.Growth.{change, insert, child, admits, leaves_of, leaves_in}
use Rattle.trace_tree.specs.Bounds.{longest_of, longest_in}
use Rattle.trace_tree.proofs.Growths.{both, admits_Empty}
use Rattle.trace_tree.proofs.Children.{change_here, change_ahead, change_past}
use Rattle.priority_plan.specs.Rules.{with_barrier, levels_of}
use Rattle.priority_plan.specs.Counts.{count_of, count_in}
use Rattle.priority_plan.specs.Laws.{FewLevels, FewMore}
use Rattle.priority_plan.proofs.Counted.{needed_count, counted}

pub few_levels : FewLevels
few_levels t = let a = counted t in let e = needed_count t in omega (arith, a.0, e)

-- one more trace below a node brings these further rules
abbrev Grew : ℕ → ℕ → ℕ → Type 0
Grew old new n = new ≤ old + n

change_grew : (bs : Branches) (v : ℕ) (g : Shape → Shape) (n : ℕ) → Grew (count_of (child v bs)) (count_of (g (child v bs))) n → Grew 0 (count_of (g Empty)) n → Grew (count_in bs) (count_in (change v g bs)) n
change_grew NoBranch v g n at empty = omega (arith, empty)
change_grew (Branch w t bs) v g n at empty =
    ⊎_elim
    (λ same.
    let own : child v (Branch w t bs) ≡ t = ap (λ b. cond b t (child v bs)) (eq-eqb v w same) in
    let h = subst (λ u. Grew (count_of u) (count_of (g u)) n) own at in
    let e = ap count_in (change_here v g w t bs same) in
    omega (arith, h, e))
    (⊎_elim (λ lt. let e = ap count_in (change_ahead v g w t bs lt) in omega (arith, e, empty))
    (λ gt.
    let ne : (v == w) ≡ false = grind (arith, nat_tests) in
    let next : child v (Branch w t bs) ≡ child v bs = ap (λ b. cond b t (child v bs)) ne in
    let h = change_grew bs v g n (subst (λ u. Grew (count_of u) (count_of (g u)) n) next at) empty in
    let e = ap count_in (change_past v g w t bs gt) in
    omega (arith, h, e)))
    (cases_order v w)

barrier_more : (a b n : ℕ) → b ≤ a + n → with_barrier b ≤ with_barrier a + (n + 1)
barrier_more a zero n h = omega arith
barrier_more zero (suc b) n h = omega (arith, h)
barrier_more (suc a) (suc b) n h = omega (arith, h)

insert_grew : (is : List Item) (leaf : Leaf) (t : Shape) → admits is t ≡ true → Grew (count_of t) (count_of (insert is leaf t)) (length is + 1)
insert_grew [] leaf Empty a = omega arith
insert_grew [] leaf (Ends l) a = absurd (cc)
insert_grew [] leaf (Reads h bs) a = absurd (cc)
insert_grew [] leaf (Tests h w n y) a = absurd (cc)
insert_grew (Read f v ∷ is) leaf Empty a = let h = insert_grew is leaf Empty (admits_Empty is) in omega (arith, h)
insert_grew (Read f v ∷ is) leaf (Ends l) a = absurd (cc)
insert_grew (Read f v ∷ is) leaf (Reads h bs) a =
    let p = both (same_field f h) (admits is (child v bs)) a in
    let i = change_grew bs v (insert is leaf) (length is + 1) (insert_grew is leaf (child v bs) p.1) (insert_grew is leaf Empty (admits_Empty is)) in
    omega (arith, i)
insert_grew (Read f v ∷ is) leaf (Tests h w n y) a = absurd (cc)
insert_grew (Test f v b ∷ is) leaf (Ends l) a = absurd (cc)
insert_grew (Test f v b ∷ is) leaf (Reads h bs) a = absurd (cc)
insert_grew (Test f v true ∷ is) leaf Empty a = let h = insert_grew is leaf Empty (admits_Empty is) in omega (arith, h)
insert_grew (Test f v false ∷ is) leaf Empty a =
    let h = insert_grew is leaf Empty (admits_Empty is) in
    let b = barrier_more 0 (count_of (insert is leaf Empty)) (length is + 1) h in
    omega (arith, b)
insert_grew (Test f v true ∷ is) leaf (Tests h w n y) a =
    let p = both (same_field f h && v == w) (admits is y) a in
    let i = insert_grew is leaf y p.1 in
    omega (arith, i)
insert_grew (Test f v false ∷ is) leaf (Tests h w n y) a =
    let p = both (same_field f h && v == w) (admits is n) a in
    let i = barrier_more (count_of n) (count_of (insert is leaf n)) (length is + 1) (insert_grew is leaf n p.1) in
    omega (arith, i)

pub few_more : FewMore
few_more is leaf t a = let h = insert_grew is leaf t a in let e = needed_count t in let f = needed_count (insert is leaf t) in omega (arith, h, e, f)

-- each leaf has its fact and at most a barrier for each question of its path
times_add : (a b d : ℕ) → (a + b) * d ≡ a * d + b * d
times_add a b d = omega arith

barrier_few : (c l d : ℕ) → c ≤ l * d → with_barrier c ≤ l * d + l
barrier_few zero l d h = omega arith
barrier_few (suc c) zero d h = absurd (omega (arith, h))
barrier_few (suc c) (suc l) d h = omega (arith, h)

mutual
  few_of : (t : Shape) (d : ℕ) → longest_of t < d → count_of t ≤ leaves_of t * d
  few_of Empty d h = omega arith
  few_of (Ends l) d h = omega (arith, h)
  few_of (Reads f bs) d h = few_in bs d (omega (arith, h))
  few_of (Tests f v n y) zero h = absurd (omega (arith, h))
  few_of (Tests f v n y) (suc d) h =
      let a = barrier_few (count_of n) (leaves_of n) d (few_of n d (omega (arith, h))) in
      let b = few_of y (suc d) (omega (arith, h)) in
      let e = times_add (leaves_of n) (leaves_of y) (suc d) in
      omega (arith, a, b, e)

  few_in : (bs : Branches) (d : ℕ) → longest_in bs < d → count_in bs ≤ leaves_in bs * d
  few_in NoBranch d h = omega arith
  few_in (Branch v t bs) d h =
      let a = few_of t d (omega (arith, h)) in
      let b = few_in bs d (omega (arith, h)) in
      let e = times_add (leaves_of t) (leaves_in bs) d in
      omega (arith, a, b, e)

pub few_counted : (t : Shape) → longest_of t ≤ most_items → leaves_of t < 2 ^ 32 → count_of t < 2 ^ 64
few_counted t short few = let a = few_of t (most_items + 1) (omega (arith, short)) in omega (arith, a, few)

pub few_priorities : (t : Shape) → longest_of t ≤ most_items → leaves_of t < 2 ^ 32 → levels_of t < 2 ^ 64
few_priorities t short few = let a = few_counted t short few in let b = counted t in omega (arith, a, b.0)
