-- No more levels and no more rules when leaves go.
use Rattle.std.proofs.Common.{◌≡◌, ℕ, ◌+◌, ◌≤◌, Bool, true, false, cond, ◌++◌, length, refl, sym, ap, ◌∙◌, arith}
use Rattle.std.specs.Prelude.{max, map}
use Rattle.maple_base.specs.declared.key.Field.{Field}
use Rattle.maple_base.specs.declared.key.Match.{Match}
use Rattle.maple_base.specs.Keys.{fix, anything}
use Rattle.trace_tree.specs.declared.node.Leaf.{Leaf}
use Rattle.trace_tree.specs.Shape.{Shape, Branches, Empty, Ends, Reads, Tests, NoBranch, Branch}
use Rattle.trace_tree.specs.Kept.{reads, branch, tests, kept, kept_in}
use Rattle.priority_plan.specs.declared.rows.Row.TheVariants.{Barrier}
use Rattle.priority_plan.specs.Rules.{with_barrier, levels_of, most_levels, barrier_behind, rows_of, rows_in}
use Rattle.priority_plan.specs.Emptied.{emptied, emptied_in}
use Rattle.priority_plan.specs.Counts.{count_of, count_in}
use Rattle.priority_plan.specs.Laws.{KeptHasNoMore}
use Rattle.priority_plan.proofs.Counted.{rows_length, needed_count, barrier_mono}

-- Leaves that do not count leave the rules that the tree has once they are gone.
mutual
  pub emptied_every : (t : Shape) → emptied (λ l. true) t ≡ t
  emptied_every Empty = refl
  emptied_every (Ends l) = refl
  emptied_every (Reads f bs) = ap (Reads f) (emptied_in_every bs)
  emptied_every (Tests f v n y) = ap (λ x. Tests f v x (emptied (λ l. true) y)) (emptied_every n) ∙ ap (Tests f v n) (emptied_every y)

  emptied_in_every : (bs : Branches) → emptied_in (λ l. true) bs ≡ bs
  emptied_in_every NoBranch = refl
  emptied_in_every (Branch v t bs) = ap (λ x. Branch v x (emptied_in (λ l. true) bs)) (emptied_every t) ∙ ap (Branch v t) (emptied_in_every bs)

-- where it is all the same whether an empty node stands there
module _ {X : Type 0} (g : Shape → X) where
  tests_alike : (f : Field) (v : ℕ) (n y : Shape) → g Empty ≡ g (Tests f v Empty Empty) → g (tests f v n y) ≡ g (Tests f v n y)
  tests_alike f v Empty Empty e = e
  tests_alike f v Empty (Ends l) e = refl
  tests_alike f v Empty (Reads h cs) e = refl
  tests_alike f v Empty (Tests h w m z) e = refl
  tests_alike f v n y e = refl

  reads_alike : (f : Field) (bs : Branches) → g Empty ≡ g (Reads f NoBranch) → g (reads f bs) ≡ g (Reads f bs)
  reads_alike f NoBranch e = e
  reads_alike f (Branch v t bs) e = refl

branch_alike : {X : Type 0} (g : Branches → X) (v : ℕ) (t : Shape) (bs : Branches) → g bs ≡ g (Branch v Empty bs) → g (branch v t bs) ≡ g (Branch v t bs)
branch_alike g v Empty bs e = e
branch_alike g v t bs e = refl

module _ (p : Leaf → Bool) where
  mutual
    pub levels_emptied : (t : Shape) → levels_of (kept p t) ≡ levels_of (emptied p t)
    levels_emptied Empty = refl
    levels_emptied (Ends l) = refl
    levels_emptied (Reads f bs) = reads_alike levels_of f (kept_in p bs) refl ∙ levels_in_emptied bs
    levels_emptied (Tests f v n y) =
        tests_alike levels_of f v (kept p n) (kept p y) refl ∙ ap (λ x. with_barrier x + levels_of (kept p y)) (levels_emptied n)
        ∙ ap (λ x. with_barrier (levels_of (emptied p n)) + x) (levels_emptied y)

    levels_in_emptied : (bs : Branches) → most_levels (kept_in p bs) ≡ most_levels (emptied_in p bs)
    levels_in_emptied NoBranch = refl
    levels_in_emptied (Branch v t bs) =
        branch_alike most_levels v (kept p t) (kept_in p bs) (omega arith) ∙ ap (λ x. max x (most_levels (kept_in p bs))) (levels_emptied t) ∙ ap (max (levels_of (emptied p t))) (levels_in_emptied bs)

  mutual
    pub rows_emptied : (t : Shape) (m : Match) (b : ℕ) → rows_of (kept p t) m b ≡ rows_of (emptied p t) m b
    rows_emptied Empty m b = refl
    rows_emptied (Ends l) m b = refl
    rows_emptied (Reads f bs) m b = reads_alike (λ x. rows_of x m b) f (kept_in p bs) refl ∙ rows_in_emptied bs f m b
    rows_emptied (Tests f v n y) m b =
        let w = fix f v m in
        let l = levels_of (emptied p n) in
        tests_alike (λ x. rows_of x m b) f v (kept p n) (kept p y) refl
        ∙ ap (λ x. rows_of (kept p y) w (b + with_barrier x) ++ (map Barrier (barrier_behind x w b) ++ rows_of (kept p n) m b)) (levels_emptied n)
        ∙ ap (λ x. x ++ (map Barrier (barrier_behind l w b) ++ rows_of (kept p n) m b)) (rows_emptied y w (b + with_barrier l))
        ∙ ap (λ x. rows_of (emptied p y) w (b + with_barrier l) ++ (map Barrier (barrier_behind l w b) ++ x)) (rows_emptied n m b)

    rows_in_emptied : (bs : Branches) (f : Field) (m : Match) (b : ℕ) → rows_in (kept_in p bs) f m b ≡ rows_in (emptied_in p bs) f m b
    rows_in_emptied NoBranch f m b = refl
    rows_in_emptied (Branch v t bs) f m b =
        branch_alike (λ x. rows_in x f m b) v (kept p t) (kept_in p bs) refl
        ∙ ap (λ x. x ++ rows_in (kept_in p bs) f m b) (rows_emptied t (fix f v m) b) ∙ ap (λ x. rows_of (emptied p t) (fix f v m) b ++ x) (rows_in_emptied bs f m b)

  mutual
    -- no more levels and no more rules
    few_left : (t : Shape) → (levels_of (emptied p t) ≤ levels_of t) × (count_of (emptied p t) ≤ count_of t)
    few_left Empty = (omega arith, omega arith)
    few_left (Ends l) =
        elim (p l) as (λ b. (levels_of (cond b (Ends l) Empty) ≤ 1) × (count_of (cond b (Ends l) Empty) ≤ 1)) [ true ↦ (omega arith, omega arith) | false ↦ (omega arith, omega arith) ]
    few_left (Reads f bs) = few_left_in bs
    few_left (Tests f v n y) =
        let i = few_left n in
        let j = few_left y in
        let a = barrier_mono (levels_of (emptied p n)) (levels_of n) i.0 in
        let c = barrier_mono (count_of (emptied p n)) (count_of n) i.1 in
        (omega (arith, a, j.0), omega (arith, c, j.1))

    few_left_in : (bs : Branches) → (most_levels (emptied_in p bs) ≤ most_levels bs) × (count_in (emptied_in p bs) ≤ count_in bs)
    few_left_in NoBranch = (omega arith, omega arith)
    few_left_in (Branch v t bs) = let i = few_left t in let j = few_left_in bs in (omega (arith, i.0, j.0), omega (arith, i.1, j.1))

  pub emptied_less : (t : Shape) → levels_of (emptied p t) ≤ levels_of t
  emptied_less t = (few_left t).0

pub kept_no_more : KeptHasNoMore
kept_no_more p t =
    let few = few_left p t in
    let levels = levels_emptied p t in
    let rules = needed_count (kept p t) ∙ sym (rows_length (kept p t) anything 0) ∙ ap length (rows_emptied p t anything 0) ∙ rows_length (emptied p t) anything 0 in
    record { levels = omega (arith, few.0, levels); rules = omega (arith, few.1, rules, needed_count t) }
