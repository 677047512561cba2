-- What an insertion keeps.
use Rattle.std.proofs.Common.{◌≡◌, ℕ, ◌-◌, ◌≤◌, max, Bool, true, false, cond, List, [], ◌∷◌, length, refl, sym, ap, ◌∙◌, subst, ⊎_elim, arith}
use Rattle.std.specs.Prelude.{◌==◌, ◌&&◌, not}
use Rattle.std.proofs.lemmas.Bool.{cases_order, eq-eqb}
use Rattle.std.proofs.lemmas.Bool.Decides.{nat_tests}
use Rattle.maple_base.specs.declared.key.Field.{Field}
use Rattle.maple_base.specs.declared.items.Item.{Item}
use Rattle.maple_base.specs.declared.items.Item.TheVariants.{Read, Test}
use Rattle.maple_base.specs.Keys.{in_domain}
use Rattle.maple_base.specs.Questions.{same_field}
use Rattle.trace_tree.specs.declared.node.Leaf.{Leaf}
use Rattle.trace_tree.specs.Shape.{Shape, Branches, Empty, Ends, Reads, Tests, NoBranch, Branch}
use Rattle.trace_tree.specs.Growth.{change, insert, child, admits}
use Rattle.maple_base.specs.Questions.{among, asks_once}
use Rattle.trace_tree.specs.Bounds.{items_within, IsWithin, AreWithin, IsFresh, AreFresh, longest_of, longest_in}
use Rattle.trace_tree.proofs.Children.{change_past, change_ahead, change_here}
use Rattle.trace_tree.proofs.Growths.{both, same_field_is, admits_Empty}

pub child_within : (f : Field) (bs : Branches) (v : ℕ) → AreWithin f bs → IsWithin (child v bs)
child_within f NoBranch v h = tt
child_within f (Branch w t bs) v h =
    elim (v == w) as (λ b. IsWithin (cond b t (child v bs))) [ true ↦ h.1 | false ↦ child_within f bs v h.2 ]

within_change : (f : Field) (bs : Branches) (v : ℕ) (g : Shape → Shape) → in_domain f v ≡ true → IsWithin (g (child v bs)) → IsWithin (g Empty) → AreWithin f bs → AreWithin f (change v g bs)
within_change f NoBranch v g d at empty h = (d, empty, tt)
within_change f (Branch w t bs) v g d at empty h =
    ⊎_elim
    (λ same.
    let own : child v (Branch w t bs) ≡ t = ap (λ b. cond b t (child v bs)) (eq-eqb v w same) in
    subst (AreWithin f) (sym (change_here v g w t bs same)) (h.0, subst (λ u. IsWithin (g u)) own at, h.2))
    (⊎_elim (λ lt. subst (AreWithin f) (sym (change_ahead v g w t bs lt)) (d, empty, h))
    (λ gt.
    let ne : (v == w) ≡ false = grind (arith, nat_tests) in
    let next : child v (Branch w t bs) ≡ child v bs = ap (λ b. cond b t (child v bs)) ne in
    subst (AreWithin f) (sym (change_past v g w t bs gt)) (h.0, h.1, within_change f bs v g d (subst (λ u. IsWithin (g u)) next at) empty h.2)))
    (cases_order v w)

-- values in their domains stay there
pub within_insert : (is : List Item) (leaf : Leaf) (t : Shape) → admits is t ≡ true → items_within is ≡ true → IsWithin t → IsWithin (insert is leaf t)
within_insert [] leaf t a d h = tt
within_insert (Read f v ∷ is) leaf Empty a d h =
    let e = both (in_domain f v) (items_within is) d in
    (e.0, within_insert is leaf Empty (admits_Empty is) e.1 tt, tt)
within_insert (Read f v ∷ is) leaf (Ends l) a d h = absurd (cc)
within_insert (Read f v ∷ is) leaf (Reads g bs) a d h =
    let e = both (in_domain f v) (items_within is) d in
    let p = both (same_field f g) (admits is (child v bs)) a in
    let dom : in_domain g v ≡ true = ap (λ x. in_domain x v) (sym (same_field_is f g p.0)) ∙ e.0 in
    within_change g bs v (insert is leaf) dom (within_insert is leaf (child v bs) p.1 e.1 (child_within g bs v h)) (within_insert is leaf Empty (admits_Empty is) e.1 tt) h
within_insert (Read f v ∷ is) leaf (Tests g w n y) a d h = absurd (cc)
within_insert (Test f v true ∷ is) leaf Empty a d h =
    let e = both (in_domain f v) (items_within is) d in
    (e.0, tt, within_insert is leaf Empty (admits_Empty is) e.1 tt)
within_insert (Test f v false ∷ is) leaf Empty a d h =
    let e = both (in_domain f v) (items_within is) d in
    (e.0, within_insert is leaf Empty (admits_Empty is) e.1 tt, tt)
within_insert (Test f v b ∷ is) leaf (Ends l) a d h = absurd (cc)
within_insert (Test f v b ∷ is) leaf (Reads g bs) a d h = absurd (cc)
within_insert (Test f v true ∷ is) leaf (Tests g w n y) a d h =
    let e = both (in_domain f v) (items_within is) d in
    let p = both (same_field f g && v == w) (admits is y) a in
    (h.0, h.1, within_insert is leaf y p.1 e.1 h.2)
within_insert (Test f v false ∷ is) leaf (Tests g w n y) a d h =
    let e = both (in_domain f v) (items_within is) d in
    let p = both (same_field f g && v == w) (admits is n) a in
    (h.0, within_insert is leaf n p.1 e.1 h.1, h.2)

pub child_fresh : (fixed : List Field) (bs : Branches) (v : ℕ) → AreFresh fixed bs → IsFresh fixed (child v bs)
child_fresh fixed NoBranch v h = tt
child_fresh fixed (Branch w t bs) v h =
    elim (v == w) as (λ b. IsFresh fixed (cond b t (child v bs))) [ true ↦ h.0 | false ↦ child_fresh fixed bs v h.1 ]

fresh_change : (fixed : List Field) (bs : Branches) (v : ℕ) (g : Shape → Shape) → IsFresh fixed (g (child v bs)) → IsFresh fixed (g Empty) → AreFresh fixed bs → AreFresh fixed (change v g bs)
fresh_change fixed NoBranch v g at empty h = (empty, tt)
fresh_change fixed (Branch w t bs) v g at empty h =
    ⊎_elim
    (λ same.
    let own : child v (Branch w t bs) ≡ t = ap (λ b. cond b t (child v bs)) (eq-eqb v w same) in
    subst (AreFresh fixed) (sym (change_here v g w t bs same)) (subst (λ u. IsFresh fixed (g u)) own at, h.1))
    (⊎_elim (λ lt. subst (AreFresh fixed) (sym (change_ahead v g w t bs lt)) (empty, h))
    (λ gt.
    let ne : (v == w) ≡ false = grind (arith, nat_tests) in
    let next : child v (Branch w t bs) ≡ child v bs = ap (λ b. cond b t (child v bs)) ne in
    subst (AreFresh fixed) (sym (change_past v g w t bs gt)) (h.0, fresh_change fixed bs v g (subst (λ u. IsFresh fixed (g u)) next at) empty h.1)))
    (cases_order v w)

is_not : (b : Bool) → not b ≡ true → b ≡ false
is_not true h = absurd (cc)
is_not false h = refl

-- what was not asked twice is not asked twice
pub fresh_insert : (is : List Item) (leaf : Leaf) (t : Shape) (fixed : List Field) → admits is t ≡ true → asks_once fixed is ≡ true → IsFresh fixed t → IsFresh fixed (insert is leaf t)
fresh_insert [] leaf t fixed a d h = tt
fresh_insert (Read f v ∷ is) leaf Empty fixed a d h =
    let e = both (not (among fixed f)) (asks_once (f ∷ fixed) is) d in
    (is_not _ e.0, (fresh_insert is leaf Empty (f ∷ fixed) (admits_Empty is) e.1 tt, tt))
fresh_insert (Read f v ∷ is) leaf (Ends l) fixed a d h = absurd (cc)
fresh_insert (Read f v ∷ is) leaf (Reads g bs) fixed a d h =
    let e = both (not (among fixed f)) (asks_once (f ∷ fixed) is) d in
    let p = both (same_field f g) (admits is (child v bs)) a in
    let once : asks_once (g ∷ fixed) is ≡ true = ap (λ x. asks_once (x ∷ fixed) is) (sym (same_field_is f g p.0)) ∙ e.1 in
    (h.0, fresh_change (g ∷ fixed) bs v (insert is leaf) (fresh_insert is leaf (child v bs) (g ∷ fixed) p.1 once (child_fresh (g ∷ fixed) bs v h.1)) (fresh_insert is leaf Empty (g ∷ fixed) (admits_Empty is) once tt) h.1)
fresh_insert (Read f v ∷ is) leaf (Tests g w n y) fixed a d h = absurd (cc)
fresh_insert (Test f v true ∷ is) leaf Empty fixed a d h =
    let e = both (not (among fixed f)) (asks_once (f ∷ fixed) is) d in
    (is_not _ e.0, tt, fresh_insert is leaf Empty (f ∷ fixed) (admits_Empty is) e.1 tt)
fresh_insert (Test f v false ∷ is) leaf Empty fixed a d h =
    let e = both (not (among fixed f)) (asks_once fixed is) d in
    (is_not _ e.0, fresh_insert is leaf Empty fixed (admits_Empty is) e.1 tt, tt)
fresh_insert (Test f v b ∷ is) leaf (Ends l) fixed a d h = absurd (cc)
fresh_insert (Test f v b ∷ is) leaf (Reads g bs) fixed a d h = absurd (cc)
fresh_insert (Test f v true ∷ is) leaf (Tests g w n y) fixed a d h =
    let e = both (not (among fixed f)) (asks_once (f ∷ fixed) is) d in
    let p = both (same_field f g && v == w) (admits is y) a in
    let q = both (same_field f g) (v == w) p.0 in
    let once : asks_once (g ∷ fixed) is ≡ true = ap (λ x. asks_once (x ∷ fixed) is) (sym (same_field_is f g q.0)) ∙ e.1 in
    (h.0, h.1, fresh_insert is leaf y (g ∷ fixed) p.1 once h.2)
fresh_insert (Test f v false ∷ is) leaf (Tests g w n y) fixed a d h =
    let e = both (not (among fixed f)) (asks_once fixed is) d in
    let p = both (same_field f g && v == w) (admits is n) a in
    (h.0, fresh_insert is leaf n fixed p.1 e.1 h.1, h.2)

max_le : (m n k : ℕ) → m ≤ k → n ≤ k → max m n ≤ k
max_le m n k a b = omega arith

le_max : (m n k : ℕ) → max m n ≤ k → (m ≤ k) × (n ≤ k)
le_max m n k h = (omega arith, omega arith)

pub child_short : (bs : Branches) (v n : ℕ) → longest_in bs ≤ n → longest_of (child v bs) ≤ n
child_short NoBranch v n h = omega arith
child_short (Branch w t bs) v n h =
    let p = le_max (longest_of t) (longest_in bs) n h in
    elim (v == w) as (λ b. longest_of (cond b t (child v bs)) ≤ n) [ true ↦ p.0 | false ↦ child_short bs v n p.1 ]

short_change : (bs : Branches) (v n : ℕ) (g : Shape → Shape) → longest_of (g (child v bs)) ≤ n → longest_of (g Empty) ≤ n → longest_in bs ≤ n → longest_in (change v g bs) ≤ n
short_change NoBranch v n g at empty h = max_le (longest_of (g Empty)) 0 n empty (omega arith)
short_change (Branch w t bs) v n g at empty h =
    let p = le_max (longest_of t) (longest_in bs) n h in
    ⊎_elim
    (λ same.
    let own : child v (Branch w t bs) ≡ t = ap (λ b. cond b t (child v bs)) (eq-eqb v w same) in
    subst (λ x. longest_in x ≤ n) (sym (change_here v g w t bs same)) (max_le (longest_of (g t)) (longest_in bs) n (subst (λ u. longest_of (g u) ≤ n) own at) p.1))
    (⊎_elim (λ lt. subst (λ x. longest_in x ≤ n) (sym (change_ahead v g w t bs lt)) (max_le (longest_of (g Empty)) (longest_in (Branch w t bs)) n empty h))
    (λ gt.
    let ne : (v == w) ≡ false = grind (arith, nat_tests) in
    let next : child v (Branch w t bs) ≡ child v bs = ap (λ b. cond b t (child v bs)) ne in
    subst (λ x. longest_in x ≤ n) (sym (change_past v g w t bs gt)) (max_le (longest_of t) (longest_in (change v g bs)) n p.0 (short_change bs v n g (subst (λ u. longest_of (g u) ≤ n) next at) empty p.1))))
    (cases_order v w)

-- no path gets longer than the bound
pub short_insert : (is : List Item) (leaf : Leaf) (t : Shape) (n : ℕ) → admits is t ≡ true → length is ≤ n → longest_of t ≤ n → longest_of (insert is leaf t) ≤ n
short_insert [] leaf t n a d h = omega arith
short_insert (Read f v ∷ is) leaf Empty n a d h =
    let e = short_insert is leaf Empty (n - 1) (admits_Empty is) (omega arith) (omega arith) in
    let m = max_le (longest_of (insert is leaf Empty)) 0 (n - 1) e (omega arith) in
    omega (arith, m)
short_insert (Read f v ∷ is) leaf (Ends l) n a d h = absurd (cc)
short_insert (Read f v ∷ is) leaf (Reads g bs) n a d h =
    let p = both (same_field f g) (admits is (child v bs)) a in
    let in_bs : longest_in bs ≤ n - 1 = omega arith in
    let e = short_insert is leaf (child v bs) (n - 1) p.1 (omega arith) (child_short bs v (n - 1) in_bs) in
    let m = short_change bs v (n - 1) (insert is leaf) e (short_insert is leaf Empty (n - 1) (admits_Empty is) (omega arith) (omega arith)) in_bs in
    omega (arith, m)
short_insert (Read f v ∷ is) leaf (Tests g w k y) n a d h = absurd (cc)
short_insert (Test f v true ∷ is) leaf Empty n a d h =
    let e = short_insert is leaf Empty (n - 1) (admits_Empty is) (omega arith) (omega arith) in
    let m = max_le 0 (longest_of (insert is leaf Empty)) (n - 1) (omega arith) e in
    omega (arith, m)
short_insert (Test f v false ∷ is) leaf Empty n a d h =
    let e = short_insert is leaf Empty (n - 1) (admits_Empty is) (omega arith) (omega arith) in
    let m = max_le (longest_of (insert is leaf Empty)) 0 (n - 1) e (omega arith) in
    omega (arith, m)
short_insert (Test f v b ∷ is) leaf (Ends l) n a d h = absurd (cc)
short_insert (Test f v b ∷ is) leaf (Reads g bs) n a d h = absurd (cc)
short_insert (Test f v true ∷ is) leaf (Tests g w k y) n a d h =
    let p = both (same_field f g && v == w) (admits is y) a in
    let inner : max (longest_of k) (longest_of y) ≤ n - 1 = omega arith in
    let q = le_max (longest_of k) (longest_of y) (n - 1) inner in
    let e = short_insert is leaf y (n - 1) p.1 (omega arith) q.1 in
    let m = max_le (longest_of k) (longest_of (insert is leaf y)) (n - 1) q.0 e in
    omega (arith, m)
short_insert (Test f v false ∷ is) leaf (Tests g w k y) n a d h =
    let p = both (same_field f g && v == w) (admits is k) a in
    let inner : max (longest_of k) (longest_of y) ≤ n - 1 = omega arith in
    let q = le_max (longest_of k) (longest_of y) (n - 1) inner in
    let e = short_insert is leaf k (n - 1) p.1 (omega arith) q.0 in
    let m = max_le (longest_of (insert is leaf k)) (longest_of y) (n - 1) e q.1 in
    omega (arith, m)
