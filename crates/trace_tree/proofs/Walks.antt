-- Steps along an item, and the way back.
use Rattle.std.proofs.Common.{◌≡◌, ℕ, zero, suc, ◌<◌, ◌≤◌, true, false, cond, List, [], ◌∷◌, length, drop, get_or, refl, sym, ap, ◌∙◌, subst, ⊎_elim, arith}
use Rattle.std.specs.Prelude.{◌==◌, ◌&&◌}
use Rattle.std.proofs.Math.Seq.{drop-cons}
use Rattle.std.proofs.lemmas.Bool.{cases_order, eq-eqb}
use Rattle.std.proofs.lemmas.Bool.Decides.{nat_tests}
use Rattle.maple_base.specs.declared.key.Field.{Field}
use Rattle.maple_base.specs.declared.key.Field.TheVariants.{InPort}
use Rattle.maple_base.specs.declared.items.Item.{Item}
use Rattle.maple_base.specs.declared.items.Item.TheVariants.{Read, Test}
use Rattle.maple_base.specs.Questions.{same_field}
use Rattle.trace_tree.specs.declared.node.Leaf.{Leaf}
use Rattle.trace_tree.specs.Shape.{Shape, Branches, Empty, Ends, Reads, Tests, NoBranch, Branch}
use Rattle.trace_tree.specs.Growth.{change, under, insert, child, side, admits, IsBelow, IsOrdered, AreOrdered}
use Rattle.trace_tree.specs.Walks.{has_branch, leads, behind, put_behind, EndsIn}
use Rattle.trace_tree.proofs.Children.{change_past, change_ahead, change_here}
use Rattle.trace_tree.proofs.Growths.{both, child_change, child_ordered, child_below, under_ordered}

has_below : (bs : Branches) (v w : ℕ) → v ≤ w → IsBelow w bs → has_branch v bs ≡ false
has_below NoBranch v w le h = refl
has_below (Branch u t bs) v w le h =
    let ne : (v == u) ≡ false = grind (arith, nat_tests) in
    ap (λ b. cond b true (has_branch v bs)) ne ∙ has_below bs v w le h.1

-- a value below the first branch's has none
pub has_ahead : (v w : ℕ) (t : Shape) (bs : Branches) → v < w → AreOrdered (Branch w t bs) → has_branch v (Branch w t bs) ≡ false
has_ahead v w t bs lt o =
    let ne : (v == w) ≡ false = grind (arith, nat_tests) in
    let le : v ≤ w = omega arith in
    ap (λ b. cond b true (has_branch v bs)) ne ∙ has_below bs v w le o.0

pub has_here : (v w : ℕ) (t : Shape) (bs : Branches) → v ≡ w → has_branch v (Branch w t bs) ≡ true
has_here v w t bs e = ap (λ b. cond b true (has_branch v bs)) (eq-eqb v w e)

pub has_past : (v w : ℕ) (t : Shape) (bs : Branches) → w < v → has_branch v (Branch w t bs) ≡ has_branch v bs
has_past v w t bs gt =
    let ne : (v == w) ≡ false = grind (arith, nat_tests) in
    ap (λ b. cond b true (has_branch v bs)) ne

has_change : (bs : Branches) (v : ℕ) (g : Shape → Shape) → has_branch v (change v g bs) ≡ true
has_change NoBranch v g = has_here v v (g Empty) NoBranch refl
has_change (Branch w t bs) v g =
    ⊎_elim (λ same. ap (has_branch v) (change_here v g w t bs same) ∙ has_here v w (g t) bs same)
    (⊎_elim (λ lt. ap (has_branch v) (change_ahead v g w t bs lt) ∙ has_here v v (g Empty) (Branch w t bs) refl)
    (λ gt. ap (has_branch v) (change_past v g w t bs gt) ∙ has_past v w t (change v g bs) gt ∙ has_change bs v g))
    (cases_order v w)

-- the later of two changes stands
change_twice : (bs : Branches) (v : ℕ) (t u : Shape) → change v (λ _. t) (change v (λ _. u) bs) ≡ change v (λ _. t) bs
change_twice NoBranch v t u = change_here v (λ _. t) v u NoBranch refl
change_twice (Branch w x bs) v t u =
    ⊎_elim
    (λ same. ap (change v (λ _. t)) (change_here v (λ _. u) w x bs same) ∙ change_here v (λ _. t) w u bs same ∙ sym (change_here v (λ _. t) w x bs same))
    (⊎_elim
    (λ lt. ap (change v (λ _. t)) (change_ahead v (λ _. u) w x bs lt) ∙ change_here v (λ _. t) v u (Branch w x bs) refl ∙ sym (change_ahead v (λ _. t) w x bs lt))
    (λ gt.
    ap (change v (λ _. t)) (change_past v (λ _. u) w x bs gt) ∙ change_past v (λ _. t) w x (change v (λ _. u) bs) gt ∙ ap (Branch w x) (change_twice bs v t u)
    ∙ sym (change_past v (λ _. t) w x bs gt)))
    (cases_order v w)

-- a change is the exchange of one child for the changed one
change_once : (bs : Branches) (v : ℕ) (g : Shape → Shape) → AreOrdered bs → change v (λ _. g (child v bs)) bs ≡ change v g bs
change_once NoBranch v g o = refl
change_once (Branch w t bs) v g o =
    ⊎_elim
    (λ same.
    let own : child v (Branch w t bs) ≡ t = ap (λ b. cond b t (child v bs)) (eq-eqb v w same) in
    change_here v (λ _. g (child v (Branch w t bs))) w t bs same ∙ ap (λ u. Branch w (g u) bs) own ∙ sym (change_here v g w t bs same))
    (⊎_elim
    (λ lt.
    let le : v ≤ w = omega arith in
    let ne : (v == w) ≡ false = grind (arith, nat_tests) in
    let gap : child v (Branch w t bs) ≡ Empty = ap (λ b. cond b t (child v bs)) ne ∙ child_below bs v w le o.0 in
    change_ahead v (λ _. g (child v (Branch w t bs))) w t bs lt ∙ ap (λ u. Branch v (g u) (Branch w t bs)) gap ∙ sym (change_ahead v g w t bs lt))
    (λ gt.
    let ne : (v == w) ≡ false = grind (arith, nat_tests) in
    let next : child v (Branch w t bs) ≡ child v bs = ap (λ b. cond b t (child v bs)) ne in
    change_past v (λ _. g (child v (Branch w t bs))) w t bs gt ∙ ap (λ u. Branch w t (change v (λ _. g u) bs)) next ∙ ap (Branch w t) (change_once bs v g o.2)
    ∙ sym (change_past v g w t bs gt)))
    (cases_order v w)

change_same : (bs : Branches) (v : ℕ) → AreOrdered bs → has_branch v bs ≡ true → change v (λ u. u) bs ≡ bs
change_same NoBranch v o h = absurd (cc)
change_same (Branch w t bs) v o h =
    ⊎_elim (λ same. change_here v (λ u. u) w t bs same)
    (⊎_elim (λ lt. absurd (cc (has_ahead v w t bs lt o)))
    (λ gt. change_past v (λ u. u) w t bs gt ∙ ap (Branch w t) (change_same bs v o.2 (sym (has_past v w t bs gt) ∙ h))))
    (cases_order v w)

-- what is put behind an answer stands behind it
pub behind_put : (i : Item) (u t : Shape) → leads i t ≡ true → IsOrdered t → behind i (put_behind i u t) ≡ u
behind_put (Read f v) u Empty l o = absurd (cc)
behind_put (Read f v) u (Ends x) l o = absurd (cc)
behind_put (Read f v) u (Reads h bs) l o = child_change bs v v (λ _. u) o ∙ ap (λ b. cond b u (child v bs)) (eq-eqb v v refl)
behind_put (Read f v) u (Tests h w n y) l o = absurd (cc)
behind_put (Test f v a) u Empty l o = absurd (cc)
behind_put (Test f v a) u (Ends x) l o = absurd (cc)
behind_put (Test f v a) u (Reads h bs) l o = absurd (cc)
behind_put (Test f v true) u (Tests h w n y) l o = refl
behind_put (Test f v false) u (Tests h w n y) l o = refl

pub leads_put : (i : Item) (u t : Shape) → leads i t ≡ true → leads i (put_behind i u t) ≡ true
leads_put (Read f v) u Empty l = absurd (cc)
leads_put (Read f v) u (Ends x) l = absurd (cc)
leads_put (Read f v) u (Reads h bs) l = has_change bs v (λ _. u)
leads_put (Read f v) u (Tests h w n y) l = absurd (cc)
leads_put (Test f v a) u Empty l = absurd (cc)
leads_put (Test f v a) u (Ends x) l = absurd (cc)
leads_put (Test f v a) u (Reads h bs) l = absurd (cc)
leads_put (Test f v true) u (Tests h w n y) l = refl
leads_put (Test f v false) u (Tests h w n y) l = refl

pub put_put : (i : Item) (x u t : Shape) → leads i t ≡ true → put_behind i x (put_behind i u t) ≡ put_behind i x t
put_put (Read f v) x u Empty l = absurd (cc)
put_put (Read f v) x u (Ends z) l = absurd (cc)
put_put (Read f v) x u (Reads h bs) l = ap (Reads h) (change_twice bs v x u)
put_put (Read f v) x u (Tests h w n y) l = absurd (cc)
put_put (Test f v a) x u Empty l = absurd (cc)
put_put (Test f v a) x u (Ends z) l = absurd (cc)
put_put (Test f v a) x u (Reads h bs) l = absurd (cc)
put_put (Test f v true) x u (Tests h w n y) l = refl
put_put (Test f v false) x u (Tests h w n y) l = refl

pub put_changed : (i : Item) (g : Shape → Shape) (t : Shape) → leads i t ≡ true → IsOrdered t → put_behind i (g (behind i t)) t ≡ under i g t
put_changed (Read f v) g Empty l o = absurd (cc)
put_changed (Read f v) g (Ends z) l o = absurd (cc)
put_changed (Read f v) g (Reads h bs) l o = ap (Reads h) (change_once bs v g o)
put_changed (Read f v) g (Tests h w n y) l o = absurd (cc)
put_changed (Test f v a) g Empty l o = absurd (cc)
put_changed (Test f v a) g (Ends z) l o = absurd (cc)
put_changed (Test f v a) g (Reads h bs) l o = absurd (cc)
put_changed (Test f v true) g (Tests h w n y) l o = refl
put_changed (Test f v false) g (Tests h w n y) l o = refl

pub put_same : (i : Item) (t : Shape) → leads i t ≡ true → IsOrdered t → put_behind i (behind i t) t ≡ t
put_same (Read f v) Empty l o = absurd (cc)
put_same (Read f v) (Ends z) l o = absurd (cc)
put_same (Read f v) (Reads h bs) l o = ap (Reads h) (change_once bs v (λ u. u) o ∙ change_same bs v o l)
put_same (Read f v) (Tests h w n y) l o = absurd (cc)
put_same (Test f v a) Empty l o = absurd (cc)
put_same (Test f v a) (Ends z) l o = absurd (cc)
put_same (Test f v a) (Reads h bs) l o = absurd (cc)
put_same (Test f v true) (Tests h w n y) l o = refl
put_same (Test f v false) (Tests h w n y) l o = refl

pub behind_ordered : (i : Item) (t : Shape) → IsOrdered t → IsOrdered (behind i t)
behind_ordered (Read f v) Empty o = tt
behind_ordered (Read f v) (Ends z) o = tt
behind_ordered (Read f v) (Reads h bs) o = child_ordered bs v o
behind_ordered (Read f v) (Tests h w n y) o = tt
behind_ordered (Test f v a) Empty o = tt
behind_ordered (Test f v a) (Ends z) o = tt
behind_ordered (Test f v a) (Reads h bs) o = tt
behind_ordered (Test f v true) (Tests h w n y) o = o.1
behind_ordered (Test f v false) (Tests h w n y) o = o.0

pub put_ordered : (i : Item) (u t : Shape) → IsOrdered u → IsOrdered t → IsOrdered (put_behind i u t)
put_ordered i u t ou ot = under_ordered i (λ _. u) t (λ _ _. ou) ot

pub behind_admits : (i : Item) (is : List Item) (t : Shape) → leads i t ≡ true → admits (i ∷ is) t ≡ true → admits is (behind i t) ≡ true
behind_admits (Read f v) is Empty l a = absurd (cc)
behind_admits (Read f v) is (Ends z) l a = absurd (cc)
behind_admits (Read f v) is (Reads h bs) l a = (both (same_field f h) (admits is (child v bs)) a).1
behind_admits (Read f v) is (Tests h w n y) l a = absurd (cc)
behind_admits (Test f v b) is Empty l a = absurd (cc)
behind_admits (Test f v b) is (Ends z) l a = absurd (cc)
behind_admits (Test f v b) is (Reads h bs) l a = absurd (cc)
behind_admits (Test f v b) is (Tests h w n y) l a = (both (same_field f h && v == w) (admits is (side b n y)) a).1

abbrev pub item_at : List Item → ℕ → Item
item_at is n = get_or is n (Read InPort 0)

-- the tree once the nodes that wait took their places again
abbrev pub joined : List Item → ℕ → Shape → Shape → Shape
joined is zero up t = t
joined is (suc n) up t = joined is n (behind (item_at is n) up) (put_behind (item_at is n) t up)

-- each node that waits has a branch for its item
abbrev pub IsLadder : List Item → ℕ → Shape → Type 0
IsLadder is zero up = Unit {0}
IsLadder is (suc n) up = (leads (item_at is n) up ≡ true) × IsLadder is n (behind (item_at is n) up)

-- how a walk down stands: what waits above and the tree here are the whole tree
pub record IsDown (is : List Item) (leaf : Leaf) (whole : Shape) (n : ℕ) (up t : Shape) : Type 0 where
  pub within : n ≤ length is
  pub ladder : IsLadder is n up
  pub upper : IsOrdered up
  pub lower : IsOrdered t
  pub admitted : admits (drop n is) t ≡ true
  pub same : joined is n up t ≡ whole
  pub grows : joined is n up (insert (drop n is) leaf t) ≡ insert is leaf whole

pub down_begins : (is : List Item) (leaf : Leaf) (t : Shape) → IsOrdered t → admits is t ≡ true → IsDown is leaf t 0 Empty t
down_begins is leaf t o a = record { within = omega arith; ladder = tt; upper = tt; lower = o; admitted = a; same = refl; grows = refl }

-- a step down
pub down_step : (is : List Item) (leaf : Leaf) (whole : Shape) (n : ℕ) (up t : Shape) → n < length is → leads (item_at is n) t ≡ true → IsDown is leaf whole n up t → IsDown is leaf whole (suc n) (put_behind (item_at is n) up t) (behind (item_at is n) t)
down_step is leaf whole n up t lt l d =
    let i = item_at is n in
    let first : drop n is ≡ i ∷ drop (suc n) is = drop-cons is n (Read InPort 0) lt in
    let back = behind_put i up t l d.lower in
    let admitted : admits (i ∷ drop (suc n) is) t ≡ true = ap (λ js. admits js t) (sym first) ∙ d.admitted in
    let rejoin = λ (x : Shape). ap (λ u. joined is n u (put_behind i x (put_behind i up t))) back ∙ ap (joined is n up) (put_put i x up t l) in
    record {
      within = omega arith;
      ladder = (leads_put i up t l, subst (IsLadder is n) (sym back) d.ladder);
      upper = put_ordered i up t d.upper d.lower;
      lower = behind_ordered i t d.lower;
      admitted = behind_admits i (drop (suc n) is) t l admitted;
      same = rejoin (behind i t) ∙ ap (joined is n up) (put_same i t l d.lower) ∙ d.same;
      grows = rejoin (insert (drop (suc n) is) leaf (behind i t)) ∙ ap (joined is n up) (put_changed i (insert (drop (suc n) is) leaf) t l d.lower) ∙ ap (λ js. joined is n up (insert js leaf t)) (sym first) ∙ d.grows;
    }

-- how a walk back stands
pub record IsUp (is : List Item) (whole : Shape) (n : ℕ) (up t : Shape) : Type 0 where
  pub within : n ≤ length is
  pub ladder : IsLadder is n up
  pub upper : IsOrdered up
  pub same : joined is n up t ≡ whole

pub up_step : (is : List Item) (whole : Shape) (n : ℕ) (up t : Shape) → IsUp is whole (suc n) up t → IsUp is whole n (behind (item_at is n) up) (put_behind (item_at is n) t up)
up_step is whole n up t u =
    record { within = omega (arith, u.within); ladder = u.ladder.1; upper = behind_ordered (item_at is n) up u.upper; same = u.same }

-- one more item ahead of a path
pub put_Empty : (i : Item) (is : List Item) (leaf : Leaf) → put_behind i (insert is leaf Empty) Empty ≡ insert (i ∷ is) leaf Empty
put_Empty (Read f v) is leaf = refl
put_Empty (Test f v true) is leaf = refl
put_Empty (Test f v false) is leaf = refl

not_Empty : (is : List Item) (leaf : Leaf) (f : Field) (v : ℕ) → EndsIn leaf (insert is leaf Empty) → EndsIn leaf (Tests f v (insert is leaf Empty) Empty)
not_Empty [] leaf f v e = e
not_Empty (Read g w ∷ is) leaf f v e = e
not_Empty (Test g w true ∷ is) leaf f v e = e
not_Empty (Test g w false ∷ is) leaf f v e = e

-- a path ends in its leaf
pub path_ends : (is : List Item) (leaf : Leaf) → EndsIn leaf (insert is leaf Empty)
path_ends [] leaf = refl
path_ends (Read f v ∷ is) leaf = path_ends is leaf
path_ends (Test f v true ∷ is) leaf = path_ends is leaf
path_ends (Test f v false ∷ is) leaf = not_Empty is leaf f v (path_ends is leaf)
