-- The tree that is left when leaves go is the tree of the traces that remain.
use Rattle.std.proofs.Common.{◌≡◌, ℕ, ◌<◌, Bool, true, false, cond, List, [], ◌∷◌, refl, sym, ap, ◌∙◌, subst, ⊎_elim, arith}
use Rattle.std.specs.Prelude.{◌==◌, ◌&&◌, filter}
use Rattle.std.proofs.lemmas.Bool.{cases_order, cases_Bool, eq-eqb, eqb-true}
use Rattle.std.proofs.lemmas.Bool.Decides.{nat_tests}
use Rattle.maple_base.specs.declared.key.Field.{Field}
use Rattle.maple_base.specs.declared.items.Item.{Item}
use Rattle.maple_base.specs.declared.items.Item.TheVariants.{Read, Test}
use Rattle.maple_base.specs.Questions.{same_field}
use Rattle.trace_tree.specs.declared.node.Trace.{Trace}
use Rattle.trace_tree.specs.declared.node.Leaf.{Leaf}
use Rattle.trace_tree.specs.Shape.{Shape, Branches, Empty, Ends, Reads, Tests, NoBranch, Branch}
use Rattle.trace_tree.specs.Kept.{is_empty, reads, branch, tests, kept, kept_in}
use Rattle.trace_tree.specs.Growth.{change, change_side, under, insert, leaf_of, grown, child, admits, IsBelow, IsOrdered, AreOrdered, AreAdmitted}
use Rattle.trace_tree.proofs.Children.{change_past, change_ahead, change_here}
use Rattle.trace_tree.proofs.Growths.{both, same_field_is, insert_ordered, admits_Empty, child_ordered, below_less}

abbrev IsFull : Shape → Type 0
IsFull t = is_empty t ≡ false

full_branch : (v : ℕ) (t : Shape) (bs : Branches) → IsFull t → branch v t bs ≡ Branch v t bs
full_branch v t bs h = ap (λ b. cond b bs (Branch v t bs)) h

full_no : (f : Field) (v : ℕ) (n y : Shape) → IsFull n → tests f v n y ≡ Tests f v n y
full_no f v n y h = ap (λ b. cond (b && is_empty y) Empty (Tests f v n y)) h

full_yes : (f : Field) (v : ℕ) (n y : Shape) → IsFull y → tests f v n y ≡ Tests f v n y
full_yes f v n y h = ap (λ b. cond (is_empty n && b) Empty (Tests f v n y)) h ∙ ap (λ b. cond b Empty (Tests f v n y)) (and_false (is_empty n))
  where
    and_false : (a : Bool) → (a && false) ≡ false
    and_false true = refl
    and_false false = refl

-- an insertion leaves no empty tree
insert_full : (is : List Item) (leaf : Leaf) (t : Shape) → IsFull (insert is leaf t)
insert_full [] leaf t = refl
insert_full (Read f v ∷ is) leaf Empty = refl
insert_full (Read f v ∷ is) leaf (Ends l) = refl
insert_full (Read f v ∷ is) leaf (Reads g bs) = refl
insert_full (Read f v ∷ is) leaf (Tests g w n y) = refl
insert_full (Test f v true ∷ is) leaf Empty = refl
insert_full (Test f v true ∷ is) leaf (Ends l) = refl
insert_full (Test f v true ∷ is) leaf (Reads g bs) = refl
insert_full (Test f v true ∷ is) leaf (Tests g w n y) = refl
insert_full (Test f v false ∷ is) leaf Empty = refl
insert_full (Test f v false ∷ is) leaf (Ends l) = refl
insert_full (Test f v false ∷ is) leaf (Reads g bs) = refl
insert_full (Test f v false ∷ is) leaf (Tests g w n y) = refl

below_branch : (v u : ℕ) (t : Shape) (bs : Branches) → v < u → IsBelow v bs → IsBelow v (branch u t bs)
below_branch v u t bs lt h = elim (is_empty t) as (λ b. IsBelow v (cond b bs (Branch u t bs))) [ true ↦ h | false ↦ (lt, h) ]

module _ (p : Leaf → Bool) where
  kept_below : (bs : Branches) (v : ℕ) → IsBelow v bs → IsBelow v (kept_in p bs)
  kept_below NoBranch v h = tt
  kept_below (Branch w t bs) v h = below_branch v w (kept p t) (kept_in p bs) h.0 (kept_below bs v h.1)

  change_first : (bs : Branches) (v : ℕ) (g : Shape → Shape) → IsBelow v bs → change v g bs ≡ Branch v (g Empty) bs
  change_first NoBranch v g h = refl
  change_first (Branch w t bs) v g h = change_ahead v g w t bs h.0

  -- a change of a trace that is left out
  lost_change : (bs : Branches) (v : ℕ) (g : Shape → Shape) → kept p (g (child v bs)) ≡ kept p (child v bs) → kept p (g Empty) ≡ Empty → kept_in p (change v g bs) ≡ kept_in p bs
  lost_change NoBranch v g at empty = ap (λ t. branch v t NoBranch) empty
  lost_change (Branch w t bs) v g at empty =
      ⊎_elim
      (λ same.
      let own : child v (Branch w t bs) ≡ t = ap (λ b. cond b t (child v bs)) (eq-eqb v w same) in
      ap (kept_in p) (change_here v g w t bs same) ∙ ap (λ x. branch w x (kept_in p bs)) (subst (λ x. kept p (g x) ≡ kept p x) own at))
      (⊎_elim (λ lt. ap (kept_in p) (change_ahead v g w t bs lt) ∙ ap (λ x. branch v x (kept_in p (Branch w t bs))) empty)
      (λ gt.
      let ne : (v == w) ≡ false = grind (arith, nat_tests) in
      let next : child v (Branch w t bs) ≡ child v bs = ap (λ b. cond b t (child v bs)) ne in
      ap (kept_in p) (change_past v g w t bs gt) ∙ ap (branch w (kept p t)) (lost_change bs v g (subst (λ x. kept p (g x) ≡ kept p x) next at) empty)))
      (cases_order v w)

  past_branch : (v w : ℕ) (g : Shape → Shape) (t : Shape) (bs : Branches) → w < v → branch w t (change v g bs) ≡ change v g (branch w t bs)
  past_branch v w g t bs gt =
      elim (is_empty t) as (λ b. cond b (change v g bs) (Branch w t (change v g bs)) ≡ change v g (cond b bs (Branch w t bs))) [ true ↦ refl | false ↦ sym (change_past v g w t bs gt) ]

  here_branch : (v : ℕ) (g : Shape → Shape) (t : Shape) (bs : Branches) → IsBelow v bs → Branch v (g t) bs ≡ change v g (branch v t bs)
  here_branch v g Empty bs h = sym (change_first bs v g h)
  here_branch v g (Ends l) bs h = sym (change_here v g v (Ends l) bs refl)
  here_branch v g (Reads f cs) bs h = sym (change_here v g v (Reads f cs) bs refl)
  here_branch v g (Tests f u n y) bs h = sym (change_here v g v (Tests f u n y) bs refl)

  -- a change of a trace that stays
  kept_change : (bs : Branches) (v : ℕ) (g : Shape → Shape) → AreOrdered bs → ((t : Shape) → IsFull (g t)) → kept p (g (child v bs)) ≡ g (kept p (child v bs)) → kept p (g Empty) ≡ g Empty → kept_in p (change v g bs) ≡ change v g (kept_in p bs)
  kept_change NoBranch v g o full at empty = ap (λ t. branch v t NoBranch) empty ∙ full_branch v (g Empty) NoBranch (full Empty)
  kept_change (Branch w t bs) v g o full at empty =
      ⊎_elim
      (λ same.
      let own : child v (Branch w t bs) ≡ t = ap (λ b. cond b t (child v bs)) (eq-eqb v w same) in
      let at' = subst (λ x. kept p (g x) ≡ g (kept p x)) own at in
      let P : ℕ → Type 0 = λ u. Branch u (g (kept p t)) (kept_in p bs) ≡ change v g (branch u (kept p t) (kept_in p bs)) in
      ap (kept_in p) (change_here v g w t bs same) ∙ ap (λ x. branch w x (kept_in p bs)) at' ∙ full_branch w (g (kept p t)) (kept_in p bs) (full (kept p t))
      ∙ subst P same (here_branch v g (kept p t) (kept_in p bs) (kept_below bs v (subst (λ u. IsBelow u bs) (sym same) o.0))))
      (⊎_elim
      (λ lt.
      let below = kept_below (Branch w t bs) v (lt, below_less bs v w lt o.0) in
      ap (kept_in p) (change_ahead v g w t bs lt) ∙ ap (λ x. branch v x (kept_in p (Branch w t bs))) empty ∙ full_branch v (g Empty) (kept_in p (Branch w t bs)) (full Empty)
      ∙ sym (change_first (kept_in p (Branch w t bs)) v g below))
      (λ gt.
      let ne : (v == w) ≡ false = grind (arith, nat_tests) in
      let next : child v (Branch w t bs) ≡ child v bs = ap (λ b. cond b t (child v bs)) ne in
      ap (kept_in p) (change_past v g w t bs gt)
      ∙ ap (branch w (kept p t)) (kept_change bs v g o.2 full (subst (λ x. kept p (g x) ≡ g (kept p x)) next at) empty)
      ∙ past_branch v w g (kept p t) (kept_in p bs) gt))
      (cases_order v w)

  -- what an insertion under a read does to what is kept
  under_reads : (f : Field) (v : ℕ) (g : Shape → Shape) (bs : Branches) → Reads f (change v g bs) ≡ under (Read f v) g (reads f bs)
  under_reads f v g NoBranch = refl
  under_reads f v g (Branch w t bs) = refl

  full_reads : (f : Field) (v : ℕ) (g : Shape → Shape) (bs : Branches) → reads f (change v g bs) ≡ Reads f (change v g bs)
  full_reads f v g NoBranch = refl
  full_reads f v g (Branch w t bs) =
      ⊎_elim (λ same. ap (reads f) (change_here v g w t bs same) ∙ ap (Reads f) (sym (change_here v g w t bs same)))
      (⊎_elim (λ lt. ap (reads f) (change_ahead v g w t bs lt) ∙ ap (Reads f) (sym (change_ahead v g w t bs lt)))
      (λ gt. ap (reads f) (change_past v g w t bs gt) ∙ ap (Reads f) (sym (change_past v g w t bs gt))))
      (cases_order v w)

  under_tests : (f : Field) (v : ℕ) (a : Bool) (g : Shape → Shape) (n y : Shape) → change_side a g f v n y ≡ under (Test f v a) g (tests f v n y)
  under_tests f v a g Empty Empty = refl
  under_tests f v a g Empty (Ends l) = refl
  under_tests f v a g Empty (Reads h cs) = refl
  under_tests f v a g Empty (Tests h w m z) = refl
  under_tests f v a g (Ends l) y = refl
  under_tests f v a g (Reads h cs) y = refl
  under_tests f v a g (Tests h w m z) y = refl

  kept_no : (is : List Item) (leaf : Leaf) (t : Shape) → p leaf ≡ false → admits is t ≡ true → kept p (insert is leaf t) ≡ kept p t
  kept_no [] leaf Empty e a = ap (λ b. cond b (Ends leaf) Empty) e
  kept_no [] leaf (Ends l) e a = absurd (cc)
  kept_no [] leaf (Reads h bs) e a = absurd (cc)
  kept_no [] leaf (Tests h w n y) e a = absurd (cc)
  kept_no (Read f v ∷ is) leaf Empty e a = ap (λ t. reads f (branch v t NoBranch)) (kept_no is leaf Empty e (admits_Empty is))
  kept_no (Read f v ∷ is) leaf (Ends l) e a = absurd (cc)
  kept_no (Read f v ∷ is) leaf (Reads h bs) e a =
      let q = both (same_field f h) (admits is (child v bs)) a in
      ap (reads h) (lost_change bs v (insert is leaf) (kept_no is leaf (child v bs) e q.1) (kept_no is leaf Empty e (admits_Empty is)))
  kept_no (Read f v ∷ is) leaf (Tests h w n y) e a = absurd (cc)
  kept_no (Test f v true ∷ is) leaf Empty e a = ap (tests f v Empty) (kept_no is leaf Empty e (admits_Empty is))
  kept_no (Test f v false ∷ is) leaf Empty e a = ap (λ t. tests f v t Empty) (kept_no is leaf Empty e (admits_Empty is))
  kept_no (Test f v b ∷ is) leaf (Ends l) e a = absurd (cc)
  kept_no (Test f v b ∷ is) leaf (Reads h bs) e a = absurd (cc)
  kept_no (Test f v true ∷ is) leaf (Tests h w n y) e a =
      let q = both (same_field f h && v == w) (admits is y) a in ap (tests h w (kept p n)) (kept_no is leaf y e q.1)
  kept_no (Test f v false ∷ is) leaf (Tests h w n y) e a =
      let q = both (same_field f h && v == w) (admits is n) a in ap (λ t. tests h w t (kept p y)) (kept_no is leaf n e q.1)

  kept_yes : (is : List Item) (leaf : Leaf) (t : Shape) → p leaf ≡ true → IsOrdered t → admits is t ≡ true → kept p (insert is leaf t) ≡ insert is leaf (kept p t)
  kept_yes [] leaf Empty e o a = ap (λ b. cond b (Ends leaf) Empty) e
  kept_yes [] leaf (Ends l) e o a = absurd (cc)
  kept_yes [] leaf (Reads h bs) e o a = absurd (cc)
  kept_yes [] leaf (Tests h w n y) e o a = absurd (cc)
  kept_yes (Read f v ∷ is) leaf Empty e o a =
      ap (λ t. reads f (branch v t NoBranch)) (kept_yes is leaf Empty e tt (admits_Empty is)) ∙ ap (reads f) (full_branch v (insert is leaf Empty) NoBranch (insert_full is leaf Empty))
  kept_yes (Read f v ∷ is) leaf (Ends l) e o a = absurd (cc)
  kept_yes (Read f v ∷ is) leaf (Reads h bs) e o a =
      let q = both (same_field f h) (admits is (child v bs)) a in
      let g = insert is leaf in
      let at = kept_yes is leaf (child v bs) e (child_ordered bs v o) q.1 in
      ap (reads h) (kept_change bs v g o (insert_full is leaf) at (kept_yes is leaf Empty e tt (admits_Empty is)))
      ∙ full_reads h v g (kept_in p bs) ∙ under_reads h v g (kept_in p bs)
      ∙ ap (λ x. under (Read x v) g (reads h (kept_in p bs))) (sym (same_field_is f h q.0))
  kept_yes (Read f v ∷ is) leaf (Tests h w n y) e o a = absurd (cc)
  kept_yes (Test f v true ∷ is) leaf Empty e o a =
      ap (tests f v Empty) (kept_yes is leaf Empty e tt (admits_Empty is)) ∙ full_yes f v Empty (insert is leaf Empty) (insert_full is leaf Empty)
  kept_yes (Test f v false ∷ is) leaf Empty e o a =
      ap (λ t. tests f v t Empty) (kept_yes is leaf Empty e tt (admits_Empty is)) ∙ full_no f v (insert is leaf Empty) Empty (insert_full is leaf Empty)
  kept_yes (Test f v b ∷ is) leaf (Ends l) e o a = absurd (cc)
  kept_yes (Test f v b ∷ is) leaf (Reads h bs) e o a = absurd (cc)
  kept_yes (Test f v true ∷ is) leaf (Tests h w n y) e o a =
      let q = both (same_field f h && v == w) (admits is y) a in
      let r = both (same_field f h) (v == w) q.0 in
      ap (tests h w (kept p n)) (kept_yes is leaf y e o.1 q.1) ∙ full_yes h w (kept p n) (insert is leaf (kept p y)) (insert_full is leaf (kept p y))
      ∙ under_tests h w true (insert is leaf) (kept p n) (kept p y)
      ∙ ap (λ x. under (Test x w true) (insert is leaf) (tests h w (kept p n) (kept p y))) (sym (same_field_is f h r.0))
      ∙ ap (λ x. under (Test f x true) (insert is leaf) (tests h w (kept p n) (kept p y))) (sym (eqb-true v w r.1))
  kept_yes (Test f v false ∷ is) leaf (Tests h w n y) e o a =
      let q = both (same_field f h && v == w) (admits is n) a in
      let r = both (same_field f h) (v == w) q.0 in
      ap (λ t. tests h w t (kept p y)) (kept_yes is leaf n e o.0 q.1) ∙ full_no h w (insert is leaf (kept p n)) (kept p y) (insert_full is leaf (kept p n))
      ∙ under_tests h w false (insert is leaf) (kept p n) (kept p y)
      ∙ ap (λ x. under (Test x w false) (insert is leaf) (tests h w (kept p n) (kept p y))) (sym (same_field_is f h r.0))
      ∙ ap (λ x. under (Test f x false) (insert is leaf) (tests h w (kept p n) (kept p y))) (sym (eqb-true v w r.1))

  -- what is kept of a grown tree is what grows from the traces that pass
  pub kept_grown : (rs : List Trace) (t : Shape) → IsOrdered t → AreAdmitted t rs → kept p (grown t rs) ≡ grown (kept p t) (filter (λ r. p (leaf_of r)) rs)
  kept_grown [] t o a = refl
  kept_grown (r ∷ rs) t o a =
      let leaf = leaf_of r in
      kept_grown rs (insert r.items leaf t) (insert_ordered r.items leaf t o) a.1
      ∙ ⊎_elim
      (λ e. ap (λ x. grown x (filter (λ r. p (leaf_of r)) rs)) (kept_yes r.items leaf t e o a.0) ∙ ap (λ b. grown (kept p t) (cond b (r ∷ filter (λ r. p (leaf_of r)) rs) (filter (λ r. p (leaf_of r)) rs))) (sym e))
      (λ e. ap (λ x. grown x (filter (λ r. p (leaf_of r)) rs)) (kept_no r.items leaf t e a.0) ∙ ap (λ b. grown (kept p t) (cond b (r ∷ filter (λ r. p (leaf_of r)) rs) (filter (λ r. p (leaf_of r)) rs))) (sym e))
      (cases_Bool (p leaf))
