-- What a tree keeps to when leaves go.
use Rattle.std.proofs.Common.{◌≡◌, ℕ, ◌≤◌, Bool, true, false, cond, List, ◌∷◌, sym, ap, ◌∙◌, subst, arith}
use Rattle.std.specs.Prelude.{◌&&◌}
use Rattle.maple_base.specs.declared.key.Field.{Field}
use Rattle.trace_tree.specs.declared.node.Leaf.{Leaf}
use Rattle.trace_tree.specs.Shape.{Shape, Branches, Empty, Ends, Reads, Tests, NoBranch, Branch}
use Rattle.trace_tree.specs.Growth.{IsBelow, IsOrdered, AreOrdered}
use Rattle.trace_tree.specs.Bounds.{IsWithin, AreWithin, IsFresh, AreFresh, longest_of, longest_in}
use Rattle.trace_tree.specs.Kept.{is_empty, reads, branch, tests, kept, kept_in, IsKept, AreKept, AnswersBy}

-- what holds of nothing and of a node holds of the node, left out where it is empty
pub is_ends : (P : Shape → Type 0) (b : Bool) (l : Leaf) (u : Shape) → u ≡ cond b (Ends l) Empty → P Empty → P (Ends l) → P u
is_ends P true l u e none some = subst P (sym e) some
is_ends P false l u e none some = subst P (sym e) none

pub is_reads : (P : Shape → Type 0) (f : Field) (bs : Branches) (u : Shape) → u ≡ reads f bs → P Empty → P (Reads f bs) → P u
is_reads P f NoBranch u e none some = subst P (sym e) none
is_reads P f (Branch v t bs) u e none some = subst P (sym e) some

pub is_tests : (P : Shape → Type 0) (f : Field) (v : ℕ) (n y u : Shape) → u ≡ tests f v n y → P Empty → P (Tests f v n y) → P u
is_tests P f v n y u e none some = subst P (sym e) (elim (is_empty n && is_empty y) as (λ b. P (cond b Empty (Tests f v n y))) [ true ↦ none | false ↦ some ])

pub is_branch : (P : Branches → Type 0) (v : ℕ) (t : Shape) (bs cs : Branches) → cs ≡ branch v t bs → P bs → P (Branch v t bs) → P cs
is_branch P v t bs cs e none some = subst P (sym e) (elim (is_empty t) as (λ b. P (cond b bs (Branch v t bs))) [ true ↦ none | false ↦ some ])

module _ (A : Leaf → Bool → Type 0) where
  mutual
    -- where the answers are p's, what is kept is what p keeps
    pub kept_by : (p : Leaf → Bool) → AnswersBy A p → (t u : Shape) → IsKept A t u → u ≡ kept p t
    kept_by p says Empty u k = k
    kept_by p says (Ends l) u k = k.2 ∙ ap (λ b. cond b (Ends l) Empty) (says l k.0 k.1)
    kept_by p says (Reads f bs) u k = k.2 ∙ ap (reads f) (kept_in_by p says bs k.0 k.1)
    kept_by p says (Tests f v n y) u k = k.4 ∙ ap (λ m. tests f v m k.1) (kept_by p says n k.0 k.2) ∙ ap (tests f v (kept p n)) (kept_by p says y k.1 k.3)

    kept_in_by : (p : Leaf → Bool) → AnswersBy A p → (bs cs : Branches) → AreKept A bs cs → cs ≡ kept_in p bs
    kept_in_by p says NoBranch cs k = k
    kept_in_by p says (Branch v t bs) cs k = k.4 ∙ ap (λ u. branch v u k.1) (kept_by p says t k.0 k.2) ∙ ap (branch v (kept p t)) (kept_in_by p says bs k.1 k.3)

  below_kept : (bs cs : Branches) (w : ℕ) → AreKept A bs cs → IsBelow w bs → IsBelow w cs
  below_kept NoBranch cs w k h = subst (IsBelow w) (sym k) tt
  below_kept (Branch v t bs) cs w k h =
      let rest = below_kept bs k.1 w k.3 h.1 in
      is_branch (IsBelow w) v k.0 k.1 cs k.4 rest (h.0, rest)

  mutual
    pub ordered_kept : (t u : Shape) → IsKept A t u → IsOrdered t → IsOrdered u
    ordered_kept Empty u k o = subst IsOrdered (sym k) tt
    ordered_kept (Ends l) u k o = is_ends IsOrdered k.0 l u k.2 tt tt
    ordered_kept (Reads f bs) u k o = is_reads IsOrdered f k.0 u k.2 tt (are_ordered_kept bs k.0 k.1 o)
    ordered_kept (Tests f v n y) u k o = is_tests IsOrdered f v k.0 k.1 u k.4 tt (ordered_kept n k.0 k.2 o.0, ordered_kept y k.1 k.3 o.1)

    are_ordered_kept : (bs cs : Branches) → AreKept A bs cs → AreOrdered bs → AreOrdered cs
    are_ordered_kept NoBranch cs k o = subst AreOrdered (sym k) tt
    are_ordered_kept (Branch v t bs) cs k o =
        let rest = are_ordered_kept bs k.1 k.3 o.2 in
        is_branch AreOrdered v k.0 k.1 cs k.4 rest (below_kept bs k.1 v k.3 o.0, ordered_kept t k.0 k.2 o.1, rest)

  mutual
    pub within_kept : (t u : Shape) → IsKept A t u → IsWithin t → IsWithin u
    within_kept Empty u k h = subst IsWithin (sym k) tt
    within_kept (Ends l) u k h = is_ends IsWithin k.0 l u k.2 tt tt
    within_kept (Reads f bs) u k h = is_reads IsWithin f k.0 u k.2 tt (are_within_kept f bs k.0 k.1 h)
    within_kept (Tests f v n y) u k h = is_tests IsWithin f v k.0 k.1 u k.4 tt (h.0, within_kept n k.0 k.2 h.1, within_kept y k.1 k.3 h.2)

    are_within_kept : (f : Field) (bs cs : Branches) → AreKept A bs cs → AreWithin f bs → AreWithin f cs
    are_within_kept f NoBranch cs k h = subst (AreWithin f) (sym k) tt
    are_within_kept f (Branch v t bs) cs k h =
        let rest = are_within_kept f bs k.1 k.3 h.2 in
        is_branch (AreWithin f) v k.0 k.1 cs k.4 rest (h.0, within_kept t k.0 k.2 h.1, rest)

  mutual
    pub fresh_kept : (t u : Shape) (fixed : List Field) → IsKept A t u → IsFresh fixed t → IsFresh fixed u
    fresh_kept Empty u fixed k h = subst (IsFresh fixed) (sym k) tt
    fresh_kept (Ends l) u fixed k h = is_ends (IsFresh fixed) k.0 l u k.2 tt tt
    fresh_kept (Reads f bs) u fixed k h = is_reads (IsFresh fixed) f k.0 u k.2 tt (h.0, are_fresh_kept bs k.0 (f ∷ fixed) k.1 h.1)
    fresh_kept (Tests f v n y) u fixed k h = is_tests (IsFresh fixed) f v k.0 k.1 u k.4 tt (h.0, fresh_kept n k.0 fixed k.2 h.1, fresh_kept y k.1 (f ∷ fixed) k.3 h.2)

    are_fresh_kept : (bs cs : Branches) (fixed : List Field) → AreKept A bs cs → AreFresh fixed bs → AreFresh fixed cs
    are_fresh_kept NoBranch cs fixed k h = subst (AreFresh fixed) (sym k) tt
    are_fresh_kept (Branch v t bs) cs fixed k h =
        let rest = are_fresh_kept bs k.1 fixed k.3 h.1 in
        is_branch (AreFresh fixed) v k.0 k.1 cs k.4 rest (fresh_kept t k.0 fixed k.2 h.0, rest)

  mutual
    pub longest_kept : (t u : Shape) → IsKept A t u → longest_of u ≤ longest_of t
    longest_kept Empty u k = subst (λ x. longest_of x ≤ 0) (sym k) (omega arith)
    longest_kept (Ends l) u k = is_ends (λ x. longest_of x ≤ 0) k.0 l u k.2 (omega arith) (omega arith)
    longest_kept (Reads f bs) u k =
        let h = longest_in_kept bs k.0 k.1 in
        is_reads (λ x. longest_of x ≤ longest_of (Reads f bs)) f k.0 u k.2 (omega arith) (omega (arith, h))
    longest_kept (Tests f v n y) u k =
        let h = longest_kept n k.0 k.2 in
        let i = longest_kept y k.1 k.3 in
        is_tests (λ x. longest_of x ≤ longest_of (Tests f v n y)) f v k.0 k.1 u k.4 (omega arith) (omega (arith, h, i))

    longest_in_kept : (bs cs : Branches) → AreKept A bs cs → longest_in cs ≤ longest_in bs
    longest_in_kept NoBranch cs k = subst (λ x. longest_in x ≤ 0) (sym k) (omega arith)
    longest_in_kept (Branch v t bs) cs k =
        let h = longest_kept t k.0 k.2 in
        let i = longest_in_kept bs k.1 k.3 in
        is_branch (λ x. longest_in x ≤ longest_in (Branch v t bs)) v k.0 k.1 cs k.4 (omega (arith, i)) (omega (arith, h, i))
