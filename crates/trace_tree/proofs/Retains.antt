-- Steps of taking leaves out.
use Rattle.std.proofs.Common.{◌≡◌, ℕ, zero, suc, ◌+◌, ◌<◌, ◌≤◌, Bool, true, false, cond, List, [], ◌∷◌, length, get_or, refl, sym, ap, ◌∙◌, subst, arith}
use Rattle.std.specs.Prelude.{not, filter, slice_set}
use Rattle.maple_base.specs.declared.key.Field.{Field}
use Rattle.trace_tree.specs.declared.node.Leaf.{Leaf}
use Rattle.trace_tree.specs.declared.node.Node.{Node}
use Rattle.trace_tree.specs.TreeOf.{tree_of, branches_of}
use Rattle.trace_tree.specs.Shape.{Shape, Branches, Empty, Ends, Reads, Tests, NoBranch, Branch}
use Rattle.trace_tree.specs.Growth.{leaves_of, leaves_in, nodes_of}
use Rattle.trace_tree.specs.Kept.{is_empty, reads, branch, tests, unwound, IsKept, AreKept}

pub leaves_branch : (v : ℕ) (t : Shape) (bs : Branches) → leaves_in (branch v t bs) ≡ leaves_of t + leaves_in bs
leaves_branch v Empty bs = omega arith
leaves_branch v (Ends l) bs = refl
leaves_branch v (Reads f cs) bs = refl
leaves_branch v (Tests f w n y) bs = refl

pub leaves_tests : (f : Field) (v : ℕ) (n y : Shape) → leaves_of (tests f v n y) ≡ leaves_of n + leaves_of y
leaves_tests f v Empty Empty = omega arith
leaves_tests f v Empty (Ends l) = refl
leaves_tests f v Empty (Reads g cs) = refl
leaves_tests f v Empty (Tests g w m z) = refl
leaves_tests f v (Ends l) y = refl
leaves_tests f v (Reads g cs) y = refl
leaves_tests f v (Tests g w m z) y = refl

pub leaves_reads : (f : Field) (bs : Branches) → leaves_of (reads f bs) ≡ leaves_in bs
leaves_reads f NoBranch = refl
leaves_reads f (Branch v t bs) = refl

pub reads_some : (f : Field) (cs : List (ℕ × Node)) → 0 < length cs → Reads f (branches_of cs) ≡ reads f (branches_of cs)
reads_some f [] h = absurd (omega arith)
reads_some f (c ∷ cs) h = refl

abbrev pub is_full : ℕ × Node → Bool
is_full c = not (is_empty (tree_of c.1))

filter_branch : (c : ℕ × Node) (cs : List (ℕ × Node)) → branches_of (filter is_full (c ∷ cs)) ≡ branch c.0 (tree_of c.1) (branches_of (filter is_full cs))
filter_branch c cs =
    let rest = filter is_full cs in
    elim (is_empty (tree_of c.1)) as (λ b. branches_of (cond (not b) (c ∷ rest) rest) ≡ cond b (branches_of rest) (Branch c.0 (tree_of c.1) (branches_of rest))) [ true ↦ refl | false ↦ refl ]

pub leaves_filter : (cs : List (ℕ × Node)) → leaves_in (branches_of (filter is_full cs)) ≡ leaves_in (branches_of cs)
leaves_filter [] = refl
leaves_filter (c ∷ cs) = ap leaves_in (filter_branch c cs) ∙ leaves_branch c.0 (tree_of c.1) (branches_of (filter is_full cs)) ∙ ap (λ n. leaves_of (tree_of c.1) + n) (leaves_filter cs)

pub leaves_set : (cs : List (ℕ × Node)) (at : ℕ) (c new : ℕ × Node) → at < length cs → c ≡ get_or cs at c → leaves_in (branches_of (slice_set cs at new)) + leaves_of (tree_of c.1) ≡ leaves_in (branches_of cs) + leaves_of (tree_of new.1)
leaves_set [] at c new lt is = absurd (omega arith)
leaves_set (d ∷ ds) zero c new lt is = let e = ap (λ (x : ℕ × Node). leaves_of (tree_of x.1)) is in omega (arith, e)
leaves_set (d ∷ ds) (suc at) c new lt is = let h = leaves_set ds at c new (omega arith) is in omega (arith, h)

module _ (A : Leaf → Bool → Type 0) where
  -- as many children as this are done
  abbrev pub SoFar : ℕ → List (ℕ × Node) → List (ℕ × Node) → Type 0
  SoFar zero os ns = os ≡ ns
  SoFar (suc n) [] ns = ns ≡ []
  SoFar (suc n) (o ∷ os) [] = ⊥
  SoFar (suc n) (o ∷ os) (m ∷ ms) = (m.0 ≡ o.0) × IsKept A (tree_of o.1) (tree_of m.1) × SoFar n os ms

  pub far_step : (n : ℕ) (os ns : List (ℕ × Node)) (c new : ℕ × Node) → SoFar n os ns → n < length ns → c ≡ get_or ns n c → new.0 ≡ c.0 → IsKept A (tree_of c.1) (tree_of new.1) → SoFar (suc n) os (slice_set ns n new)
  far_step zero os [] c new s lt is same k = absurd (omega arith)
  far_step zero os (m ∷ ms) c new s lt is same k =
      subst (λ xs. SoFar 1 xs (new ∷ ms)) (sym s) (same ∙ ap (λ (x : ℕ × Node). x.0) is, subst (λ (x : ℕ × Node). IsKept A (tree_of x.1) (tree_of new.1)) is k, refl)
  far_step (suc n) [] ns c new s lt is same k = let none = ap length s in absurd (omega (arith, none))
  far_step (suc n) (o ∷ os) [] c new s lt is same k = absurd s
  far_step (suc n) (o ∷ os) (m ∷ ms) c new s lt is same k = (s.0, s.1, far_step n os ms c new s.2 (omega arith) is same k)

  -- a child that isn't done yet is a part of the whole
  pub far_part : (f : Shape → ℕ) (g : Branches → ℕ) → ((v : ℕ) (t : Shape) (bs : Branches) → g (Branch v t bs) ≡ f t + g bs) → (n : ℕ) (os ns : List (ℕ × Node)) (c : ℕ × Node) → SoFar n os ns → n < length ns → c ≡ get_or ns n c → f (tree_of c.1) ≤ g (branches_of os)
  far_part f g adds zero os [] c s lt is = absurd (omega arith)
  far_part f g adds zero os (m ∷ ms) c s lt is =
      let all = ap (λ xs. g (branches_of xs)) s ∙ adds m.0 (tree_of m.1) (branches_of ms) in
      let here = ap (λ (x : ℕ × Node). f (tree_of x.1)) is in
      omega (arith, all, here)
  far_part f g adds (suc n) [] ns c s lt is = let none = ap length s in absurd (omega (arith, none))
  far_part f g adds (suc n) (o ∷ os) [] c s lt is = absurd s
  far_part f g adds (suc n) (o ∷ os) (m ∷ ms) c s lt is =
      let h = far_part f g adds n os ms c s.2 (omega arith) is in
      let all = adds o.0 (tree_of o.1) (branches_of os) in
      omega (arith, h, all)

  pub far_end : (n : ℕ) (os ns : List (ℕ × Node)) → SoFar n os ns → length ns ≤ n → AreKept A (branches_of os) (branches_of (filter is_full ns))
  far_end zero os [] s le = subst (λ xs. AreKept A (branches_of xs) NoBranch) (sym s) refl
  far_end zero os (m ∷ ms) s le = absurd (omega arith)
  far_end (suc n) [] ns s le = ap (λ xs. branches_of (filter is_full xs)) s
  far_end (suc n) (o ∷ os) [] s le = absurd s
  far_end (suc n) (o ∷ os) (m ∷ ms) s le =
      let rest = branches_of (filter is_full ms) in
      (tree_of m.1, rest, s.1, far_end n os ms s.2 (omega arith), filter_branch m ms ∙ ap (λ v. branch v (tree_of m.1) rest) s.0)

  -- how a walk down stands: whatever is kept of the tree here, with the tests that wait it is what is kept of the whole
  pub record IsDescent (whole up t : Shape) (gone : ℕ) : Type 0 where
    pub nodes : nodes_of t ≤ nodes_of whole
    pub few : leaves_of t + gone ≤ leaves_of whole
    pub kept : (u : Shape) → IsKept A t u → IsKept A whole (unwound up u)
    pub counted : (u : Shape) → leaves_of (unwound up u) + leaves_of t + gone ≡ leaves_of whole + leaves_of u

  pub descent_begins : (t : Shape) → IsDescent t Empty t 0
  descent_begins t = record { nodes = omega arith; few = omega arith; kept = λ u k. k; counted = λ u. omega arith }

  -- a step down
  pub descent_step : (f : Field) (v : ℕ) (whole up n y z : Shape) (gone lost : ℕ) → IsDescent whole up (Tests f v n y) gone → IsKept A y z → leaves_of z + lost ≡ leaves_of y → IsDescent whole (Tests f v up z) n (gone + lost)
  descent_step f v whole up n y z gone lost d k e = record {
    nodes = omega (arith, d.nodes);
    few = omega (arith, d.few, e);
    kept = λ u h. d.kept (tests f v u z) (u, z, h, k, refl);
    counted = λ u. let c = d.counted (tests f v u z) in let both = leaves_tests f v u z in omega (arith, c, both, e);
  }
