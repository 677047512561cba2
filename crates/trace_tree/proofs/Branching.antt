-- Whether a value has a child, by its place among the children.
use Rattle.std.proofs.Common.{◌≡◌, ℕ, ◌≤◌, true, false, List, [], ◌∷◌, ◌++◌, Ok, Err, refl, sym, ◌∙◌, subst, ⊎_elim, arith}
use Rattle.std.specs.Prelude.{map}
use Rattle.std.proofs.lemmas.Bool.{cases_order}
use Rattle.maple_base.specs.declared.key.Field.{Field}
use Rattle.trace_tree.specs.declared.node.Leaf.{Leaf}
use Rattle.trace_tree.specs.Shape.{Shape, Branches, Reads}
use Rattle.trace_tree.specs.TreeOf.{branches}
use Rattle.trace_tree.specs.Growth.{place_of, AreOrdered}
use Rattle.trace_tree.specs.Walks.{has_branch, EndsIn}
use Rattle.trace_tree.proofs.Places.{place_here, place_before, place_after}
use Rattle.trace_tree.proofs.Children.{next_ok, next_err}
use Rattle.trace_tree.proofs.Walks.{has_ahead, has_here, has_past}

module _ {X : Type 0} (h : X → Shape) where
  abbrev values : List (ℕ × X) → List ℕ
  values = map (λ (c : ℕ × X). c.0)

  abbrev trees : List (ℕ × X) → Branches
  trees cs = branches (map (λ (c : ℕ × X). (c.0, h c.1)) cs)

  pub has_found : (cs : List (ℕ × X)) (v at : ℕ) → place_of v (values cs) ≡ Ok at → has_branch v (trees cs) ≡ true
  has_found [] v at e = absurd (cc)
  has_found (d ∷ ds) v at e =
      ⊎_elim (λ same. has_here v d.0 (h d.1) (trees ds) same)
      (⊎_elim (λ lt. absurd (cc (place_before v d.0 (values ds) lt)))
      (λ gt.
      let ne : v ≡ d.0 → ⊥ = λ q. omega arith in
      let le : d.0 ≤ v = omega arith in
      let n = next_ok (place_of v (values ds)) at (sym (place_after v d.0 (values ds) ne le) ∙ e) in
      has_past v d.0 (h d.1) (trees ds) gt ∙ has_found ds v n.before n.is))
      (cases_order v d.0)

  pub has_missing : (cs : List (ℕ × X)) (v at : ℕ) → AreOrdered (trees cs) → place_of v (values cs) ≡ Err at → has_branch v (trees cs) ≡ false
  has_missing [] v at o e = refl
  has_missing (d ∷ ds) v at o e =
      ⊎_elim (λ same. absurd (cc (place_here v d.0 (values ds) same)))
      (⊎_elim (λ lt. has_ahead v d.0 (h d.1) (trees ds) lt o)
      (λ gt.
      let ne : v ≡ d.0 → ⊥ = λ q. omega arith in
      let le : d.0 ≤ v = omega arith in
      let n = next_err (place_of v (values ds)) at (sym (place_after v d.0 (values ds) ne le) ∙ e) in
      has_past v d.0 (h d.1) (trees ds) gt ∙ has_missing ds v n.before o.2 n.is))
      (cases_order v d.0)

  -- the one child of a path's node
  pub ends_last : (leaf : Leaf) (f : Field) (all cs : List (ℕ × X)) (c : ℕ × X) → all ≡ cs ++ c ∷ [] → EndsIn leaf (Reads f (trees all)) → EndsIn leaf (h c.1)
  ends_last leaf f all [] c e p = subst (λ l. EndsIn leaf (Reads f (trees l))) e p
  ends_last leaf f all (d ∷ []) c e p = absurd (subst (λ l. EndsIn leaf (Reads f (trees l))) e p)
  ends_last leaf f all (d ∷ b ∷ cs) c e p = absurd (subst (λ l. EndsIn leaf (Reads f (trees l))) e p)
