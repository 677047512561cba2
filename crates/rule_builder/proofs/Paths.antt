-- The paths of a tree, with their leaves.
use Rattle.std.proofs.Common.{◌≡◌, ℕ, ◌+◌, Bool, true, false, cond, List, [], ◌∷◌, Option, Some, None, refl, sym, ap, ◌∙◌, subst, inl, inr, ⊎_elim, arith}
use Rattle.std.specs.Prelude.{◌==◌, ◌&&◌, if◌then◌else◌, Contains}
use Rattle.std.proofs.lemmas.Bool.{cases_order, cases_Bool, eq-eqb, eqb-true}
use Rattle.std.proofs.lemmas.Bool.Decides.{nat_tests}
use Rattle.std.proofs.lemmas.List.Elements.{Contains-append_cases, Contains-append_right}
use Rattle.maple_base.specs.declared.key.Field.{Field}
use Rattle.maple_base.specs.declared.key.Key.{Key}
use Rattle.maple_base.specs.declared.key.Match.{Match}
use Rattle.maple_base.specs.declared.decision.Rule.{Rule}
use Rattle.maple_base.specs.declared.decision.Decision.TheVariants.{Drop}
use Rattle.maple_base.specs.declared.items.Item.{Item}
use Rattle.maple_base.specs.declared.items.Item.TheVariants.{Read, Test}
use Rattle.maple_base.specs.Keys.{field_of, fix}
use Rattle.maple_base.specs.Questions.{same_bool, same_field, meets}
use Rattle.trace_tree.specs.declared.node.Trace.{Trace}
use Rattle.trace_tree.specs.declared.node.Leaf.{Leaf}
use Rattle.trace_tree.specs.Shape.{Shape, Branches, Empty, Ends, Reads, Tests, NoBranch, Branch}
use Rattle.trace_tree.specs.Growth.{change, insert, leaf_of, grown, scratch, found, search_of, child, admits, AreAdmitted, IsOrdered}
use Rattle.trace_tree.proofs.Growths.{both, same_field_is, admits_Empty, none_yet, search_insert, insert_ordered}
use Rattle.trace_tree.proofs.Children.{change_here, change_ahead, change_past}
use Rattle.priority_plan.specs.declared.rows.Row.{Row}
use Rattle.priority_plan.specs.declared.rows.Row.TheVariants.{Fact, Barrier}
use Rattle.priority_plan.specs.Rules.{with_barrier, levels_of, fact, barrier, fact_actions}
use Rattle.priority_plan.specs.Standing.{Stands, StandsIn}
use Rattle.priority_plan.proofs.Spans.{none_in, the_one}
use Rattle.rule_builder.specs.Chosen.{fixed_by}

abbrev mutual
  -- the fact of the leaf that the key leads to
  pub fact_at : Shape → Key → Match → ℕ → Option Rule
  fact_at Empty k m base = None
  fact_at (Ends l) k m base = Some (fact l m base)
  fact_at (Reads f bs) k m base = fact_in bs (field_of k f) f k m base
  fact_at (Tests f v n y) k m base = if field_of k f == v then fact_at y k (fix f v m) (base + with_barrier (levels_of n)) else fact_at n k m base

  pub fact_in : Branches → ℕ → Field → Key → Match → ℕ → Option Rule
  fact_in NoBranch u f k m base = None
  fact_in (Branch v t bs) u f k m base = if u == v then fact_at t k (fix f v m) base else fact_in bs u f k m base

-- a test was asked, P holds of some items behind it
pub record IsAsked (P : List Item → Leaf → Type 0) (f : Field) (v : ℕ) : Type 0 where
  pub answer : Bool
  pub items : List Item
  pub leaf : Leaf
  pub holds : P (Test f v answer ∷ items) leaf

abbrev mutual
  -- P holds of the items to each leaf, and of the leaf
  pub Along : (List Item → Leaf → Type 0) → Shape → Type 0
  Along P Empty = Unit {0}
  Along P (Ends l) = P [] l
  Along P (Reads f bs) = AlongIn P f bs
  Along P (Tests f v n y) = IsAsked P f v × Along (λ is. P (Test f v false ∷ is)) n × Along (λ is. P (Test f v true ∷ is)) y

  pub AlongIn : (List Item → Leaf → Type 0) → Field → Branches → Type 0
  AlongIn P f NoBranch = Unit {0}
  AlongIn P f (Branch v t bs) = Along (λ is. P (Read f v ∷ is)) t × AlongIn P f bs

module _ (P : List Item → Leaf → Type 0) (f : Field) where
  child_along : (bs : Branches) (v : ℕ) → AlongIn P f bs → Along (λ is. P (Read f v ∷ is)) (child v bs)
  child_along NoBranch v h = tt
  child_along (Branch w t bs) v h =
      ⊎_elim
      (λ same. subst (λ b. Along (λ is. P (Read f v ∷ is)) (cond b t (child v bs))) (sym same) (subst (λ u. Along (λ is. P (Read f u ∷ is)) t) (sym (eqb-true v w same)) h.0))
      (λ other. subst (λ b. Along (λ is. P (Read f v ∷ is)) (cond b t (child v bs))) (sym other) (child_along bs v h.1))
      (cases_Bool (v == w))

  change_along : (bs : Branches) (v : ℕ) (g : Shape → Shape) → Along (λ is. P (Read f v ∷ is)) (g (child v bs)) → Along (λ is. P (Read f v ∷ is)) (g Empty) → AlongIn P f bs → AlongIn P f (change v g bs)
  change_along NoBranch v g at empty h = (empty, tt)
  change_along (Branch w t bs) v g at empty h =
      ⊎_elim
      (λ same.
      let own : child v (Branch w t bs) ≡ t = ap (λ b. cond b t (child v bs)) (eq-eqb v w same) in
      subst (AlongIn P f) (sym (change_here v g w t bs same)) (subst (λ u. Along (λ is. P (Read f u ∷ is)) (g t)) same (subst (λ u. Along (λ is. P (Read f v ∷ is)) (g u)) own at), h.1))
      (⊎_elim (λ lt. subst (AlongIn P f) (sym (change_ahead v g w t bs lt)) (empty, h))
      (λ gt.
      let ne : (v == w) ≡ false = grind (arith, nat_tests) in
      let next : child v (Branch w t bs) ≡ child v bs = ap (λ b. cond b t (child v bs)) ne in
      subst (AlongIn P f) (sym (change_past v g w t bs gt)) (h.0, change_along bs v g (subst (λ u. Along (λ is. P (Read f v ∷ is)) (g u)) next at) empty h.1)))
      (cases_order v w)

insert_along : (is : List Item) (leaf : Leaf) (t : Shape) (P : List Item → Leaf → Type 0) → admits is t ≡ true → P is leaf → Along P t → Along P (insert is leaf t)
insert_along [] leaf t P a p h = p
insert_along (Read f v ∷ is) leaf Empty P a p h = (insert_along is leaf Empty (λ js. P (Read f v ∷ js)) (admits_Empty is) p tt, tt)
insert_along (Read f v ∷ is) leaf (Ends l) P a p h = absurd (cc)
insert_along (Read f v ∷ is) leaf (Reads g bs) P a p h =
    let q = both (same_field f g) (admits is (child v bs)) a in
    let here = subst (λ x. AlongIn P x bs) (sym (same_field_is f g q.0)) h in
    let Q : List Item → Leaf → Type 0 = λ js. P (Read f v ∷ js) in
    subst (λ x. AlongIn P x (change v (insert is leaf) bs)) (same_field_is f g q.0)
    (change_along P f bs v (insert is leaf) (insert_along is leaf (child v bs) Q q.1 p (child_along P f bs v here)) (insert_along is leaf Empty Q (admits_Empty is) p tt) here)
insert_along (Read f v ∷ is) leaf (Tests g w n y) P a p h = absurd (cc)
insert_along (Test f v b ∷ is) leaf (Ends l) P a p h = absurd (cc)
insert_along (Test f v b ∷ is) leaf (Reads g bs) P a p h = absurd (cc)
insert_along (Test f v true ∷ is) leaf Empty P a p h = (record { answer = true; items = is; leaf = leaf; holds = p }, tt, insert_along is leaf Empty (λ js. P (Test f v true ∷ js)) (admits_Empty is) p tt)
insert_along (Test f v false ∷ is) leaf Empty P a p h = (record { answer = false; items = is; leaf = leaf; holds = p }, insert_along is leaf Empty (λ js. P (Test f v false ∷ js)) (admits_Empty is) p tt, tt)
insert_along (Test f v true ∷ is) leaf (Tests g w n y) P a p h =
    let q = both (same_field f g && v == w) (admits is y) a in
    let r = both (same_field f g) (v == w) q.0 in
    let same : Test f v true ≡ Test g w true = cc (same_field_is f g r.0, eqb-true v w r.1) in
    (h.0, h.1, insert_along is leaf y (λ js. P (Test g w true ∷ js)) q.1 (subst (λ i. P (i ∷ is) leaf) same p) h.2)
insert_along (Test f v false ∷ is) leaf (Tests g w n y) P a p h =
    let q = both (same_field f g && v == w) (admits is n) a in
    let r = both (same_field f g) (v == w) q.0 in
    let same : Test f v false ≡ Test g w false = cc (same_field_is f g r.0, eqb-true v w r.1) in
    (h.0, insert_along is leaf n (λ js. P (Test g w false ∷ js)) q.1 (subst (λ i. P (i ∷ is) leaf) same p) h.1, h.2)

grown_along : (rs : List Trace) (t : Shape) (P : List Item → Leaf → Type 0) → AreAdmitted t rs → ((x : Trace) → Contains rs x → P x.items (leaf_of x)) → Along P t → Along P (grown t rs)
grown_along [] t P a each h = h
grown_along (r ∷ rs) t P a each h =
    grown_along rs (insert r.items (leaf_of r) t) P a.1 (λ x c. each x (Contains-append_right (r ∷ []) rs x c))
    (insert_along r.items (leaf_of r) t P a.0 (each r (0, omega arith, refl)) h)

-- the items and the leaf are a trace's
pub record IsFrom (traces : List Trace) (is : List Item) (l : Leaf) : Type 0 where
  pub trace : Trace
  pub there : Contains traces trace
  pub items : trace.items ≡ is
  pub leaf : leaf_of trace ≡ l

pub scratch_along : (traces : List Trace) → AreAdmitted Empty traces → Along (IsFrom traces) (scratch traces)
scratch_along traces a = grown_along traces Empty (IsFrom traces) a (λ x c. record { trace = x; there = c; items = refl; leaf = refl }) tt

mutual
  pub along_map : (P Q : List Item → Leaf → Type 0) → ((is : List Item) (l : Leaf) → P is l → Q is l) → (t : Shape) → Along P t → Along Q t
  along_map P Q g Empty h = tt
  along_map P Q g (Ends l) h = g [] l h
  along_map P Q g (Reads f bs) h = along_map_in P Q g f bs h
  along_map P Q g (Tests f v n y) h =
      let s = h.0 in (
        record { answer = s.answer; items = s.items; leaf = s.leaf; holds = g (Test f v s.answer ∷ s.items) s.leaf s.holds },
        along_map (λ is. P (Test f v false ∷ is)) (λ is. Q (Test f v false ∷ is)) (λ is l p. g (Test f v false ∷ is) l p) n h.1,
        along_map (λ is. P (Test f v true ∷ is)) (λ is. Q (Test f v true ∷ is)) (λ is l p. g (Test f v true ∷ is) l p) y h.2,
      )

  along_map_in : (P Q : List Item → Leaf → Type 0) → ((is : List Item) (l : Leaf) → P is l → Q is l) → (f : Field) (bs : Branches) → AlongIn P f bs → AlongIn Q f bs
  along_map_in P Q g f NoBranch h = tt
  along_map_in P Q g f (Branch v t bs) h = (along_map (λ is. P (Read f v ∷ is)) (λ is. Q (Read f v ∷ is)) (λ is l p. g (Read f v ∷ is) l p) t h.0, along_map_in P Q g f bs h.1)

-- what holds of any items and leaf holds along each path
mutual
  pub along_any : (P : List Item → Leaf → Type 0) → ((is : List Item) (l : Leaf) → P is l) → (t : Shape) → Along P t
  along_any P all Empty = tt
  along_any P all (Ends l) = all [] l
  along_any P all (Reads f bs) = along_any_in P all f bs
  along_any P all (Tests f v n y) =
      let some : Leaf = record { number = 0; cells = []; decision = Drop } in
      (record { answer = true; items = []; leaf = some; holds = all (Test f v true ∷ []) some }, along_any _ (λ is l. all (Test f v false ∷ is) l) n, along_any _ (λ is l. all (Test f v true ∷ is) l) y)

  along_any_in : (P : List Item → Leaf → Type 0) → ((is : List Item) (l : Leaf) → P is l) → (f : Field) (bs : Branches) → AlongIn P f bs
  along_any_in P all f NoBranch = tt
  along_any_in P all f (Branch v t bs) = (along_any _ (λ is l. all (Read f v ∷ is) l) t, along_any_in P all f bs)

-- what holds behind the match of a path, of the items that are left and their leaf, and so of each rule
module _ (P : Match → List Item → Leaf → Type 0) (Q : Row → Type 0)
    (next : (m : Match) (i : Item) (is : List Item) (l : Leaf) → P m (i ∷ is) l → P (fixed_by (i ∷ []) m) is l)
    (facts : (m : Match) (b : ℕ) (l : Leaf) → P m [] l → Q (Fact (fact l m b)))
    (barriers : (m : Match) (f : Field) (v : ℕ) (a : Bool) (is : List Item) (l : Leaf) (p : ℕ) → P m (Test f v a ∷ is) l → Q (Barrier (barrier (fix f v m) p))) where
  mutual
    pub of_each : (x : Row) (t : Shape) (m : Match) (b : ℕ) → Along (P m) t → Stands x t m b → Q x
    of_each x Empty m b h c = absurd c
    of_each x (Ends l) m b h c = subst Q c (facts m b l h)
    of_each x (Reads f bs) m b h c = of_each_in x bs f m b h c
    of_each x (Tests f v n y) m b h (inr (inr c)) = of_each x n m b (along_map _ (P m) (next m (Test f v false)) n h.1) c
    of_each x (Tests f v n y) m b h (inr (inl c)) = subst Q c.1 (barriers m f v h.0.answer h.0.items h.0.leaf (b + with_barrier (levels_of n)) h.0.holds)
    of_each x (Tests f v n y) m b h (inl c) = of_each x y (fix f v m) (b + with_barrier (levels_of n)) (along_map _ (P (fix f v m)) (next m (Test f v true)) y h.2) c

    of_each_in : (x : Row) (bs : Branches) (f : Field) (m : Match) (b : ℕ) → AlongIn (P m) f bs → StandsIn x bs f m b → Q x
    of_each_in x NoBranch f m b h c = absurd c
    of_each_in x (Branch v t bs) f m b h (inl c) = of_each x t (fix f v m) b (along_map _ (P (fix f v m)) (next m (Read f v)) t h.0) c
    of_each_in x (Branch v t bs) f m b h (inr c) = of_each_in x bs f m b h.1 c

-- the rule of some items behind a match, and of their leaf
pub record IsFactFrom (P : List Item → Leaf → Type 0) (m : Match) (r : Rule) : Type 0 where
  pub items : List Item
  pub leaf : Leaf
  pub holds : P items leaf
  pub fixes : r.of ≡ fixed_by items m
  pub does : r.actions ≡ fact_actions leaf.decision

-- one more item stands ahead of them
ahead : (P Q : List Item → Leaf → Type 0) (i : Item) (m w : Match) (r : Rule) → ((is : List Item) (l : Leaf) → Q is l → P (i ∷ is) l) → ((is : List Item) → fixed_by is w ≡ fixed_by (i ∷ is) m) → IsFactFrom Q w r → IsFactFrom P m r
ahead P Q i m w r h e s = record { items = i ∷ s.items; leaf = s.leaf; holds = h s.items s.leaf s.holds; fixes = s.fixes ∙ e s.items; does = s.does }

-- one that a key leads to: the key meets the items
abbrev pub Met : Key → (List Item → Leaf → Type 0) → List Item → Leaf → Type 0
Met k P is l = (meets k is ≡ true) × P is l

module _ (k : Key) (r : Rule) where
  answered : (c a : Bool) (is : List Item) → c ≡ a → meets k is ≡ true → (same_bool c a && meets k is) ≡ true
  answered true true is e h = h
  answered false false is e h = h
  answered true false is e h = absurd (cc)
  answered false true is e h = absurd (cc)

  mutual
    pub key_source : (t : Shape) (m : Match) (b : ℕ) (P : List Item → Leaf → Type 0) → Along P t → fact_at t k m b ≡ Some r → IsFactFrom (Met k P) m r
    key_source Empty m b P h e = absurd (cc)
    key_source (Ends l) m b P h e = record { items = []; leaf = l; holds = (refl, h); fixes = cc; does = cc }
    key_source (Reads f bs) m b P h e = key_source_in bs f m b P h e
    key_source (Tests f v n y) m b P h e =
        let c = b + with_barrier (levels_of n) in
        ⊎_elim
        (λ same.
        let own = key_source y (fix f v m) c (λ is. P (Test f v true ∷ is)) h.2 (sym (ap (λ x. cond x (fact_at y k (fix f v m) c) (fact_at n k m b)) same) ∙ e) in
        ahead (Met k P) _ (Test f v true) m (fix f v m) r (λ is l p. (answered (field_of k f == v) true is same p.0, p.1)) (λ is. refl) own)
        (λ other.
        let own = key_source n m b (λ is. P (Test f v false ∷ is)) h.1 (sym (ap (λ x. cond x (fact_at y k (fix f v m) c) (fact_at n k m b)) other) ∙ e) in
        ahead (Met k P) _ (Test f v false) m m r (λ is l p. (answered (field_of k f == v) false is other p.0, p.1)) (λ is. refl) own)
        (cases_Bool (field_of k f == v))

    key_source_in : (bs : Branches) (f : Field) (m : Match) (b : ℕ) (P : List Item → Leaf → Type 0) → AlongIn P f bs → fact_in bs (field_of k f) f k m b ≡ Some r → IsFactFrom (Met k P) m r
    key_source_in NoBranch f m b P h e = absurd (cc)
    key_source_in (Branch v t bs) f m b P h e =
        ⊎_elim
        (λ same.
        let own = key_source t (fix f v m) b (λ is. P (Read f v ∷ is)) h.0 (sym (ap (λ x. cond x (fact_at t k (fix f v m) b) (fact_in bs (field_of k f) f k m b)) same) ∙ e) in
        ahead (Met k P) _ (Read f v) m (fix f v m) r (λ is l p. (ap (λ x. x && meets k is) same ∙ p.0, p.1)) (λ is. refl) own)
        (λ other. key_source_in bs f m b P h.1 (sym (ap (λ x. cond x (fact_at t k (fix f v m) b) (fact_in bs (field_of k f) f k m b)) other) ∙ e))
        (cases_Bool (field_of k f == v))

-- a trace that a key meets is the one that it finds, and the tree before it had no leaf for the key
met_found : (rs : List Trace) (t : Shape) (k : Key) (x : Trace) → IsOrdered t → AreAdmitted t rs → Contains rs x → meets k x.items ≡ true → (search_of t k ≡ None) × (found rs k ≡ Some x)
met_found [] t k x o a c m = none_in _ x c
met_found (r ∷ rs) t k x o a c m =
    ⊎_elim
    (λ h.
    let e = the_one r x h in
    let met = ap (λ (y : Trace). meets k y.items) e ∙ m in
    (none_yet r.items t k a.0 met, ap (λ b. cond b (Some r) (found rs k)) met ∙ ap Some e))
    (λ h.
    let rest = met_found rs (insert r.items (leaf_of r) t) k x (insert_ordered r.items (leaf_of r) t o) a.1 h m in
    let was = sym (search_insert r.items (leaf_of r) t k o a.0) ∙ rest.0 in
    ⊎_elim (λ met. let no : Some (leaf_of r) ≡ None = sym (ap (λ b. cond b (Some (leaf_of r)) (search_of t k)) met) ∙ was in absurd (cc))
    (λ past. (sym (ap (λ b. cond b (Some (leaf_of r)) (search_of t k)) past) ∙ was, ap (λ b. cond b (Some r) (found rs k)) past ∙ rest.1))
    (cases_Bool (meets k r.items)))
    (Contains-append_cases (r ∷ []) rs x c)

pub found_one : (k : Key) (x : Trace) (rs : List Trace) → AreAdmitted Empty rs → Contains rs x → meets k x.items ≡ true → found rs k ≡ Some x
found_one k x rs a c m = (met_found rs Empty k x tt a c m).1
