-- The chosen rule is the fact of the leaf that the key leads to.
use Rattle.std.proofs.Common.{◌≡◌, ◌⊎◌, ℕ, ◌+◌, ◌<◌, ◌≤◌, true, false, cond, List, ◌++◌, Option, Some, None, refl, sym, ap, ◌∙◌, subst, inl, inr, ⊎_elim, arith}
use Rattle.std.specs.Prelude.{◌==◌, Contains, MatchOption, IfSome}
use Rattle.std.specs.Option.{option_map}
use Rattle.std.proofs.lemmas.Bool.{eq-eqb, cases_eq, cases_lt}
use Rattle.std.proofs.lemmas.Bool.Decides.{nat_tests}
use Rattle.std.proofs.lemmas.List.Sorted.{IsPermutation-append, IsPermutation-sym, Contains-permutation}
use Rattle.std.proofs.lemmas.List.Elements.{Contains-append_cases, Contains-append_left, Contains-append_right}
use Rattle.maple_base.specs.declared.key.Field.{Field}
use Rattle.maple_base.specs.declared.key.Match.{Match}
use Rattle.maple_base.specs.declared.key.Key.{Key}
use Rattle.maple_base.specs.declared.decision.Rule.{Rule}
use Rattle.maple_base.specs.Keys.{field_of, match_fits, match_exact, fix, fixed_of, anything}
use Rattle.maple_base.specs.Questions.{meets}
use Rattle.maple_base.specs.Choice.{stands_above, fits, MayChoose}
use Rattle.flow_table.specs.Shielding.{IsBarrier, IsShieldedBy}
use Rattle.trace_tree.specs.Shape.{Shape, Branches, Empty, Ends, Reads, Tests, NoBranch, Branch}
use Rattle.trace_tree.specs.Growth.{IsOrdered, AreOrdered, search_of, search_in, found, leaf_of, scratch, AreAdmitted, AllAskOnce}
use Rattle.trace_tree.specs.declared.node.Trace.{Trace}
use Rattle.trace_tree.specs.declared.node.Leaf.{Leaf}
use Rattle.trace_tree.proofs.Growths.{search_scratch, grown_ordered}
use Rattle.priority_plan.specs.declared.rows.Row.{Row}
use Rattle.priority_plan.specs.declared.rows.Row.TheVariants.{Fact, Barrier}
use Rattle.priority_plan.specs.Rules.{with_barrier, levels_of, fact, barrier, facts_of, barriers_of, fact_actions, rules_of}
use Rattle.priority_plan.specs.Standing.{rule_of, Stands, StandsIn}
use Rattle.priority_plan.proofs.Spans.{barrier_above, barrier_least, within}
use Rattle.priority_plan.proofs.Listed.{fact_stands, stands_fact, barrier_stands, stands_barrier}
use Rattle.rule_builder.specs.Chosen.{fixed_by, IsFactOf, HoldsRules, list_of, ChoosesRight, ChoiceLaw, TableLaw}
use Rattle.rule_builder.proofs.Fixes.{IsFresh, AreFresh, scratch_fresh, own_fixed, key_has, fits_fixed, fits_wider}
use Rattle.rule_builder.proofs.Forms.{extends, row_has, in_above, row_inexact}
use Rattle.rule_builder.proofs.Paths.{fact_at, fact_in, IsFrom, scratch_along, key_source, found_one}

unequal : (u v : ℕ) → (u ≡ v → ⊥) → (u == v) ≡ false
unequal u v h = grind (arith, nat_tests)

-- no fitting barrier among these rows stands above this priority
abbrev Unshielded : (Row → Type 0) → Key → ℕ → Type 0
Unshielded S k p = (q : Rule) → S (Barrier q) → fits q k ≡ true → q.priority ≤ p

-- where the key has another value than a test's, or than a branch's
past_test : (f : Field) (v : ℕ) (n y : Shape) (k : Key) (m : Match) (b : ℕ) → (field_of k f ≡ v → ⊥) → fact_at (Tests f v n y) k m b ≡ fact_at n k m b
past_test f v n y k m b other = ap (λ x. cond x (fact_at y k (fix f v m) (b + with_barrier (levels_of n))) (fact_at n k m b)) (unequal (field_of k f) v other)

at_test : (f : Field) (v : ℕ) (n y : Shape) (k : Key) (m : Match) (b : ℕ) → field_of k f ≡ v → fact_at (Tests f v n y) k m b ≡ fact_at y k (fix f v m) (b + with_barrier (levels_of n))
at_test f v n y k m b same = ap (λ x. cond x (fact_at y k (fix f v m) (b + with_barrier (levels_of n))) (fact_at n k m b)) (eq-eqb (field_of k f) v same)

past_branch : (v : ℕ) (t : Shape) (bs : Branches) (f : Field) (k : Key) (m : Match) (b : ℕ) → (field_of k f ≡ v → ⊥) → fact_in (Branch v t bs) (field_of k f) f k m b ≡ fact_in bs (field_of k f) f k m b
past_branch v t bs f k m b other = ap (λ x. cond x (fact_at t k (fix f v m) b) (fact_in bs (field_of k f) f k m b)) (unequal (field_of k f) v other)

at_branch : (v : ℕ) (t : Shape) (bs : Branches) (f : Field) (k : Key) (m : Match) (b : ℕ) → field_of k f ≡ v → fact_in (Branch v t bs) (field_of k f) f k m b ≡ fact_at t k (fix f v m) b
at_branch v t bs f k m b same = ap (λ x. cond x (fact_at t k (fix f v m) b) (fact_in bs (field_of k f) f k m b)) (eq-eqb (field_of k f) v same)

-- a row that fits has the key's value where it is fixed
value_of : (x : Row) (k : Key) (f : Field) (v : ℕ) (t : Shape) (m : Match) (b : ℕ) → IsFresh t (fix f v m) → Stands x t (fix f v m) b → fits (rule_of x) k ≡ true → field_of k f ≡ v
value_of x k f v t m b fresh h fit = key_has f v (rule_of x).of k (row_has x f v t m b fresh h) fit

not_in_above : (x : Row) (k : Key) (f : Field) (v : ℕ) (t : Shape) (bs : Branches) (m : Match) (b : ℕ) → AreOrdered (Branch v t bs) → AreFresh bs f m → StandsIn x bs f m b → fits (rule_of x) k ≡ true → field_of k f ≡ v → ⊥
not_in_above x k f v t bs m b o fresh h fit e = let s = in_above x bs v f m b o.0 fresh h in let u = key_has f s.value (rule_of x).of k s.fixes fit in omega (arith, e, u, s.above)

module _ (k : Key) (r : Rule) (fit : fits r k ≡ true) where
  -- a barrier stands above each fact of the false side for the keys of the true side
  false_side : (f : Field) (v : ℕ) (n y : Shape) (m : Match) (b : ℕ) → IsFresh n m → Stands (Fact r) n m b → Unshielded (λ x. Stands x (Tests f v n y) m b) k r.priority → field_of k f ≡ v → ⊥
  false_side f v n y m b fresh h clear e =
      let w = within (Fact r) n m b h in
      let some : 0 < levels_of n = omega (arith, w.0, w.1) in
      let bar = barrier (fix f v m) (b + with_barrier (levels_of n)) in
      let low = clear bar (inr (inl (some, refl))) (fits_fixed f v m k (fits_wider m r.of k (extends (Fact r) n m b fresh h) fit) e) in
      let up = barrier_above (levels_of n) some in
      omega (arith, low, w.1, up)

  mutual
    -- a fact that no fitting barrier stands above is that of the key's own leaf
    unshielded : (t : Shape) (m : Match) (b : ℕ) → IsFresh t m → IsOrdered t → Stands (Fact r) t m b → Unshielded (λ x. Stands x t m b) k r.priority → fact_at t k m b ≡ Some r
    unshielded Empty m b fresh o h clear = absurd h
    unshielded (Ends l) m b fresh o h clear = cc
    unshielded (Reads f bs) m b fresh o h clear = unshielded_in bs f m b fresh.1 o h clear
    unshielded (Tests f v n y) m b fresh o (inl h) clear =
        let c = b + with_barrier (levels_of n) in
        at_test f v n y k m b (value_of (Fact r) k f v y m c fresh.2 h fit) ∙ unshielded y (fix f v m) c fresh.2 o.1 h (λ q d. clear q (inl d))
    unshielded (Tests f v n y) m b fresh o (inr (inl h)) clear = let e = h.1 in absurd (cc)
    unshielded (Tests f v n y) m b fresh o (inr (inr h)) clear =
        past_test f v n y k m b (false_side f v n y m b fresh.1 h clear) ∙ unshielded n m b fresh.1 o.0 h (λ q c. clear q (inr (inr c)))

    unshielded_in : (bs : Branches) (f : Field) (m : Match) (b : ℕ) → AreFresh bs f m → AreOrdered bs → StandsIn (Fact r) bs f m b → Unshielded (λ x. StandsIn x bs f m b) k r.priority → fact_in bs (field_of k f) f k m b ≡ Some r
    unshielded_in NoBranch f m b fresh o h clear = absurd h
    unshielded_in (Branch v t bs) f m b fresh o (inl h) clear =
        at_branch v t bs f k m b (value_of (Fact r) k f v t m b fresh.0 h fit) ∙ unshielded t (fix f v m) b fresh.0 o.1 h (λ q c. clear q (inl c))
    unshielded_in (Branch v t bs) f m b fresh o (inr h) clear =
        past_branch v t bs f k m b (not_in_above (Fact r) k f v t bs m b o fresh.1 h fit) ∙ unshielded_in bs f m b fresh.1 o.2 h (λ q c. clear q (inr c))

-- a fact among these rows that fits, and stands above all fitting barriers
record IsTop (S : Row → Type 0) (k : Key) (r : Rule) : Type 0 where
  there : S (Fact r)
  fitting : fits r k ≡ true
  above : (q : Rule) → S (Barrier q) → fits q k ≡ true → q.priority < r.priority

module _ (k : Key) (r : Rule) where
  mutual
    -- the fact of the key's own leaf is such a one
    found_top : (t : Shape) (m : Match) (b : ℕ) → IsFresh t m → IsOrdered t → match_fits m k ≡ true → fact_at t k m b ≡ Some r → IsTop (λ x. Stands x t m b) k r
    found_top Empty m b fresh o fit e = absurd (cc)
    found_top (Ends l) m b fresh o fit e =
        let is : fact l m b ≡ r = cc in
        record { there = ap Fact is; fitting = ap (λ (x : Rule). match_fits x.of k) (sym is) ∙ fit; above = λ q c g. absurd (cc) }
    found_top (Reads f bs) m b fresh o fit e = found_in_top bs f m b fresh.1 o fit e
    found_top (Tests f v n y) m b fresh o fit e =
        let c = b + with_barrier (levels_of n) in
        ⊎_elim
        (λ same.
        let h = found_top y (fix f v m) c fresh.2 o.1 (fits_fixed f v m k fit same) (sym (at_test f v n y k m b same) ∙ e) in
        let w = within (Fact r) y (fix f v m) c h.there in
        record {
          there = inl h.there;
          fitting = h.fitting;
          above = λ q i g. ⊎_elim (λ j. h.above q j g)
              (⊎_elim (λ j. let p = ap (λ x. (rule_of x).priority) j.1 in omega (arith, p, w.0)) (λ j. let u = within (Barrier q) n m b j in let l = barrier_least (levels_of n) in omega (arith, u.1, w.0, l))) i;
        })
        (λ other.
        let h = found_top n m b fresh.1 o.0 fit (sym (past_test f v n y k m b other) ∙ e) in
        record {
          there = inr (inr h.there);
          fitting = h.fitting;
          above = λ q i g. ⊎_elim (λ j. absurd (other (value_of (Barrier q) k f v y m c fresh.2 j g)))
              (⊎_elim (λ j. absurd (other (key_has f v q.of k (ap (λ x. fixed_of (rule_of x).of f) (sym j.1) ∙ own_fixed f v m) g))) (λ j. h.above q j g)) i;
        })
        (cases_eq (field_of k f) v)

    found_in_top : (bs : Branches) (f : Field) (m : Match) (b : ℕ) → AreFresh bs f m → AreOrdered bs → match_fits m k ≡ true → fact_in bs (field_of k f) f k m b ≡ Some r → IsTop (λ x. StandsIn x bs f m b) k r
    found_in_top NoBranch f m b fresh o fit e = absurd (cc)
    found_in_top (Branch v t bs) f m b fresh o fit e =
        ⊎_elim
        (λ same.
        let h = found_top t (fix f v m) b fresh.0 o.1 (fits_fixed f v m k fit same) (sym (at_branch v t bs f k m b same) ∙ e) in
        record { there = inl h.there; fitting = h.fitting; above = λ q i g. ⊎_elim (λ j. h.above q j g) (λ j. absurd (not_in_above (Barrier q) k f v t bs m b o fresh.1 j g same)) i })
        (λ other.
        let h = found_in_top bs f m b fresh.1 o.2 fit (sym (past_branch v t bs f k m b other) ∙ e) in
        record { there = inr h.there; fitting = h.fitting; above = λ q i g. ⊎_elim (λ j. absurd (other (value_of (Barrier q) k f v t m b fresh.0 j g))) (λ j. h.above q j g) i })
        (cases_eq (field_of k f) v)

mutual
  -- a key that has no fact leads to no leaf
  no_leaf : (t : Shape) (k : Key) (m : Match) (b : ℕ) → fact_at t k m b ≡ None → search_of t k ≡ None
  no_leaf Empty k m b e = refl
  no_leaf (Ends l) k m b e = absurd (cc)
  no_leaf (Reads f bs) k m b e = no_leaf_in bs (field_of k f) f k m b e
  no_leaf (Tests f v n y) k m b e =
      let step = elim (field_of k f == v) as (λ x. cond x (fact_at y k (fix f v m) (b + with_barrier (levels_of n))) (fact_at n k m b) ≡ None → cond x (search_of y k) (search_of n k) ≡ None)
      [ true ↦ λ h. no_leaf y k (fix f v m) (b + with_barrier (levels_of n)) h | false ↦ λ h. no_leaf n k m b h ] in
      step e

  no_leaf_in : (bs : Branches) (u : ℕ) (f : Field) (k : Key) (m : Match) (b : ℕ) → fact_in bs u f k m b ≡ None → search_in bs u k ≡ None
  no_leaf_in NoBranch u f k m b e = refl
  no_leaf_in (Branch v t bs) u f k m b e =
      let step = elim (u == v) as (λ x. cond x (fact_at t k (fix f v m) b) (fact_in bs u f k m b) ≡ None → cond x (search_of t k) (search_in bs u k) ≡ None)
      [ true ↦ λ h. no_leaf t k (fix f v m) b h | false ↦ λ h. no_leaf_in bs u f k m b h ] in
      step e

not_above : (q r : Rule) → match_exact r.of ≡ false → stands_above q r ≡ false → q.priority ≤ r.priority
not_above q r e s = grind (arith, nat_tests)

no_higher : (q r : Rule) → match_exact q.of ≡ false → q.priority ≤ r.priority → stands_above q r ≡ false
no_higher q r e s = grind (arith, nat_tests)

-- the fact at the key is that of the trace that it finds
record IsOwn (traces : List Trace) (k : Key) (own : Rule) : Type 0 where
  trace : Trace
  found : found traces k ≡ Some trace
  fact : IsFactOf (scratch traces) trace own

module _ (traces : List Trace) (k : Key) (admitted : AreAdmitted Empty traces) (once : AllAskOnce traces) where
  abbrev tree : Shape
  tree = scratch traces

  abbrev Here : Row → Type 0
  Here x = Stands x tree anything 0

  fresh : IsFresh tree anything
  fresh = scratch_fresh traces admitted once

  ordered : IsOrdered tree
  ordered = grown_ordered traces Empty tt

  abbrev here : Option Rule
  here = fact_at tree k anything 0

  own_of : (r : Rule) → here ≡ Some r → IsOwn traces k r
  own_of r e =
      let s = key_source k r tree anything 0 (IsFrom traces) (scratch_along traces admitted) e in
      let x = s.holds.1.trace in
      let top = found_top k r tree anything 0 fresh ordered refl e in
      record {
        trace = x;
        found = found_one k x traces admitted s.holds.1.there (ap (meets k) s.holds.1.items ∙ s.holds.0);
        fact = record {
          there = stands_fact r tree anything 0 top.there;
          fixes = s.fixes ∙ ap (λ is. fixed_by is anything) (sym s.holds.1.items);
          does = s.does ∙ ap (λ (l : Leaf). fact_actions l.decision) (sym s.holds.1.leaf);
        };
      }

  none_found : here ≡ None → found traces k ≡ None
  none_found e = missing (found traces k) (sym (search_scratch traces k admitted) ∙ no_leaf tree k anything 0 e)
    where
      missing : (o : Option Trace) → option_map leaf_of o ≡ None → o ≡ None
      missing None h = refl
      missing (Some x) h = absurd (cc)

  -- a fact that no fitting barrier stands above is the one at the key
  chosen_fact : (r : Rule) → fits r k ≡ true → Here (Fact r) → ((q : Rule) → Here (Barrier q) → fits q k ≡ true → stands_above q r ≡ false) → here ≡ Some r
  chosen_fact r fit h top = unshielded k r fit tree anything 0 fresh ordered h (λ q c g. not_above q r (row_inexact (Fact r) tree h) (top q c g))

  module _ (table : List Rule) (holds : HoldsRules tree table) where
    fact_there : (r : Rule) → Here (Fact r) → Contains table r
    fact_there r h = holds.all r (Contains-append_left _ _ r (stands_fact r tree anything 0 h))

    barrier_there : (r : Rule) → Here (Barrier r) → Contains table r
    barrier_there r h = holds.all r (Contains-append_right (facts_of tree anything 0) _ r (stands_barrier r tree anything 0 h))

    which : (r : Rule) → Contains table r → Here (Fact r) ⊎ Here (Barrier r)
    which r c = ⊎_elim (λ d. inl (fact_stands r tree anything 0 d)) (λ d. inr (barrier_stands r tree anything 0 d)) (Contains-append_cases (facts_of tree anything 0) _ r (holds.only r c))

    fact_here : (r : Rule) → MayChoose table k r → Here (Fact r) → here ≡ Some r
    fact_here r may h = chosen_fact r may.fitting h (λ q c g. may.top q (barrier_there q c) g)

    -- no barrier may be chosen beside the fact at the key
    no_barrier : (r own : Rule) → MayChoose table k r → here ≡ Some own → Here (Barrier r) → ⊥
    no_barrier r own may e h =
        let top = found_top k own tree anything 0 fresh ordered refl e in
        let lower = not_above own r (row_inexact (Barrier r) tree h) (may.top own (fact_there own top.there) top.fitting) in
        let higher = top.above r h may.fitting in
        omega (arith, lower, higher)

    one_here : (r own : Rule) → MayChoose table k r → here ≡ Some own → own ≡ r
    one_here r own may e = let same = λ (h : Here (Fact r)). sym e ∙ fact_here r may h in ⊎_elim (λ h. let s : Some own ≡ Some r = same h in cc) (λ h. absurd (no_barrier r own may e h)) (which r may.there)

    -- the fact at the key may be chosen
    own_may : (own : Rule) → here ≡ Some own → MayChoose table k own
    own_may own e =
        let top = found_top k own tree anything 0 fresh ordered refl e in
        let facts = λ (q : Rule) (h : Here (Fact q)) (g : fits q k ≡ true). ⊎_elim
        (λ lt.
        let s : Some q ≡ Some own = sym (unshielded k q g tree anything 0 fresh ordered h (λ b c i. let u = top.above b c i in omega (arith, u, lt))) ∙ e in
        let p : q.priority ≡ own.priority = cc in
        absurd (omega (arith, p, lt)))
        (λ le. no_higher q own (row_inexact (Fact q) tree h) le)
        (cases_lt own.priority q.priority) in
        record {
          there = fact_there own top.there;
          fitting = top.fitting;
          top = λ q c g. ⊎_elim (λ h. facts q h g) (λ h. no_higher q own (row_inexact (Barrier q) tree h) (let u = top.above q h g in omega (arith, u))) (which q c);
        }

  between_fact : (table : List Rule) (r : Rule) → IsShieldedBy (list_of tree) table → MayChoose table k r → Contains (facts_of tree anything 0) r → here ≡ Some r
  between_fact table r shields may c = chosen_fact r may.fitting (fact_stands r tree anything 0 c) (λ q h g. may.top q (shields.barriers q (stands_barrier q tree anything 0 h)) g)

  abbrev Exact : Rule → Option Trace → Type 0
  Exact r o = MatchOption o (Contains (barriers_of tree anything 0) r) (λ x. IsFactOf tree x r)

  abbrev Between : Rule → Option Trace → Type 0
  Between r o = MatchOption o (IsBarrier r) (λ x. IsBarrier r ⊎ IsFactOf tree x r)

  abbrev Chosen : List Rule → Option Trace → Type 0
  Chosen table o = IfSome o (λ _. (r : Rule) × MayChoose table k r)

  -- where there is no fact at the key
  without : here ≡ None → ChoosesRight traces k
  without none =
      let e = none_found none in
      let never = λ (r : Rule) (h : here ≡ Some r). let s : Some r ≡ None = sym h ∙ none in absurd {A = ⊥} (cc) in
      record {
        exact = λ table r holds may. subst (Exact r) (sym e) (⊎_elim (λ h. absurd (never r (fact_here table holds r may h))) (λ h. stands_barrier r tree anything 0 h) (which table holds r may.there));
        between = λ table r shields may. subst (Between r) (sym e) (⊎_elim (λ b. b) (λ c. absurd (never r (between_fact table r shields may c))) (shields.rest r may.there));
        some = λ table holds. subst (Chosen table) (sym e) tt;
        one = λ table r q holds a b. subst (λ o. IfSome o (λ _. r ≡ q)) (sym e) tt;
        fact = λ table r holds may c. absurd (never r (fact_here table holds r may (fact_stands r tree anything 0 c)));
        barrier = λ table r holds may c. e;
        unfit = λ table holds none. e;
      }

  -- and where there is
  with_own : (own : Rule) → here ≡ Some own → ChoosesRight traces k
  with_own own is =
      let o = own_of own is in
      let e = o.found in
      let right = λ (r : Rule) (h : here ≡ Some r). let s : Some own ≡ Some r = sym is ∙ h in let t : own ≡ r = cc in subst (IsFactOf tree o.trace) t o.fact in
      record {
        exact = λ table r holds may. subst (Exact r) (sym e) (subst (IsFactOf tree o.trace) (one_here table holds r own may is) o.fact);
        between = λ table r shields may. subst (Between r) (sym e) (⊎_elim (λ b. inl b) (λ c. inr (right r (between_fact table r shields may c))) (shields.rest r may.there));
        some = λ table holds. subst (Chosen table) (sym e) (own, own_may table holds own is);
        one = λ table r q holds a b. subst (λ o. IfSome o (λ _. r ≡ q)) (sym e) (sym (one_here table holds r own a is) ∙ one_here table holds q own b is);
        fact = λ table r holds may c. (o.trace, e, subst (IsFactOf tree o.trace) (one_here table holds r own may is) o.fact);
        barrier = λ table r holds may c. absurd (no_barrier table holds r own may is (barrier_stands r tree anything 0 c));
        unfit = λ table holds none. let may = own_may table holds own is in let f = sym may.fitting ∙ none own may.there in absurd (cc);
      }

  chooses : ChoosesRight traces k
  chooses = pick here refl
    where
      pick : (h : Option Rule) → here ≡ h → ChoosesRight traces k
      pick None e = without e
      pick (Some own) e = with_own own e

pub choice_law : ChoiceLaw
choice_law traces k a o = chooses traces k a o

pub table_law : TableLaw
table_law t facts barriers f b =
    let whole = IsPermutation-append (facts_of t anything 0) facts (barriers_of t anything 0) barriers f b in
    record {
      all = λ r h. Contains-permutation (rules_of t) (facts ++ barriers) r whole h;
      only = λ r h. Contains-permutation (facts ++ barriers) (rules_of t) r (IsPermutation-sym (rules_of t) (facts ++ barriers) whole) h;
    }
