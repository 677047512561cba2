-- What a table keeps during a batch, change by change.
use Rattle.std.proofs.Common.{◌≡◌, ◌⊎◌, ◌≤◌, true, false, List, [], ◌∷◌, ◌++◌, length, refl, sym, ap, ◌∙◌, subst, inl, inr, ⊎_elim}
use Rattle.std.specs.Prelude.{Contains, map, not}
use Rattle.std.specs.List.{AllPairs}
use Rattle.std.specs.List.Sorted.{IsPermutation}
use Rattle.std.proofs.lemmas.Bool.{cases_Bool}
use Rattle.std.proofs.lemmas.List.Sorted.{IsPermutation-sym, Contains-permutation}
use Rattle.std.proofs.lemmas.List.Elements.{Contains-append_cases, Contains-append_left, Contains-append_right}
use Rattle.maple_base.specs.declared.decision.Rule.{Rule}
use Rattle.maple_base.specs.declared.decision.TableMod.{TableMod}
use Rattle.maple_base.specs.declared.decision.TableMod.TheVariants.{Add}
use Rattle.maple_base.specs.Choice.{Differ}
use Rattle.flow_table.specs.Effects.{is_at, has_at, others, effect, after}
use Rattle.update_plan.specs.Batches.{deletion, batch}
use Rattle.update_plan.specs.Laws.{AreFrom, IsDuring}
use Rattle.update_plan.proofs.Members.{none_in, here, there, in_cons, in_filter, filter_in, any_in, none_any, any_none, pairs_cons, pairs_filter, in_map, map_in}
use Rattle.update_plan.proofs.Distinct.{Agree, agree_at, at_agree, turned, chained, equal_agree, one_of, distinct_permutation, same_rules, no_more}

-- a rule of this one's match and priority, or none
pub at_in : (r : Rule) (rules : List Rule) → has_at r.of r.priority rules ≡ true → (q : Rule) × Contains rules q × Agree q r
at_in r rules h = let t = any_in (is_at r.of r.priority) rules h in (t.0, t.1, at_agree r t.0 t.2)

pub none_at : (r q : Rule) (rules : List Rule) → has_at r.of r.priority rules ≡ false → Contains rules q → Agree q r → ⊥
none_at r q rules h c s = any_none (is_at r.of r.priority) rules q h c (agree_at r q s)

pub at_none : (r : Rule) (rules : List Rule) → ((q : Rule) → Contains rules q → Agree q r → ⊥) → has_at r.of r.priority rules ≡ false
at_none r rules h = none_any (is_at r.of r.priority) rules (λ q c e. h q c (at_agree r q e))

-- the other rules
pub in_others : (r q : Rule) (rules : List Rule) → Contains (others r.of r.priority rules) q → Contains rules q × (Agree q r → ⊥)
in_others r q rules c =
    let t = in_filter (λ x. not (is_at r.of r.priority x)) rules q c in
    (t.0, λ s. let e = agree_at r q s in let f = ap not e in let g = t.1 in absurd (cc))

pub others_in : (r q : Rule) (rules : List Rule) → Contains rules q → (Agree q r → ⊥) → Contains (others r.of r.priority rules) q
others_in r q rules c away =
    filter_in (λ x. not (is_at r.of r.priority x)) rules q c (⊎_elim (λ e. absurd (away (at_agree r q e))) (λ e. ap not e) (cases_Bool (is_at r.of r.priority q)))

-- no two additions are at one match and priority, and no deletion is at one where a rule is added
pub record AreApart (adds deletes : List Rule) : Type 0 where
  pub distinct : AllPairs Differ adds
  pub parted : (r q : Rule) → Contains deletes r → Contains adds q → Agree q r → ⊥

module _ (start adds deletes : List Rule) where
  pub during_begins : (table : List Rule) → AllPairs Differ start → IsPermutation start table → IsDuring start adds deletes [] table
  during_begins table d moves = record {
    distinct = distinct_permutation start table moves d;
    came = λ r c. inl (Contains-permutation table start r (IsPermutation-sym start table moves) c);
    kept = λ r c h. Contains-permutation start table r moves c;
    added = λ r c h. absurd (none_in (Add r) h);
    deleted = λ r c h. absurd (none_in (deletion r) h);
  }

  -- where a table puts its rules tells nothing
  during_moved : (done : List TableMod) (table new : List Rule) → IsPermutation table new → IsDuring start adds deletes done table → IsDuring start adds deletes done new
  during_moved done table new moves h = record {
    distinct = distinct_permutation table new moves h.distinct;
    came = λ r c. h.came r (back r c);
    kept = λ r c e. Contains-permutation table new r moves (h.kept r c e);
    added = λ r c e. Contains-permutation table new r moves (h.added r c e);
    deleted = λ r c e. at_none r new (λ q d s. none_at r q table (h.deleted r c e) (back q d) s);
  }
    where
      back : (r : Rule) → Contains new r → Contains table r
      back r c = Contains-permutation new table r (IsPermutation-sym table new moves) c

  module _ (apart : AreApart adds deletes) (done : List TableMod) (table : List Rule) (h : IsDuring start adds deletes done table) where
    adding : (r : Rule) → Contains adds r → IsDuring start adds deletes (Add r ∷ done) (effect (Add r) table)
    adding r a = record {
      distinct = pairs_cons Differ r (others r.of r.priority table) (λ q c of priority. (in_others r q table c).1 (sym of, sym priority)) (pairs_filter Differ (λ x. not (is_at r.of r.priority x)) table h.distinct);
      came = λ q c. ⊎_elim (λ e. inr (subst (Contains adds) e a)) (λ d. h.came q (in_others r q table d).0) (in_cons r (others r.of r.priority table) q c);
      kept = λ q c e. stays q (h.kept q c e) (λ s. absurd (none_at q r (adds ++ deletes) e (Contains-append_left adds deletes r a) (turned q r s)));
      added = λ q c e. ⊎_elim (λ same. let f : r ≡ q = cc in subst (Contains (effect (Add r) table)) f (here r (others r.of r.priority table)))
          (λ d. stays q (h.added q c d) (λ s. one_of adds r q apart.distinct a c (turned q r s)))
          (in_cons (Add r) done (Add q) e);
      deleted = λ q c e. at_none q (effect (Add r) table) (λ x d s. gone q c e x s (in_cons r (others r.of r.priority table) x d));
    }
      where
        stays : (q : Rule) → Contains table q → (Agree q r → r ≡ q) → Contains (effect (Add r) table) q
        stays q c same = ⊎_elim (λ e. subst (Contains (effect (Add r) table)) (same (at_agree r q e)) (here r (others r.of r.priority table)))
            (λ e. there r (others r.of r.priority table) q (others_in r q table c (λ s. let f = agree_at r q s in absurd (cc))))
            (cases_Bool (is_at r.of r.priority q))

        before : (q : Rule) → Contains (Add r ∷ done) (deletion q) → Contains done (deletion q)
        before q e = ⊎_elim (λ same. absurd (cc)) (λ d. d) (in_cons (Add r) done (deletion q) e)

        gone : (q : Rule) → Contains deletes q → Contains (Add r ∷ done) (deletion q) → (x : Rule) → Agree x q → (r ≡ x) ⊎ Contains (others r.of r.priority table) x → ⊥
        gone q c e x s (inl same) = apart.parted q r c a (chained r x q (equal_agree r x same) s)
        gone q c e x s (inr d) = none_at q x table (h.deleted q c (before q e)) (in_others r x table d).0 s

    deleting : (r : Rule) → Contains deletes r → IsDuring start adds deletes (deletion r ∷ done) (effect (deletion r) table)
    deleting r a = record {
      distinct = pairs_filter Differ (λ x. not (is_at r.of r.priority x)) table h.distinct;
      came = λ q c. h.came q (in_others r q table c).0;
      kept = λ q c e. others_in r q table (h.kept q c e) (λ s. none_at q r (adds ++ deletes) e (Contains-append_right adds deletes r a) (turned q r s));
      added = λ q c e. others_in r q table (h.added q c (before q e)) (λ s. apart.parted r q a c s);
      deleted = λ q c e. at_none q (others r.of r.priority table) (λ x d s. gone q c x d s (in_cons (deletion r) done (deletion q) e));
    }
      where
        before : (q : Rule) → Contains (deletion r ∷ done) (Add q) → Contains done (Add q)
        before q e = ⊎_elim (λ same. absurd (cc)) (λ d. d) (in_cons (deletion r) done (Add q) e)

        gone : (q : Rule) → Contains deletes q → (x : Rule) → Contains (others r.of r.priority table) x → Agree x q → (deletion r ≡ deletion q) ⊎ Contains done (deletion q) → ⊥
        gone q c x d s (inl same) =
            let e : r.of ≡ q.of = cc in
            let f : r.priority ≡ q.priority = cc in
            (in_others r x table d).1 (s.0 ∙ sym e, s.1 ∙ sym f)
        gone q c x d s (inr e) = none_at q x table (h.deleted q c e) (in_others r x table d).0 s

    -- one more change of the batch
    changed : (m : TableMod) → Contains (batch adds deletes) m → IsDuring start adds deletes (m ∷ done) (effect m table)
    changed m c = ⊎_elim as_add as_delete (Contains-append_cases (map Add adds) (map deletion deletes) m c)
      where
        as_add : Contains (map Add adds) m → IsDuring start adds deletes (m ∷ done) (effect m table)
        as_add d = let t = in_map Add adds m d in subst (λ z. IsDuring start adds deletes (z ∷ done) (effect z table)) t.2 (adding t.0 t.1)

        as_delete : Contains (map deletion deletes) m → IsDuring start adds deletes (m ∷ done) (effect m table)
        as_delete d = let t = in_map deletion deletes m d in subst (λ z. IsDuring start adds deletes (z ∷ done) (effect z table)) t.2 (deleting t.0 t.1)

  pub one_more : AreApart adds deletes → (done : List TableMod) (m : TableMod) (table new : List Rule) → Contains (batch adds deletes) m → IsDuring start adds deletes done table → IsPermutation (effect m table) new
      → IsDuring start adds deletes (m ∷ done) new
  one_more apart done m table new c h moves = during_moved (m ∷ done) (effect m table) new moves (changed apart done table h m c)

  -- a list of changes, one after the other: these were done
  pub done_with : List TableMod → List TableMod → List TableMod
  done_with done [] = done
  done_with done (m ∷ ms) = done_with (m ∷ done) ms

  pub after_during : AreApart adds deletes → (done ms : List TableMod) (table : List Rule) → AreFrom (batch adds deletes) ms → IsDuring start adds deletes done table → IsDuring start adds deletes (done_with done ms) (after ms table)
  unfolding done_with
  after_during apart done [] table from h = h
  after_during apart done (m ∷ ms) table from h = after_during apart (m ∷ done) ms (effect m table) (λ x c. from x (there m ms x c)) (changed apart done table h m (from m (here m ms)))

  pub was_done : (done ms : List TableMod) (m : TableMod) → Contains done m → Contains (done_with done ms) m
  unfolding done_with
  was_done done [] m c = c
  was_done done (x ∷ ms) m c = was_done (x ∷ done) ms m (there x done m c)

  pub is_done : (done ms : List TableMod) (m : TableMod) → Contains ms m → Contains (done_with done ms) m
  unfolding done_with
  is_done done [] m c = absurd (none_in m c)
  is_done done (x ∷ ms) m c = ⊎_elim (λ e. subst (λ z. Contains (done_with (x ∷ done) ms) z) e (was_done (x ∷ done) ms x (here x done))) (λ d. is_done (x ∷ done) ms m d) (in_cons x ms m c)

  add_done : (done : List TableMod) → AreFrom done (batch adds deletes) → (r : Rule) → Contains adds r → Contains done (Add r)
  add_done done all r c = all (Add r) (Contains-append_left (map Add adds) (map deletion deletes) (Add r) (map_in Add adds r c))

  delete_done : (done : List TableMod) → AreFrom done (batch adds deletes) → (r : Rule) → Contains deletes r → Contains done (deletion r)
  delete_done done all r c = all (deletion r) (Contains-append_right (map Add adds) (map deletion deletes) (deletion r) (map_in deletion deletes r c))

  -- behind the whole batch
  module _ (done : List TableMod) (table : List Rule) (all : AreFrom done (batch adds deletes)) (h : IsDuring start adds deletes done table) where
    pub add_there : (r : Rule) → Contains adds r → Contains table r
    add_there r c = h.added r c (add_done done all r c)

    pub none_deleted : (r q : Rule) → Contains deletes r → Contains table q → Agree q r → ⊥
    none_deleted r q c d s = none_at r q table (h.deleted r c (delete_done done all r c)) d s

    -- a rule of the table was added, or neither an addition nor a deletion is at its match and priority
    pub settled : (r : Rule) → Contains table r → Contains adds r ⊎ (Contains start r × (has_at r.of r.priority (adds ++ deletes) ≡ false))
    settled r c = ⊎_elim (λ e. inl (as_add (at_in r (adds ++ deletes) e))) (λ e. ⊎_elim (λ d. inr (d, e)) (λ d. inl d) (h.came r c)) (cases_Bool (has_at r.of r.priority (adds ++ deletes)))
      where
        as_add : (q : Rule) × Contains (adds ++ deletes) q × Agree q r → Contains adds r
        as_add t = ⊎_elim (λ d. subst (Contains adds) (one_of table t.0 r h.distinct (add_there t.0 d) c t.2) d) (λ d. absurd (none_deleted t.0 r d c (turned t.0 r t.2))) (Contains-append_cases adds deletes t.0 t.1)

  within : (done also : List TableMod) (table other : List Rule) → AreFrom done (batch adds deletes) → AreFrom also (batch adds deletes) → IsDuring start adds deletes done table → IsDuring start adds deletes also other
      → (r : Rule) → Contains table r → Contains other r
  within done also table other all both h o r c = ⊎_elim (λ a. add_there also other both o r a) (λ s. o.kept r s.0 s.1) (settled done table all h r c)

  -- the whole batch leaves the same rules, in whatever order it is carried out
  pub one_end : (done also : List TableMod) (table other : List Rule) → AreFrom done (batch adds deletes) → AreFrom also (batch adds deletes) → IsDuring start adds deletes done table → IsDuring start adds deletes also other → IsPermutation table other
  one_end done also table other all both h o = same_rules table other h.distinct o.distinct (within done also table other all both h o) (within also done other table both all o h)

-- additions take no match and priority away
pub keeps_place : (adds rules : List Rule) (r : Rule) → Contains rules r → (q : Rule) × Contains (after (map Add adds) rules) q × Agree q r
keeps_place [] rules r c = (r, c, (refl, refl))
keeps_place (x ∷ adds) rules r c = step (keeps_place adds (effect (Add x) rules)) (cases_Bool (is_at x.of x.priority r))
  where
    step : ((y : Rule) → Contains (effect (Add x) rules) y → (q : Rule) × Contains (after (map Add adds) (effect (Add x) rules)) q × Agree q y) → (is_at x.of x.priority r ≡ true) ⊎ (is_at x.of x.priority r ≡ false)
        → (q : Rule) × Contains (after (map Add adds) (effect (Add x) rules)) q × Agree q r
    step later (inl e) = let t = later x (here x (others x.of x.priority rules)) in (t.0, t.1, chained t.0 x r t.2 (turned r x (at_agree x r e)))
    step later (inr e) = later r (there x (others x.of x.priority rules) r (others_in x r rules c (λ s. let f = agree_at x r s in absurd (cc))))

takes_place : (adds rules : List Rule) (r : Rule) → Contains adds r → (q : Rule) × Contains (after (map Add adds) rules) q × Agree q r
takes_place [] rules r c = absurd (none_in r c)
takes_place (x ∷ adds) rules r c = step (takes_place adds (effect (Add x) rules) r) (in_cons x adds r c)
  where
    step : (Contains adds r → (q : Rule) × Contains (after (map Add adds) (effect (Add x) rules)) q × Agree q r) → (x ≡ r) ⊎ Contains adds r → (q : Rule) × Contains (after (map Add adds) (effect (Add x) rules)) q × Agree q r
    step later (inl e) = let t = keeps_place adds (effect (Add x) rules) x (here x (others x.of x.priority rules)) in (t.0, t.1, chained t.0 x r t.2 (equal_agree x r e))
    step later (inr d) = later d

-- a table during a batch has no more rules than what the batch began with and its additions together
pub within_peak : (start adds deletes : List Rule) (done : List TableMod) (table : List Rule) → IsDuring start adds deletes done table → length table ≤ length (after (map Add adds) start)
within_peak start adds deletes done table h =
    no_more table (after (map Add adds) start) h.distinct (λ r c. ⊎_elim (λ d. keeps_place adds start r d) (λ d. takes_place adds start r d) (h.came r c))
