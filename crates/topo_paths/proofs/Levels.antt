-- Next hops found level by level.
use Rattle.std.proofs.Common.{◌≡◌, ℕ, zero, suc, ◌+◌, ◌<◌, ◌≤◌, Bool, true, false, not, cond, eqb, ◌&&◌, ◌||◌, List, [], ◌∷◌, ◌++◌, length, get_or, take, Option, Some, None, is_some, Contains, refl, sym, ap, ◌∙◌, subst, ⊎_elim, arith}
use Rattle.std.specs.List.{list_any, find}
use Rattle.std.specs.Option.{option_or}
use Rattle.std.proofs.lemmas.Bool.{cases_lt, cases_order, both_ways, eq-eqb, eqb-true, and_from, and_parts, or_cases, or_left, or_right, le-leb, leb-true}
use Rattle.std.proofs.lemmas.Bool.Decides.{same_from_decides}
use Rattle.std.proofs.lemmas.List.{take_more, take_all}
use Rattle.std.proofs.lemmas.List.Folds.{list_any_at, Any-from_list_any, list_any_more, find-append}
use Rattle.maple_base.specs.declared.cells.Place.{Place}
use Rattle.topo_paths.specs.Walks.{Link}
use Rattle.topo_paths.specs.Graphs.{RisePorts}
use Rattle.topo_paths.specs.declared.rows.Ends.{Ends}
use Rattle.topo_paths.specs.NextHops.{leads_in, leads_on, distance, hop_over, hop_at, next_hop}
use Rattle.topo_paths.specs.Rows.{IsEnds, AreEnds, HaveHops, cell_at}
use Rattle.topo_paths.specs.Levels.{IsLevel, IsGrown, IsJoined, reaches, near, is_within, leads_near, hop_by}
use Rattle.topo_paths.proofs.Distances.{leads_in-none, leads_in-zero, leads_in-more, leads_in-first, distance_some}
use Rattle.topo_paths.proofs.Nearness.{distance_where}
use Rattle.topo_paths.proofs.LeastHops.{least_is_first, find_agrees}

pub same_tests : (a b : Bool) → (a ≡ true → b ≡ true) → (b ≡ true → a ≡ true) → a ≡ b
same_tests a b f g = same_from_decides {P = a ≡ true} a b (λ x. x, λ x. x) (g, f)

pub next_hop-at : (links : List Link) (from to : ℕ) (o : Option ℕ) → distance links from to ≡ o → next_hop links from to ≡ hop_at links from to o
unfolding next_hop
next_hop-at links from to o e = ap (λ x. hop_at links from to x) e

module _ (links : List Link) where
  near_true : (level from to : ℕ) → near links level from to ≡ true → (m : ℕ) × (m ≤ level) × (distance links from to ≡ Some m)
  near_true level from to h = go (distance links from to) refl h
    where
      go : (o : Option ℕ) → distance links from to ≡ o → is_within o level ≡ true → (m : ℕ) × (m ≤ level) × (distance links from to ≡ Some m)
      go None e h = absurd (cc)
      go (Some m) e h = (m, leb-true m level h, e)

  near_some : (level from to m : ℕ) → distance links from to ≡ Some m → m ≤ level → near links level from to ≡ true
  near_some level from to m is le = ap (λ o. is_within o level) is ∙ le-leb m level le

  near_from : (level from to m : ℕ) → leads_in links m from to ≡ true → m ≤ level → near links level from to ≡ true
  near_from level from to m leads le =
      let (n, is) = distance_where links to m from leads in
      near_some level from to n is (omega (arith, (distance_some links from to n is).least m leads, le))

  none_between : (from to : ℕ) → near links 0 from to ≡ true → distance links from to ≡ Some zero
  none_between from to h = let (m, le, is) = near_true 0 from to h in is ∙ ap Some (omega (arith, le))

  near_zero : (from to : ℕ) → near links 0 from to ≡ eqb from to
  near_zero from to =
      same_tests _ _
      (λ h. eq-eqb _ _ (leads_in-zero links from to (distance_some links from to zero (none_between from to h)).leads))
      (λ h. near_from 0 from to 0 (leads_in-none links from to (eqb-true _ _ h)) (omega arith))

  -- one link in front of a walk of at most so many
  near_in_front : (level from to k : ℕ) (link : Link) → k < length links → get_or links k link ≡ link → link.0.switch ≡ from → near links level link.1.switch to ≡ true → (m : ℕ) × (m ≤ level) × (leads_in links m link.1.switch to ≡ true) × (leads_in links (suc m) from to ≡ true)
  near_in_front level from to k link lt at begins h =
      let (m, le, is) = near_true level link.1.switch to h in
      let leads = (distance_some links link.1.switch to m is).leads in
      (m, le, leads, leads_in-more links m k from to link lt (ap (λ (x : Link). x.0.switch) at ∙ begins) (subst (λ (x : Link). leads_in links m x.1.switch to ≡ true) (sym at) leads))

  near_more : (level from to : ℕ) → near links (level + 1) from to ≡ (near links level from to || list_any (leads_near links level from to) links)
  near_more level from to = same_tests _ _ forth back
    where
      forth : near links (level + 1) from to ≡ true → (near links level from to || list_any (leads_near links level from to) links) ≡ true
      forth h =
          let (m, le, is) = near_true (level + 1) from to h in
          ⊎_elim
          (λ less. or_left _ _ (near_some level from to m is (omega (arith, less))))
          (λ more.
          let last : m ≡ suc level = omega (arith, more, le) in
          let (k, link, lt, at, begins, rest) = leads_in-first links level from to (subst (λ n. leads_in links n from to ≡ true) last (distance_some links from to m is).leads) in
          let passes : leads_near links level from to link ≡ true = and_from _ _ (eq-eqb _ _ begins) (near_from level link.1.switch to level rest (omega arith)) in
          or_right _ _ (list_any_at (leads_near links level from to) links k link lt (subst (λ (x : Link). leads_near links level from to x ≡ true) (sym at) passes)))
          (cases_lt m (level + 1))

      front : list_any (leads_near links level from to) links ≡ true → near links (level + 1) from to ≡ true
      front h =
          let (k, link, lt, at, passes) = Any-from_list_any (leads_near links level from to) links h in
          let (a, b) = and_parts (eqb link.0.switch from) (near links level link.1.switch to) passes in
          let (m, le, rest, leads) = near_in_front level from to k link lt at (eqb-true _ _ a) b in
          near_from (level + 1) from to (suc m) leads (omega (arith, le))

      back : (near links level from to || list_any (leads_near links level from to) links) ≡ true → near links (level + 1) from to ≡ true
      back h =
          ⊎_elim
          (λ here. let (m, le, is) = near_true level from to here in near_some (level + 1) from to m is (omega (arith, le)))
          front
          (or_cases _ _ h)

  -- what is newly reached has the hop over the first link that leads there
  new_hop : (level from to : ℕ) → RisePorts links → near links level from to ≡ false → near links (level + 1) from to ≡ true → next_hop links from to ≡ hop_by (find (leads_near links level from to) links)
  new_hop level from to rise far h =
      let (m, le, is) = near_true (level + 1) from to h in
      let last : m ≡ suc level = ⊎_elim (λ less. absurd (both_ways _ far (near_some level from to m is (omega (arith, less))))) (λ more. omega (arith, more, le)) (cases_lt m (level + 1)) in
      let exact : distance links from to ≡ Some (suc level) = is ∙ ap Some last in
      next_hop-at links from to (Some (suc level)) exact
      ∙ least_is_first (leads_on links level from to) from (λ link p. eqb-true _ _ (and_parts (eqb link.0.switch from) (leads_in links level link.1.switch to) p).0) links rise
      ∙ ap hop_by (find_agrees (leads_on links level from to) (leads_near links level from to) links (λ link c. agree link c exact))
    where
      agree : (link : Link) → Contains links link → distance links from to ≡ Some (suc level) → leads_on links level from to link ≡ leads_near links level from to link
      agree link (k, lt, at) exact =
          same_tests _ _
          (λ p. let (a, b) = and_parts (eqb link.0.switch from) (leads_in links level link.1.switch to) p in and_from _ _ a (near_from level link.1.switch to level b (omega arith)))
          (λ p.
          let (a, b) = and_parts (eqb link.0.switch from) (near links level link.1.switch to) p in
          let (m, le, rest, leads) = near_in_front level from to k link lt at (eqb-true _ _ a) b in
          let same : m ≡ level = omega (arith, le, (distance_some links from to (suc level) exact).least (suc m) leads) in
          and_from _ _ a (subst (λ n. leads_in links n link.1.switch to ≡ true) same rest))

find_none : (test : Link → Bool) (links : List Link) → is_some (find test links) ≡ list_any test links
find_none test [] = refl
find_none test (link ∷ links) =
    elim (test link) as (λ b. is_some (cond b (Some link) (find test links)) ≡ (b || list_any test links)) [
      | true ↦ refl
      | false ↦ find_none test links
    ]

pub or_none : (b : Bool) → b ≡ (b || false)
or_none b = grind arith

or_or : (a b c : Bool) → ((a || b) || c) ≡ (a || (b || c))
or_or a b c = grind arith

-- the hop of a place after a link was joined
joined_hop : (e b n : Bool) (link : Link) (found : Option Link) (next : Option Place) → cond (e && (b && not (n || is_some found))) (Some (hop_over link)) (cond n next (hop_by found)) ≡ cond n next (hop_by (option_or found (cond (e && b) (Some link) None)))
joined_hop e b n link found next = grind arith

-- the hop of a place after all links were joined
grown_hop : (a b : Bool) (found : Option Link) (next : Option Place) → b ≡ (a || is_some found) → (a ≡ false → b ≡ true → next ≡ hop_by found) → cond a next (hop_by found) ≡ cond b next None
grown_hop true b found next e new = ap (λ x. cond x next None) (sym e)
grown_hop false b None next e new = ap (λ x. cond x next None) (sym e)
grown_hop false b (Some x) next e new = sym (new refl e) ∙ ap (λ x. cond x next None) (sym e)

module _ (links : List Link) (switches : List ℕ) (ends : List Ends) (are : AreEnds links switches ends) where
  abbrev name : ℕ → ℕ
  name k = get_or switches k 0

  name_one : (a b : ℕ) → a < length switches → b < length switches → name a ≡ name b → a ≡ b
  name_one a b la lb e =
      ⊎_elim (λ same. same)
      (λ o. ⊎_elim (λ less. absurd (are.apart a b 0 less lb e)) (λ more. absurd (are.apart b a 0 more la (sym e))) o)
      (cases_order a b)

  ends_at : (k : ℕ) (link : Link) (d : Ends) → k < length links → get_or links k link ≡ link → IsEnds switches link (get_or ends k d)
  ends_at k link d short at = subst (λ (x : Link). IsEnds switches x (get_or ends k d)) at (are.each k link d short)

  abbrev pub test_at : ℕ → ℕ → ℕ → Link → Bool
  test_at level from to = leads_near links level (name from) (name to)

  same_names : (a b : ℕ) → a < length switches → b < length switches → eqb a b ≡ eqb (name a) (name b)
  same_names a b la lb = same_tests _ _ (λ h. eq-eqb _ _ (ap name (eqb-true _ _ h))) (λ h. eq-eqb _ _ (name_one a b la lb (eqb-true _ _ h)))

  -- a further link is joined
  pub grown_more : (level count : ℕ) (link : Link) (e : Ends) (before masks masks' : List ℕ) (first rows rows' : List (List (Option Place))) → count < length links → get_or links count link ≡ link → get_or ends count e ≡ e → IsLevel links switches level before first → IsJoined e (hop_over link) before masks rows masks' rows' → IsGrown links switches level count masks rows → IsGrown links switches level (count + 1) masks' rows'
  grown_more level count link e before masks masks' first rows rows' short at here l j g =
      record {
        reached = λ from to lf lt. j.reached from to (small from lf) (small to lt)
            ∙ ap (λ b. b || (eqb e.from from && reaches before e.to to)) (g.reached from to lf lt)
            ∙ ap (λ b. (near links level (name from) (name to) || list_any (test_at level from to) (take count links)) || b) (passes from to lf lt)
            ∙ or_or (near links level (name from) (name to)) _ _
            ∙ ap (λ b. near links level (name from) (name to) || b) (sym (list_any_more (test_at level from to) links count link short ∙ ap (λ x. list_any (test_at level from to) (take count links) || test_at level from to x) at));
        hops = λ from to lf lt. j.hops from to (small from lf) (small to lt)
            ∙ (λ i. cond (eqb e.from from && (reaches before e.to to && not (known from to lf lt i))) (Some (hop_over link)) (g.hops from to lf lt i))
            ∙ joined_hop (eqb e.from from) (reaches before e.to to) (near links level (name from) (name to)) link (find (test_at level from to) (take count links)) (next_hop links (name from) (name to))
            ∙ ap (λ b. cond (near links level (name from) (name to)) (next_hop links (name from) (name to)) (hop_by (option_or (find (test_at level from to) (take count links)) (cond b (Some link) None)))) (passes from to lf lt)
            ∙ ap (λ x. cond (near links level (name from) (name to)) (next_hop links (name from) (name to)) (hop_by x)) (sym (find_more from to));
      }
    where
      small : (k : ℕ) → k < length switches → k < 64
      small k lt = omega (arith, lt, are.few)

      are_ends : IsEnds switches link e
      are_ends = subst (λ (x : Ends). IsEnds switches link x) here (ends_at count link e short at)

      begins : (from : ℕ) → from < length switches → eqb e.from from ≡ eqb link.0.switch (name from)
      begins from lf = same_names e.from from are_ends.within.0 lf ∙ ap (λ s. eqb s (name from)) are_ends.from

      passes : (from to : ℕ) → from < length switches → to < length switches → (eqb e.from from && reaches before e.to to) ≡ test_at level from to link
      passes from to lf lt = λ i. begins from lf i && (l.reached e.to to are_ends.within.1 lt ∙ ap (λ s. near links level s (name to)) are_ends.to) i

      known : (from to : ℕ) → from < length switches → to < length switches → reaches masks from to ≡ (near links level (name from) (name to) || is_some (find (test_at level from to) (take count links)))
      known from to lf lt = g.reached from to lf lt ∙ ap (λ b. near links level (name from) (name to) || b) (sym (find_none (test_at level from to) (take count links)))

      find_more : (from to : ℕ) → find (test_at level from to) (take (count + 1) links) ≡ option_or (find (test_at level from to) (take count links)) (cond (test_at level from to link) (Some link) None)
      find_more from to =
          ap (find (test_at level from to)) (take_more links count link short ∙ ap (λ x. take count links ++ x ∷ []) at)
          ∙ find-append (test_at level from to) (take count links) (link ∷ [])

  pub grown_end : (level : ℕ) (masks : List ℕ) (rows : List (List (Option Place))) → RisePorts links → IsGrown links switches level (length links) masks rows → IsLevel links switches (level + 1) masks rows
  grown_end level masks rows rise g =
      record {
        reached = λ from to lf lt. g.reached from to lf lt
            ∙ ap (λ x. near links level (name from) (name to) || list_any (leads_near links level (name from) (name to)) x) whole
            ∙ sym (near_more links level (name from) (name to));
        hops = λ from to lf lt. g.hops from to lf lt
            ∙ ap (λ x. cond (near links level (name from) (name to)) (next_hop links (name from) (name to)) (hop_by (find (leads_near links level (name from) (name to)) x))) whole
            ∙ grown_hop _ _ _ _
            (near_more links level (name from) (name to) ∙ ap (λ b. near links level (name from) (name to) || b) (sym (find_none (leads_near links level (name from) (name to)) links)))
            (new_hop links level (name from) (name to) rise);
      }
    where
      whole : take (length links) links ≡ links
      whole = take_all (length links) links (omega arith)

  -- before the first level
  pub level_start : (masks : List ℕ) (rows : List (List (Option Place))) → ((from to : ℕ) → from < 64 → to < 64 → reaches masks from to ≡ eqb from to) → ((from to : ℕ) → from < 64 → to < 64 → cell_at rows to from ≡ None) → IsLevel links switches 0 masks rows
  level_start masks rows alone none =
      record {
        reached = λ from to lf lt. alone from to (omega (arith, lf, are.few)) (omega (arith, lt, are.few)) ∙ same_names from to lf lt ∙ sym (near_zero links (name from) (name to));
        hops = λ from to lf lt. none from to (omega (arith, lf, are.few)) (omega (arith, lt, are.few)) ∙ at_none from to (near links 0 (name from) (name to)) refl;
      }
    where
      at_none : (from to : ℕ) (b : Bool) → near links 0 (name from) (name to) ≡ b → None ≡ cond b (next_hop links (name from) (name to)) None
      at_none from to false h = refl
      at_none from to true h = sym (next_hop-at links (name from) (name to) (Some zero) (none_between links (name from) (name to) h))

  -- every walk leads to what is reached
  abbrev pub IsSettled : ℕ → Type 0
  IsSettled level = (m from to : ℕ) → from < length switches → to < length switches → leads_in links m (name from) (name to) ≡ true → near links level (name from) (name to) ≡ true

  pub settled_same : (level : ℕ) (masks : List ℕ) (rows rows' : List (List (Option Place))) → IsLevel links switches level masks rows → IsLevel links switches (level + 1) masks rows' → IsSettled (level + 1)
  settled_same level masks rows rows' l l' zero from to lf lt h = near_from links (level + 1) (name from) (name to) zero h (omega arith)
  settled_same level masks rows rows' l l' (suc m) from to lf lt h =
      let (k, link, short, at, begins, rest) = leads_in-first links m (name from) (name to) h in
      let there = get_or ends k (record { from = 0; to = 0 }) in
      let z = ends_at k link _ short at in
      let in_to = z.within.1 in
      let to_is : name there.to ≡ link.1.switch = z.to in
      let on = settled_same level masks rows rows' l l' m there.to to in_to lt (subst (λ s. leads_in links m s (name to) ≡ true) (sym to_is) rest) in
      let on' : near links level link.1.switch (name to) ≡ true = sym (ap (λ s. near links level s (name to)) to_is) ∙ sym (l.reached there.to to in_to lt) ∙ l'.reached there.to to in_to lt ∙ on in
      let (n, le, rest', leads) = near_in_front links level (name from) (name to) k link short at begins on' in
      near_from links (level + 1) (name from) (name to) (suc n) leads (omega (arith, le))

  pub settled_all : (level : ℕ) → length links ≤ level → IsSettled level
  settled_all level all m from to lf lt h =
      let (n, is) = distance_where links (name to) m (name from) h in
      near_some links level (name from) (name to) n is (omega (arith, all, (distance_some links (name from) (name to) n is).short))

  pub level_end : (level : ℕ) (masks : List ℕ) (rows : List (List (Option Place))) → IsSettled level → IsLevel links switches level masks rows → HaveHops links switches rows
  level_end level masks rows settled l from to lf lt = l.hops from to lf lt ∙ go (near links level (name from) (name to)) refl
    where
      none : (o : Option ℕ) → distance links (name from) (name to) ≡ o → near links level (name from) (name to) ≡ false → None ≡ next_hop links (name from) (name to)
      none None is far = sym (next_hop-at links (name from) (name to) None is)
      none (Some m) is far = absurd (both_ways _ far (settled m from to lf lt (distance_some links (name from) (name to) m is).leads))

      go : (b : Bool) → near links level (name from) (name to) ≡ b → cond b (next_hop links (name from) (name to)) None ≡ next_hop links (name from) (name to)
      go true h = refl
      go false h = none (distance links (name from) (name to)) refl h
