-- What the next hop is, over all walks.
use Rattle.std.proofs.Common.{◌≡◌, ◌⊎◌, ℕ, zero, suc, ◌≤◌, true, ◌==◌, List, ◌∷◌, length, Option, Some, None, MatchOption, IfSome, IfNone, IsTrue, Contains, inl, inr, refl, sym, ap, ◌∙◌, subst, arith}
use Rattle.std.specs.List.{All}
use Rattle.std.proofs.lemmas.Bool.{both_ways, eq-eqb, eqb-true, and_from, and_parts}
use Rattle.std.proofs.lemmas.List.Elements.{All-contains}
use Rattle.std.proofs.lemmas.Option.{none-some}
use Rattle.maple_base.specs.declared.cells.Place.{Place}
use Rattle.env_cells.specs.Values.{at_or_nothing}
use Rattle.topo_paths.specs.Graphs.{IsGraph}
use Rattle.topo_paths.specs.Tables.{IsShown}
use Rattle.topo_paths.specs.Walks.{Link, IsWalk, NoWalk, IsShortest, IsNextHop}
use Rattle.env_cells.specs.Lists.{IsAmong, IsBetweenPorts}
use Rattle.maple_base.specs.Paths.{is_hop}
use Rattle.topo_paths.specs.NextHops.{leads_in, leads_on, distance, hop_over, next_hop}
use Rattle.topo_paths.proofs.Levels.{next_hop-at}
use Rattle.topo_paths.proofs.Distances.{leads_in-none, leads_in-zero, leads_in-more, leads_in-first, leads_in-walk, walk_from_leads, IsDistance, distance_is, distance_some}
use Rattle.topo_paths.proofs.Nearness.{distance_where, to_named}
use Rattle.topo_paths.proofs.LeastHops.{IsLeast, least_is}

-- a hop stands where a walk of one link or more is a shortest
pub record IsHop (links : List Link) (from to : ℕ) (hop : Place) : Type 0 where
  pub rest : ℕ
  pub far : distance links from to ≡ Some (suc rest)
  pub link : Link
  pub there : Contains links link
  pub begins : link.0.switch ≡ from
  pub leads : leads_in links rest link.1.switch to ≡ true
  pub over : hop ≡ hop_over link
  pub least : (other : Link) → Contains links other → leads_on links rest from to other ≡ true → hop.port ≤ other.0.port

module _ (links : List Link) (from to : ℕ) where
  -- the least hop, where a shortest walk has so many links
  least_at : (m : ℕ) → distance links from to ≡ Some (suc m) → IsLeast (leads_on links m from to) links (next_hop links from to)
  least_at m e = subst (λ r. IsLeast (leads_on links m from to) links r) (sym (next_hop-at links from to (Some (suc m)) e)) (least_is (leads_on links m from to) links)

  pub as_hop : (hop : Place) → next_hop links from to ≡ Some hop → IsHop links from to hop
  as_hop hop h = go (distance links from to) refl
    where
      go : (o : Option ℕ) → distance links from to ≡ o → IsHop links from to hop
      go None e = absurd (none-some hop (sym (next_hop-at links from to None e) ∙ h))
      go (Some zero) e = absurd (none-some hop (sym (next_hop-at links from to (Some zero) e) ∙ h))
      go (Some (suc m)) e =
          let ((link, c, passes, is), least) = subst (λ r. IsLeast (leads_on links m from to) links r) h (least_at m e) in
          let (a, b) = and_parts (link.0.switch == from) (leads_in links m link.1.switch to) passes in
          record { rest = m; far = e; link = link; there = c; begins = eqb-true _ _ a; leads = b; over = is; least = least }

  -- the hop is the first of a shortest walk of all, by the least port
  pub hop_some : (hop : Place) → next_hop links from to ≡ Some hop → IsNextHop links from to hop
  hop_some hop h =
      record {
        apart = λ e. absurd (omega (arith, d.least 0 (leads_in-none links from to e)));
        begins = (i.link, (walk, shortest), ap (λ (x : Place). x.port) i.over, ap (λ (x : Place). x.switch) i.over);
        least = λ other (rest, s). by_port other rest s;
      }
    where
      i : IsHop links from to hop
      i = as_hop hop h

      d : IsDistance links from to (suc i.rest)
      d = distance_some links from to (suc i.rest) i.far

      found : (walk : List Link) × IsWalk links i.link.1.switch to walk × (length walk ≡ i.rest)
      found = walk_from_leads links i.rest i.link.1.switch to i.leads

      walk : List Link
      walk = found.0

      whole : IsWalk links from to (i.link ∷ walk)
      whole = (i.there, i.begins, found.1)

      shortest : IsShortest links from to (i.link ∷ walk)
      shortest = record { leads = whole; least = λ other leads. omega (arith, found.2, d.least (length other) (leads_in-walk links other from to leads)) }

      by_port : (other : Link) (rest : List Link) → IsShortest links from to (other ∷ rest) → hop.port ≤ other.0.port
      by_port other rest s =
          let long : length rest ≡ i.rest = omega (arith, found.2, s.least (i.link ∷ walk) whole, d.least (suc (length rest)) (leads_in-walk links (other ∷ rest) from to s.leads)) in
          let on : leads_in links i.rest other.1.switch to ≡ true = subst (λ n. leads_in links n other.1.switch to ≡ true) long (leads_in-walk links rest other.1.switch to s.leads.2) in
          i.least other s.leads.0 (and_from (other.0.switch == from) (leads_in links i.rest other.1.switch to) (eq-eqb other.0.switch from s.leads.1) on)

  -- no hop stands only where no walk leads, or none is needed
  pub hop_none : next_hop links from to ≡ None → (from ≡ to) ⊎ NoWalk links from to
  hop_none h = go (distance links from to) refl
    where
      go : (o : Option ℕ) → distance links from to ≡ o → (from ≡ to) ⊎ NoWalk links from to
      go None e = inr (λ walk leads. let (m, is) = distance_where links to (length walk) from (leads_in-walk links walk from to leads) in none-some m (sym e ∙ is))
      go (Some zero) e = inl (leads_in-zero links from to (distance_some links from to zero e).leads)
      go (Some (suc m)) e =
          let (k, link, lt, at, begins, rest) = leads_in-first links m from to (distance_some links from to (suc m) e).leads in
          let fails = subst (λ r. IsLeast (leads_on links m from to) links r) h (least_at m e) link (k, lt, at) in
          absurd (both_ways _ fails (and_from (link.0.switch == from) (leads_in links m link.1.switch to) (eq-eqb link.0.switch from begins) rest))

  pub hop_port : All IsBetweenPorts links → (hop : Place) → next_hop links from to ≡ Some hop → IsTrue (is_hop hop)
  hop_port ports hop h =
      let i = as_hop hop h in
      subst (λ (x : Place). IsTrue (is_hop x)) (sym i.over) (All-contains IsBetweenPorts links i.link ports i.there).start

  -- a hop leads one link nearer
  pub hop_nearer : (hop : Place) → next_hop links from to ≡ Some hop → (m : ℕ) × (distance links from to ≡ Some (suc m)) × (distance links hop.switch to ≡ Some m)
  hop_nearer hop h =
      let i = as_hop hop h in
      let d = distance_some links from to (suc i.rest) i.far in
      let (k, lt, at) = i.there in
      let there : hop.switch ≡ i.link.1.switch = ap (λ (x : Place). x.switch) i.over in (
        i.rest,
        i.far,
        ap (λ s. distance links s to) there
            ∙ distance_is links i.link.1.switch to i.rest (record {
              leads = i.leads;
              short = omega (arith, d.short);
              least = λ n l. omega (arith, d.least (suc n) (leads_in-more links n k from to i.link lt (ap (λ (x : Link). x.0.switch) at ∙ i.begins) (subst (λ (x : Link). leads_in links n x.1.switch to ≡ true) (sym at) l)));
            }),
      )

module _ (links : List Link) (switches : List ℕ) (named : All (IsAmong switches) links) (from to : ℕ) where
  pub hop_named : (hop : Place) → next_hop links from to ≡ Some hop → Contains switches from × Contains switches to
  hop_named hop h =
      let i = as_hop links from to hop h in
      (subst (λ s. Contains switches s) i.begins (All-contains (IsAmong switches) links i.link named i.there).start, to_named links switches named i.rest from to (distance_some links from to (suc i.rest) i.far).leads)

  pub hop_unnamed : ((Contains switches from × Contains switches to) → ⊥) → next_hop links from to ≡ None
  hop_unnamed out = go (next_hop links from to) refl
    where
      go : (r : Option Place) → next_hop links from to ≡ r → r ≡ None
      go None e = refl
      go (Some hop) e = absurd (out (hop_named hop e))

-- what a next hop says, and what it says that there is none
pub hop_law : (links : List Link) (from to : ℕ) (r : Option Place) → r ≡ next_hop links from to → MatchOption r ((from ≡ to) ⊎ NoWalk links from to) (λ hop. IsNextHop links from to hop)
hop_law links from to None e = hop_none links from to (sym e)
hop_law links from to (Some hop) e = hop_some links from to hop (sym e)

pub hop_facts : (links : List Link) (from to : ℕ) (r : Option Place) → All IsBetweenPorts links → r ≡ next_hop links from to → IfSome r (λ hop. IsNextHop links from to hop) × IfNone r ((from ≡ to) ⊎ NoWalk links from to) × IfSome r (λ hop. IsTrue (is_hop hop))
hop_facts links from to None ports e = (tt, hop_none links from to (sym e), tt)
hop_facts links from to (Some hop) ports e = (hop_some links from to hop (sym e), tt, hop_port links from to ports hop (sym e))

-- what a cell of a next hop has
pub shown : (links : List Link) → IsGraph links → (from to : ℕ) (r : Option Place) → r ≡ next_hop links from to → IsShown links from to (at_or_nothing r)
shown links graph from to None h = record { told = ap at_or_nothing h; kind = refl; hop = (refl, hop_none links from to (sym h)) }
shown links graph from to (Some hop) h = record { told = ap at_or_nothing h; kind = hop_port links from to graph.ports hop (sym h); hop = hop_some links from to hop (sym h) }
