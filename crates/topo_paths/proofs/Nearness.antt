-- A shortest walk leaves no switch twice: it has at most as many links as there are, and fewer than 64 where they name at most 64 switches.
use Rattle.std.proofs.Common.{◌≡◌, ◌≢◌, ℕ, zero, suc, ◌+◌, ◌<◌, ◌≤◌, true, List, [], ◌∷◌, length, get_or, map, Some, Contains, refl, sym, ap, ◌∙◌, subst, arith}
use Rattle.std.specs.List.{All, AllPairs}
use Rattle.std.proofs.lemmas.List.{length-map, get_or-map}
use Rattle.std.proofs.lemmas.List.Elements.{All-nil, All-cons, All-contains, All-map}
use Rattle.env_cells.specs.Lists.{IsAmong}
use Rattle.topo_paths.specs.Walks.{Link}
use Rattle.topo_paths.specs.NextHops.{leads_in, distance}
use Rattle.topo_paths.proofs.Distances.{leads_in-none, leads_in-more, leads_in-first, leads_in-zero, first_of, distance_is, distance_some}
use Rattle.topo_paths.proofs.Naming.{apart_cons, few_distinct}

-- walks lead among the named switches
module _ (links : List Link) (switches : List ℕ) (named : All (IsAmong switches) links) where
  pub to_named : (n from to : ℕ) → leads_in links (suc n) from to ≡ true → Contains switches to
  to_named zero from to h =
      let (k, link, lt, at, begins, rest) = leads_in-first links zero from to h in
      subst (λ s. Contains switches s) (ap (λ (x : Link). x.1.switch) at ∙ leads_in-zero links link.1.switch to rest) (named k link lt).end
  to_named (suc n) from to h =
      let (k, link, lt, at, begins, rest) = leads_in-first links (suc n) from to h in
      to_named n link.1.switch to rest

module _ (links : List Link) (to : ℕ) where
  -- a shortest walk has so many links
  record IsFar (from far : ℕ) : Type 0 where
    leads : leads_in links far from to ≡ true
    least : (n : ℕ) → leads_in links n from to ≡ true → far ≤ n

  far_of : (n from : ℕ) → leads_in links n from to ≡ true → (far : ℕ) × IsFar from far
  far_of n from h =
      let (m, is, f) = first_of (λ k. leads_in links k from to) (n + 1) n (omega arith) h in
      (m, record { leads = f.passes; least = λ k e. f.least k (omega arith) e })

  -- one link further on a shortest walk
  far_next : (far from k : ℕ) (link : Link) → k < length links → get_or links k link ≡ link → link.0.switch ≡ from → leads_in links far link.1.switch to ≡ true → IsFar from (suc far) → IsFar link.1.switch far
  far_next far from k link lt is begins rest f =
      record {
        leads = rest;
        least = λ n h. omega (arith, f.least (suc n) (leads_in-more links n k from to link lt (ap (λ (x : Link). x.0.switch) is ∙ begins) (subst (λ (x : Link). leads_in links n x.1.switch to ≡ true) (sym is) h)));
      }

  -- a switch at some distance, up to this one
  abbrev IsOnTrail : ℕ → ℕ → Type 0
  IsOnTrail bound x = (far : ℕ) × (1 ≤ far) × (far ≤ bound) × IsFar x far

  abbrev starts : List ℕ
  starts = map (λ (link : Link). link.0.switch) links

  record IsTrail (far : ℕ) (trail : List ℕ) : Type 0 where
    long : length trail ≡ far
    apart : AllPairs ◌≢◌ trail
    among : All (Contains starts) trail
    near : All (IsOnTrail far) trail

  -- the switches that a shortest walk leaves
  trail_of : (far from : ℕ) → IsFar from far → (trail : List ℕ) × IsTrail far trail
  trail_of zero from f = ([], record { long = refl; apart = λ i j d less short. absurd (omega (arith, short)); among = All-nil (Contains starts); near = All-nil (IsOnTrail zero) })
  trail_of (suc far) from f =
      let (k, link, lt, is, begins, rest) = leads_in-first links far from to f.leads in
      let (trail, t) = trail_of far link.1.switch (far_next far from k link lt is begins rest f) in
      let start : Contains starts from = (k, omega (arith, lt, length-map links (λ (x : Link). x.0.switch)), get_or-map (λ (x : Link). x.0.switch) links k link from lt ∙ ap (λ (x : Link). x.0.switch) is ∙ begins) in (
        from ∷ trail,
        record {
          long = ap suc t.long;
          apart = apart_cons from trail t.apart (λ c. again trail t c);
          among = All-cons (Contains starts) from trail start t.among;
          near = All-cons (IsOnTrail (suc far)) from trail (suc far, omega arith, omega arith, f) (further trail t);
        },
      )
    where
      further : (trail : List ℕ) → IsTrail far trail → All (IsOnTrail (suc far)) trail
      further trail t = λ k d lt. let (n, low, high, g) = t.near k d lt in (n, low, omega (arith, high), g)

      again : (trail : List ℕ) → IsTrail far trail → Contains trail from → ⊥
      again trail t c =
          let (n, low, high, g) = All-contains (IsOnTrail far) trail from t.near c in
          absurd (omega (arith, f.least n g.leads, high))

  few_links : (far from : ℕ) → IsFar from far → far ≤ length links
  few_links far from f =
      let (trail, t) = trail_of far from f in
      omega (arith, few_distinct trail starts t.apart t.among, t.long, length-map links (λ (x : Link). x.0.switch))

  -- where a walk leads, there is a distance
  pub distance_where : (n from : ℕ) → leads_in links n from to ≡ true → (m : ℕ) × (distance links from to ≡ Some m)
  distance_where n from h =
      let (far, f) = far_of n from h in
      (far, distance_is links from to far (record { leads = f.leads; short = few_links far from f; least = f.least }))

  module _ (switches : List ℕ) (named : All (IsAmong switches) links) where
    pub few_switches : (far from : ℕ) → length switches ≤ 64 → distance links from to ≡ Some far → far < 64
    few_switches zero from short is = omega arith
    few_switches (suc far) from short is =
        let d = distance_some links from to (suc far) is in
        let f : IsFar from (suc far) = record { leads = d.leads; least = d.least } in
        let (trail, t) = trail_of (suc far) from f in
        let apart = apart_cons to trail t.apart (λ c. last trail t c) in
        let all = All-cons (Contains switches) to trail (to_named links switches named far from to d.leads) (λ k d lt. All-contains (Contains switches) starts (get_or trail k d) (All-map (Contains switches) (λ (x : Link). x.0.switch) links (λ j e short'. (named j e short').start)) (t.among k d lt)) in
        omega (arith, few_distinct (to ∷ trail) switches apart all, t.long, short)
      where
        last : (trail : List ℕ) → IsTrail (suc far) trail → Contains trail to → ⊥
        last trail t c =
            let (n, low, high, g) = All-contains (IsOnTrail (suc far)) trail to t.near c in
            absurd (omega (arith, g.least zero (leads_in-none links to to refl), low))
