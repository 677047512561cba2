-- Ways, hop by hop.
use Rattle.std.proofs.Common.{◌≡◌, ◌⊎◌, ℕ, suc, ◌+◌, ◌<◌, true, List, [], ◌∷◌, ◌++◌, length, Some, IsTrue, inr, refl, sym, ◌∙◌, subst, ⊎_elim, arith}
use Rattle.std.specs.List.{list_all}
use Rattle.std.proofs.lemmas.Bool.{and_from}
use Rattle.std.proofs.lemmas.List.{length_push}
use Rattle.std.proofs.lemmas.List.Folds.{list_all-append}
use Rattle.maple_base.specs.declared.cells.Place.{Place}
use Rattle.maple_base.specs.Paths.{is_hop}
use Rattle.topo_paths.specs.Walks.{Link, IsNextHop, IsWay, NoWalk}
use Rattle.topo_paths.specs.Ways.{IsWholeWay}
use Rattle.topo_paths.specs.Graphs.{IsGraph}
use Rattle.topo_paths.specs.NextHops.{distance, next_hop}
use Rattle.topo_paths.proofs.Distances.{distance_some, walk_from_leads}
use Rattle.topo_paths.proofs.Nearness.{few_switches}
use Rattle.topo_paths.proofs.Hopping.{hop_some, hop_nearer}

-- one more hop at the end
pub way_push : (links : List Link) (to from at : ℕ) (hops : List Place) (hop : Place) → IsWay links to from at hops → IsNextHop links at to hop → IsWay links to from hop.switch (hops ++ record { switch = at; port = hop.port } ∷ [])
way_push links to from at [] hop way next = (hop.switch, sym way, subst (λ s. IsNextHop links s to hop) (sym way) next, refl)
way_push links to from at (first ∷ hops) hop (over, left, is, rest) next = (over, left, is, way_push links to over at hops hop rest next)

-- the way so far: once it began there is a walk on, and its hops are few
pub record IsUnderWay (links : List Link) (from to at : ℕ) (hops : List Place) : Type 0 where
  pub way : IsWay links to from at hops
  pub on : (length hops ≡ 0) ⊎ ((far : ℕ) × (distance links at to ≡ Some far) × (length hops + far < 64))
  pub ports : list_all is_hop hops ≡ true

pub way_turn : (links : List Link) (from to at : ℕ) (hops : List Place) (hop : Place) → IsGraph links → next_hop links at to ≡ Some hop → IsTrue (is_hop hop) → IsUnderWay links from to at hops → IsUnderWay links from to hop.switch (hops ++ record { switch = at; port = hop.port } ∷ [])
way_turn links from to at hops hop graph h port w =
    let (m, here, there) = hop_nearer links at to hop h in
    let (switches, short, named) = graph.few in
    let few : length hops + suc m < 64 = ⊎_elim (λ none. omega (arith, none, few_switches links to switches named (suc m) at short here)) (λ (far, is, lt). let same : far ≡ suc m = cc (is, here) in omega (arith, lt, same)) w.on in
    record {
      way = way_push links to from at hops hop w.way (hop_some links at to hop h);
      on = inr (m, there, omega (arith, few, length_push hops (record { switch = at; port = hop.port })));
      ports = list_all-append is_hop hops (record { switch = at; port = hop.port } ∷ []) ∙ and_from (list_all is_hop hops) _ w.ports (and_from _ true port refl);
    }

-- hops that end where there is no further one are all
pub way_whole : (links : List Link) (from to at : ℕ) (hops : List Place) → (at ≡ to) ⊎ NoWalk links at to → IsUnderWay links from to at hops → IsWholeWay links from to hops
way_whole links from to at [] none w = record { none = λ _. subst (λ s. (s ≡ to) ⊎ NoWalk links s to) (sym w.way) none; way = λ some. absurd (omega (arith, some)); path = λ some. absurd (omega (arith, some)); apart = λ some. absurd (omega (arith, some)) }
way_whole links from to at (hop ∷ hops) none w = record {
  none = λ empty. absurd (omega (arith, empty));
  way = λ some. ⊎_elim
      (λ e. subst (λ s. IsWay links to from s (hop ∷ hops)) e w.way)
      (λ never. ⊎_elim
      (λ empty. absurd (omega (arith, empty)))
      (λ (far, is, lt). let (walk, leads, long) = walk_from_leads links far at to (distance_some links at to far is).leads in absurd (never walk leads))
      w.on)
      none;
  path = λ some. record { some = omega (arith, some); few = ⊎_elim (λ empty. omega (arith, empty)) (λ (far, is, lt). omega (arith, lt)) w.on; ports = w.ports };
  apart = λ some. let (next, left, is, rest) = w.way in is.apart;
}
