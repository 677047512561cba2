-- Links among others have the same next hops where each of the others has one of them beside it.
use Rattle.std.proofs.Common.{◌≡◌, ℕ, zero, suc, true, ◌==◌, ◌&&◌, List, get_or, Option, Some, None, Contains, refl, sym, ap, ◌∙◌, subst, ⊎_elim, arith}
use Rattle.std.proofs.lemmas.Bool.{both_ways, cases_order, eqb-true, and_parts}
use Rattle.std.specs.List.Sorted.{IsPermutation}
use Rattle.std.proofs.lemmas.List.{get_or_default}
use Rattle.std.proofs.lemmas.List.Sorted.{IsPermutation-sym, Contains-permutation}
use Rattle.std.proofs.lemmas.Option.{none-some}
use Rattle.maple_base.specs.declared.cells.Place.{Place}
use Rattle.env_cells.specs.Lists.{StartApart}
use Rattle.topo_paths.specs.Walks.{Link}
use Rattle.topo_paths.specs.Beside.{IsBeside, HasBeside, AreAmong, StartOnce}
use Rattle.topo_paths.specs.NextHops.{leads_in, leads_on, distance, hop_over, hop_at, next_hop}
use Rattle.topo_paths.proofs.Distances.{leads_in-none, leads_in-zero, leads_in-more, leads_in-first, distance_some}
use Rattle.topo_paths.proofs.Nearness.{distance_where}
use Rattle.topo_paths.proofs.Levels.{same_tests, next_hop-at}
use Rattle.topo_paths.proofs.LeastHops.{IsLeast, least_is}

pub itself : (link : Link) → IsBeside link link
itself link = record { begins = refl; ends = refl; port = omega arith }

leads_kept : (links others : List Link) → ((link : Link) → Contains links link → HasBeside others link) → (n from to : ℕ) → leads_in links n from to ≡ true → leads_in others n from to ≡ true
leads_kept links others are zero from to h = leads_in-none others from to (leads_in-zero links from to h)
leads_kept links others are (suc n) from to h =
    let (k, link, lt, at, begins, rest) = leads_in-first links n from to h in
    let (other, (j, lj, is), b) = are link (k, lt, at) in
    leads_in-more others n j from to other lj (ap (λ (x : Link). x.0.switch) is ∙ b.begins ∙ begins)
    (subst (λ s. leads_in others n s to ≡ true) (sym b.ends ∙ sym (ap (λ (x : Link). x.1.switch) is)) (leads_kept links others are n link.1.switch to rest))

pub place_same : (p q : Place) → p.switch ≡ q.switch → p.port ≡ q.port → p ≡ q
place_same p q s t = λ i. record { switch = s i; port = t i }

module _ (links others : List Link) (once : StartOnce links) (a : AreAmong links others) where
  leads_same : (n from to : ℕ) → leads_in links n from to ≡ leads_in others n from to
  leads_same n from to = same_tests _ _ (leads_kept links others (λ link c. (link, a.all link c, itself link)) n from to) (leads_kept others links a.beside n from to)

  -- the one leads on over the links where the other does over the others
  on_same : (m from to : ℕ) (other link : Link) → IsBeside other link → leads_on links m from to other ≡ leads_on others m from to link
  on_same m from to other link b = λ i. b.begins i == from && (leads_same m other.1.switch to ∙ ap (λ s. leads_in others m s to) b.ends) i

  least_same : (m from to : ℕ) (r s : Option Place) → IsLeast (leads_on links m from to) links r → IsLeast (leads_on others m from to) others s → r ≡ s
  least_same m from to None None none none' = refl
  least_same m from to None (Some hop) none ((two, c, passes, is), least) = let (other, there, b) = a.beside two c in absurd (both_ways _ (none other there) (on_same m from to other two b ∙ passes))
  least_same m from to (Some hop) None ((one, c, passes, is), least) none = absurd (both_ways _ (none one (a.all one c)) (sym (on_same m from to one one (itself one)) ∙ passes))
  least_same m from to (Some hop) (Some hop') ((one, c, passes, is), least) ((two, c', passes', is'), least') =
      let (other, there, b) = a.beside two c' in
      let on' : leads_on others m from to one ≡ true = sym (on_same m from to one one (itself one)) ∙ passes in
      let le = least other there (on_same m from to other two b ∙ passes') in
      let ge = least' one (a.all one c) on' in
      let port : one.0.port ≡ other.0.port = omega (arith, le, ge, b.port, ap (λ (x : Place). x.port) is, ap (λ (x : Place). x.port) is') in
      let port' : one.0.port ≡ two.0.port = omega (arith, le, ge, b.port, ap (λ (x : Place). x.port) is, ap (λ (x : Place). x.port) is') in
      let same = once.one one other c there (place_same one.0 other.0 (from_there one on' ∙ sym (from_there two passes') ∙ sym b.begins) port) in
      ap Some (is ∙ place_same (hop_over one) (hop_over two) (ap (λ (x : Link). x.1.switch) same ∙ b.ends) port' ∙ sym is')
    where
      from_there : (link : Link) → leads_on others m from to link ≡ true → link.0.switch ≡ from
      from_there link p = eqb-true _ _ (and_parts (link.0.switch == from) (leads_in others m link.1.switch to) p).0

  distance_same : (from to : ℕ) → distance links from to ≡ distance others from to
  distance_same from to = go (distance links from to) (distance others from to) refl refl
    where
      go : (o p : Option ℕ) → distance links from to ≡ o → distance others from to ≡ p → o ≡ p
      go None None e f = refl
      go None (Some n) e f = let (m, is) = distance_where links to n from (leads_same n from to ∙ (distance_some others from to n f).leads) in absurd (none-some m (sym e ∙ is))
      go (Some m) None e f = let (n, is) = distance_where others to m from (sym (leads_same m from to) ∙ (distance_some links from to m e).leads) in absurd (none-some n (sym f ∙ is))
      go (Some m) (Some n) e f =
          let d = distance_some links from to m e in
          let d' = distance_some others from to n f in
          ap Some (omega (arith, d.least n (leads_same n from to ∙ d'.leads), d'.least m (sym (leads_same m from to) ∙ d.leads)))

  hop_same : (from to : ℕ) (o : Option ℕ) → hop_at links from to o ≡ hop_at others from to o
  hop_same from to None = refl
  hop_same from to (Some zero) = refl
  hop_same from to (Some (suc m)) = least_same m from to _ _ (least_is (leads_on links m from to) links) (least_is (leads_on others m from to) others)

  pub next_hop_same : (from to : ℕ) → next_hop links from to ≡ next_hop others from to
  next_hop_same from to = next_hop-at links from to _ (distance_same from to) ∙ hop_same from to (distance others from to) ∙ sym (next_hop-at others from to _ refl)

pub one_link : (links : List Link) → StartApart links → StartOnce links
one_link links apart = record { one = one }
  where
    one : (a b : Link) → Contains links a → Contains links b → a.0 ≡ b.0 → a ≡ b
    one a b (j, lj, at) (k, lk, at') e =
        let there : get_or links k a ≡ b = get_or_default links k a b lk ∙ at' in
        let starts : (get_or links j a).0 ≡ (get_or links k a).0 = ap (λ (x : Link). x.0) at ∙ e ∙ sym (ap (λ (x : Link). x.0) there) in
        ⊎_elim
        (λ e. sym at ∙ ap (λ i. get_or links i a) e ∙ there)
        (λ o. ⊎_elim (λ less. absurd (apart j k a less lk starts)) (λ more. absurd (apart k j a more lj (sym starts))) o)
        (cases_order j k)

-- links of which all are among others
pub fewer_once : (links others : List Link) → ((link : Link) → Contains links link → Contains others link) → StartOnce others → StartOnce links
fewer_once links others all once = record { one = λ a b ca cb. once.one a b (all a ca) (all b cb) }

-- a list in another order
pub moved_among : (links others : List Link) → IsPermutation links others → AreAmong links others
moved_among links others p = record {
  all = λ link c. Contains-permutation links others link p c;
  beside = λ link c. (link, Contains-permutation others links link (IsPermutation-sym links others p) c, itself link);
}

pub moved_once : (links others : List Link) → IsPermutation links others → StartApart others → StartOnce links
moved_once links others p apart = fewer_once links others (moved_among links others p).all (one_link others apart)
