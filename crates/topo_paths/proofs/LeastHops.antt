-- The hop by the least port.
use Rattle.std.proofs.Common.{◌≡◌, ◌⊎◌, ℕ, zero, suc, ◌<◌, ◌≤◌, Bool, true, false, cond, ltb, List, [], ◌∷◌, get_or, Option, Some, None, Contains, inl, inr, refl, sym, ap, ◌∙◌, subst, ⊎_elim, arith}
use Rattle.std.specs.List.{find}
use Rattle.std.proofs.lemmas.Bool.{cases_Bool, both_ways, ltb-true, ltb-false, le-ltb}
use Rattle.maple_base.specs.declared.cells.Place.{Place}
use Rattle.topo_paths.specs.Walks.{Link}
use Rattle.topo_paths.specs.Graphs.{RisePorts}
use Rattle.topo_paths.specs.NextHops.{hop_over, lesser, least_hop}
use Rattle.topo_paths.specs.Levels.{hop_by}

pub contains_here : {X : Type 0} (x : X) (xs : List X) → Contains (x ∷ xs) x
contains_here x xs = (0, omega arith, refl)

pub contains_there : {X : Type 0} (x : X) (xs : List X) (y : X) → Contains xs y → Contains (x ∷ xs) y
contains_there x xs y (k, lt, is) = (suc k, omega (arith, lt), is)

pub contains_cases : {X : Type 0} (x : X) (xs : List X) (y : X) → Contains (x ∷ xs) y → (x ≡ y) ⊎ Contains xs y
contains_cases x xs y (zero, lt, is) = inl is
contains_cases x xs y (suc k, lt, is) = inr (k, omega (arith, lt), is)

-- the hop is over a link that passes, by the least port of such links
abbrev pub IsLeast : (Link → Bool) → List Link → Option Place → Type 0
IsLeast test links None = (link : Link) → Contains links link → test link ≡ false
IsLeast test links (Some hop) = ((link : Link) × Contains links link × (test link ≡ true) × (hop ≡ hop_over link)) × ((link : Link) → Contains links link → test link ≡ true → hop.port ≤ link.0.port)

module _ (test : Link → Bool) (link : Link) (links : List Link) where
  passed : test link ≡ false → (r : Option Place) → IsLeast test links r → IsLeast test (link ∷ links) r
  passed f None none = λ x c. ⊎_elim (λ e. subst (λ y. test y ≡ false) e f) (λ c. none x c) (contains_cases link links x c)
  passed f (Some hop) ((one, c, passes, is), least) = ((one, contains_there link links one c, passes, is), all)
    where
      all : (x : Link) → Contains (link ∷ links) x → test x ≡ true → hop.port ≤ x.0.port
      all x c p = ⊎_elim (λ e. absurd (both_ways _ f (subst (λ y. test y ≡ true) (sym e) p))) (λ c. least x c p) (contains_cases link links x c)

  first : test link ≡ true → ((x : Link) → Contains links x → test x ≡ true → link.0.port ≤ x.0.port) → IsLeast test (link ∷ links) (Some (hop_over link))
  first t least = ((link, contains_here link links, t, refl), all)
    where
      all : (x : Link) → Contains (link ∷ links) x → test x ≡ true → link.0.port ≤ x.0.port
      all x c p = ⊎_elim (λ e. omega (arith, ap (λ (y : Link). y.0.port) e)) (λ c. least x c p) (contains_cases link links x c)

  taken : test link ≡ true → (r : Option Place) → IsLeast test links r → IsLeast test (link ∷ links) (Some (lesser (hop_over link) r))
  taken t None none = first t (λ x c p. absurd (both_ways _ (none x c) p))
  taken t (Some other) ((one, c, passes, is), least) =
      ⊎_elim
      (λ less. subst (λ b. IsLeast test (link ∷ links) (Some (cond b other (hop_over link)))) (sym less) ((one, contains_there link links one c, passes, is), all (ltb-true _ _ less)))
      (λ more. subst (λ b. IsLeast test (link ∷ links) (Some (cond b other (hop_over link)))) (sym more) (first t (λ x c p. omega (arith, ltb-false _ _ more, least x c p))))
      (cases_Bool (ltb other.port link.0.port))
    where
      all : other.port < link.0.port → (x : Link) → Contains (link ∷ links) x → test x ≡ true → other.port ≤ x.0.port
      all less x c p = ⊎_elim (λ e. omega (arith, less, ap (λ (y : Link). y.0.port) e)) (λ c. least x c p) (contains_cases link links x c)

pub least_is : (test : Link → Bool) (links : List Link) → IsLeast test links (least_hop test links)
unfolding least_hop
least_is test [] = λ x (k, lt, is). absurd (omega (arith, lt))
least_is test (link ∷ links) =
    ⊎_elim
    (λ t. subst (λ b. IsLeast test (link ∷ links) (cond b (Some (lesser (hop_over link) (least_hop test links))) (least_hop test links))) (sym t) (taken test link links t _ (least_is test links)))
    (λ f. subst (λ b. IsLeast test (link ∷ links) (cond b (Some (lesser (hop_over link) (least_hop test links))) (least_hop test links))) (sym f) (passed test link links f _ (least_is test links)))
    (cases_Bool (test link))

-- over links that rise by port the first that passes has the least port
module _ (test : Link → Bool) (from : ℕ) (begins : (link : Link) → test link ≡ true → link.0.switch ≡ from) where
  pub least_is_first : (links : List Link) → RisePorts links → least_hop test links ≡ hop_by (find test links)
  unfolding least_hop
  least_is_first [] rise = refl
  least_is_first (link ∷ links) rise = go (test link) refl (least_is_first links (λ i j d less short. rise (suc i) (suc j) d (omega (arith, less)) (omega (arith, short))))
    where
      keeps : test link ≡ true → (r : Option Place) → IsLeast test links r → lesser (hop_over link) r ≡ hop_over link
      keeps t None none = refl
      keeps t (Some other) ((one, (k, lt, at), passes, is), least) =
          let same : link.0.switch ≡ (get_or links k one).0.switch = begins link t ∙ sym (begins one passes) ∙ ap (λ (x : Link). x.0.switch) (sym at) in
          let rises : link.0.port ≤ (get_or links k one).0.port = rise 0 (suc k) one (omega arith) (omega (arith, lt)) same in
          let port : other.port ≡ (get_or links k one).0.port = ap (λ (x : Place). x.port) is ∙ ap (λ (x : Link). x.0.port) (sym at) in
          ap (λ b. cond b other (hop_over link)) (le-ltb other.port link.0.port (omega (arith, rises, port)))

      go : (b : Bool) → test link ≡ b → least_hop test links ≡ hop_by (find test links) → cond (test link) (Some (lesser (hop_over link) (least_hop test links))) (least_hop test links) ≡ hop_by (cond (test link) (Some link) (find test links))
      go true t later = ap (λ b. cond b (Some (lesser (hop_over link) (least_hop test links))) (least_hop test links)) t ∙ ap Some (keeps t (least_hop test links) (least_is test links)) ∙ sym (ap (λ b. hop_by (cond b (Some link) (find test links))) t)
      go false f later = ap (λ b. cond b (Some (lesser (hop_over link) (least_hop test links))) (least_hop test links)) f ∙ later ∙ sym (ap (λ b. hop_by (cond b (Some link) (find test links))) f)

pub find_agrees : (test other : Link → Bool) (links : List Link) → ((link : Link) → Contains links link → test link ≡ other link) → find test links ≡ find other links
find_agrees test other [] agree = refl
find_agrees test other (link ∷ links) agree =
    ap (λ b. cond b (Some link) (find test links)) (agree link (contains_here link links))
    ∙ ap (cond (other link) (Some link)) (find_agrees test other links (λ x c. agree x (contains_there link links x c)))
