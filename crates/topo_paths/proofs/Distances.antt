-- Walks, and the number of links of a shortest one.
use Rattle.std.proofs.Common.{◌≡◌, ℕ, zero, suc, ◌+◌, ◌<◌, ◌≤◌, Bool, true, false, cond, ◌&&◌, ◌==◌, List, [], ◌∷◌, length, get_or, Option, Some, None, MatchOption, refl, sym, ap, ◌∙◌, subst, ⊎_elim, arith}
use Rattle.std.proofs.lemmas.Bool.{cases_eq, both_ways, false_from_ne_true, eq-eqb, eqb-true, and_from, and_parts}
use Rattle.std.proofs.lemmas.List.Folds.{list_any_at, Any-from_list_any}
use Rattle.std.proofs.lemmas.Option.{MatchOption-at_some}
use Rattle.topo_paths.specs.Walks.{Link, IsWalk}
use Rattle.topo_paths.specs.NextHops.{leads_in, first_passing, distance}

pub leads_in-none : (links : List Link) (from to : ℕ) → from ≡ to → leads_in links zero from to ≡ true
unfolding leads_in
leads_in-none links from to e = eq-eqb from to e

pub leads_in-zero : (links : List Link) (from to : ℕ) → leads_in links zero from to ≡ true → from ≡ to
unfolding leads_in
leads_in-zero links from to e = eqb-true from to e

pub leads_in-more : (links : List Link) (n k from to : ℕ) (d : Link) → k < length links → (get_or links k d).0.switch ≡ from → leads_in links n (get_or links k d).1.switch to ≡ true → leads_in links (suc n) from to ≡ true
unfolding leads_in
leads_in-more links n k from to d lt e h = list_any_at (λ x. x.0.switch == from && leads_in links n x.1.switch to) links k d lt (and_from _ _ (eq-eqb _ _ e) h)

pub leads_in-first : (links : List Link) (n from to : ℕ) → leads_in links (suc n) from to ≡ true → (k : ℕ) × (link : Link) × (k < length links) × (get_or links k link ≡ link) × (link.0.switch ≡ from) × (leads_in links n link.1.switch to ≡ true)
unfolding leads_in
leads_in-first links n from to h =
    let (k, link, lt, is, passes) = Any-from_list_any (λ x. x.0.switch == from && leads_in links n x.1.switch to) links h in
    let parts = and_parts (link.0.switch == from) (leads_in links n link.1.switch to) passes in
    (k, link, lt, is, eqb-true _ _ parts.0, parts.1)

-- a walk, and that so many links lead
pub leads_in-walk : (links walk : List Link) (from to : ℕ) → IsWalk links from to walk → leads_in links (length walk) from to ≡ true
leads_in-walk links [] from to h = leads_in-none links from to h
leads_in-walk links (link ∷ walk) from to h =
    let (k, lt, is) = h.0 in
    let starts : (get_or links k link).0.switch ≡ from = ap (λ (x : Link). x.0.switch) is ∙ h.1 in
    let rest = leads_in-walk links walk link.1.switch to h.2 in
    leads_in-more links (length walk) k from to link lt starts (subst (λ (x : Link). leads_in links (length walk) x.1.switch to ≡ true) (sym is) rest)

pub walk_from_leads : (links : List Link) (n from to : ℕ) → leads_in links n from to ≡ true → (walk : List Link) × (IsWalk links from to walk) × (length walk ≡ n)
walk_from_leads links zero from to h = ([], leads_in-zero links from to h, refl)
walk_from_leads links (suc n) from to h =
    let (k, link, lt, is, starts, rest) = leads_in-first links n from to h in
    let (walk, leads, long) = walk_from_leads links n link.1.switch to rest in
    (link ∷ walk, ((k, lt, is), starts, leads), ap suc long)

module _ (test : ℕ → Bool) where
  pub record IsFirst (from n m : ℕ) : Type 0 where
    pub passes : test m ≡ true
    pub near : m < from + n
    pub least : (k : ℕ) → from ≤ k → test k ≡ true → m ≤ k

  -- the number from which on is sought, or a later one
  now_or_later : (from k : ℕ) → from ≤ k → test from ≡ false → test k ≡ true → from + 1 ≤ k
  now_or_later from k le fails passes = ⊎_elim (λ e. absurd (both_ways _ fails (ap test e ∙ passes))) (λ ne. omega (arith, ne, le)) (cases_eq from k)

  -- the first that passes, or none that does
  pub passing : (n from : ℕ) → MatchOption (first_passing test from n) ((k : ℕ) → from ≤ k → k < from + n → test k ≡ false) (λ m. IsFirst from n m)
  unfolding first_passing
  passing zero from = λ k le lt. absurd (omega (arith, le, lt))
  passing (suc n) from = go (test from) refl (first_passing test (from + 1) n) (passing n (from + 1))
    where
      go : (b : Bool) → test from ≡ b → (r : Option ℕ) → MatchOption r ((k : ℕ) → from + 1 ≤ k → k < from + 1 + n → test k ≡ false) (λ m. IsFirst (from + 1) n m) → MatchOption (cond b (Some from) r) ((k : ℕ) → from ≤ k → k < from + suc n → test k ≡ false) (λ m. IsFirst from (suc n) m)
      go true e r h = record { passes = e; near = omega arith; least = λ k le p. le }
      go false e None none = λ k le lt. false_from_ne_true _ (λ p. both_ways _ (none k (now_or_later from k le e p) (omega (arith, lt))) p)
      go false e (Some m) f = record { passes = f.passes; near = omega (arith, f.near); least = λ k le p. f.least k (now_or_later from k le e p) p }

  pub first_of : (n k : ℕ) → k < n → test k ≡ true → (m : ℕ) × (first_passing test 0 n ≡ Some m) × IsFirst 0 n m
  first_of n k lt p = go (first_passing test 0 n) refl (passing n 0)
    where
      go : (r : Option ℕ) → first_passing test 0 n ≡ r → MatchOption r ((k : ℕ) → 0 ≤ k → k < 0 + n → test k ≡ false) (λ m. IsFirst 0 n m) → (m : ℕ) × (first_passing test 0 n ≡ Some m) × IsFirst 0 n m
      go None e none = absurd (both_ways _ (none k (omega arith) (omega (arith, lt))) p)
      go (Some m) e f = (m, e, f)

-- what a distance says
pub record IsDistance (links : List Link) (from to n : ℕ) : Type 0 where
  pub leads : leads_in links n from to ≡ true
  pub short : n ≤ length links
  pub least : (m : ℕ) → leads_in links m from to ≡ true → n ≤ m

pub distance_some : (links : List Link) (from to n : ℕ) → distance links from to ≡ Some n → IsDistance links from to n
unfolding distance
distance_some links from to n h =
    let f = MatchOption-at_some ((k : ℕ) → 0 ≤ k → k < 0 + (length links + 1) → leads_in links k from to ≡ false) (λ m. IsFirst (λ k. leads_in links k from to) 0 (length links + 1) m) n h (passing (λ k. leads_in links k from to) (length links + 1) 0) in
    record { leads = f.passes; short = omega (arith, f.near); least = λ m e. f.least m (omega arith) e }

pub distance_is : (links : List Link) (from to n : ℕ) → IsDistance links from to n → distance links from to ≡ Some n
unfolding distance
distance_is links from to n d =
    let (m, is, f) = first_of (λ k. leads_in links k from to) (length links + 1) n (omega (arith, d.short)) d.leads in
    is ∙ ap Some (omega (arith, f.least n (omega arith) d.leads, d.least m f.passes))
