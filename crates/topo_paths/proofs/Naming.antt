-- The switches that links name, each once.
use Rattle.std.proofs.Common.{◌≡◌, ◌≢◌, ◌⊎◌, ℕ, zero, suc, ◌<◌, ◌≤◌, List, [], ◌∷◌, ◌++◌, length, get_or, Contains, refl, sym, ◌∙◌, subst, ⊎_elim, arith}
use Rattle.std.specs.List.{All, AllPairs, remove}
use Rattle.std.proofs.lemmas.List.{get_or_default, get_or_append_left, length_push}
use Rattle.std.proofs.lemmas.List.Edits.{length-remove}
use Rattle.std.proofs.lemmas.List.Sorted.{IsPermutation-remove, Contains-permutation}
use Rattle.std.proofs.lemmas.List.Elements.{Contains-get_or, All-cons, All-contains}
use Rattle.topo_paths.specs.Walks.{Link}
use Rattle.topo_paths.specs.declared.rows.Ends.{Ends}
use Rattle.topo_paths.specs.Rows.{IsEnds, AreEnds, AreWithin, KeepPlaces}
use Rattle.env_cells.specs.Lists.{IsAmong, NamesFewSwitches}
use Rattle.topo_paths.proofs.LeastHops.{contains_cases}

-- another element stays where one is removed
stays : (ys : List ℕ) (k y x : ℕ) → k < length ys → get_or ys k 0 ≡ y → Contains ys x → y ≢ x → Contains (remove ys k) x
stays ys k y x lt at c ne =
    let moved = IsPermutation-remove ys k y lt (sym at ∙ get_or_default ys k 0 y lt) in
    ⊎_elim (λ e. absurd (ne e)) (λ h. h) (contains_cases y (remove ys k) x (Contains-permutation ys (y ∷ remove ys k) x moved c))

-- a list of different elements of another is no longer than it
pub few_distinct : (xs ys : List ℕ) → AllPairs ◌≢◌ xs → All (Contains ys) xs → length xs ≤ length ys
few_distinct [] ys apart all = omega arith
few_distinct (x ∷ xs) ys apart all =
    let (k, lt, is) = all 0 0 (omega arith) in
    let at : get_or ys k 0 ≡ x = get_or_default ys k 0 x lt ∙ is in
    let rest = few_distinct xs (remove ys k) (λ i j d less short. apart (suc i) (suc j) d (omega (arith, less)) (omega (arith, short)))
    (λ j d short. stays ys k x (get_or xs j d) lt at (all (suc j) d (omega (arith, short))) (apart 0 (suc j) d (omega arith) (omega (arith, short)))) in
    omega (arith, rest, length-remove ys k lt)

-- a further element that is not among others
pub apart_cons : (x : ℕ) (xs : List ℕ) → AllPairs ◌≢◌ xs → ¬ Contains xs x → AllPairs ◌≢◌ (x ∷ xs)
apart_cons x xs apart new' = pairs
  where
    pairs : AllPairs ◌≢◌ (x ∷ xs)
    pairs i zero d less short = absurd (omega (arith, less))
    pairs zero (suc j) d less short = λ e. new' (j, omega (arith, short), get_or_default xs j x d (omega (arith, short)) ∙ sym e)
    pairs (suc i) (suc j) d less short = apart i j d (omega (arith, less)) (omega (arith, short))

-- at most 64 names, among which are those given and the two of a link
pub record AreFew (switches : List ℕ) (link : Link) : Type 0 where
  pub names : List ℕ
  pub few : length names ≤ 64
  pub among : All (Contains names) switches
  pub both : IsAmong names link

pub few_at : (links : List Link) (switches : List ℕ) (i : ℕ) (link : Link) → NamesFewSwitches links → ((names : List ℕ) → All (IsAmong names) links → All (Contains names) switches) → i < length links → AreFew switches (get_or links i link)
few_at links switches i link (names, few, all) among lt = record { names = names; few = few; among = among names all; both = all i link lt }

pub among_more : (names old new : List ℕ) (s : ℕ) → ((x : ℕ) → Contains new x → Contains old x ⊎ (s ≡ x)) → All (Contains names) old → Contains names s → All (Contains names) new
among_more names old new s only all here = λ k d lt.
    ⊎_elim (λ c. All-contains (Contains names) old _ all c) (λ e. subst (λ x. Contains names x) e here) (only (get_or new k d) (Contains-get_or new k d lt))

pub few_more : (old new : List ℕ) (s : ℕ) (link : Link) → ((x : ℕ) → Contains new x → Contains old x ⊎ (s ≡ x)) → (f : AreFew old link) → Contains f.names s → AreFew new link
few_more old new s link only f here = record { names = f.names; few = f.few; among = among_more f.names old new s only f.among here; both = f.both }

pub few_length : (switches : List ℕ) (link : Link) → AllPairs ◌≢◌ switches → AreFew switches link → length switches ≤ 64
few_length switches link apart f = omega (arith, f.few, few_distinct switches f.names apart f.among)

-- a further one has room
pub few_room : (switches : List ℕ) (link : Link) (s : ℕ) → AllPairs ◌≢◌ switches → (f : AreFew switches link) → Contains f.names s → ¬ Contains switches s → length switches < 64
few_room switches link s apart f here new' = omega (arith, f.few, few_distinct (s ∷ switches) f.names (apart_cons s switches apart new') (All-cons (Contains f.names) s switches here f.among))

pub same_places : (xs ys : List ℕ) → ys ≡ xs → KeepPlaces xs ys
same_places xs ys is = subst (λ (l : List ℕ). KeepPlaces xs l) (sym is) (record { more = omega arith; kept = λ k lt. refl })

pub one_place_more : (xs ys : List ℕ) (x : ℕ) → ys ≡ xs ++ x ∷ [] → KeepPlaces xs ys
one_place_more xs ys x is = subst (λ (l : List ℕ). KeepPlaces xs l) (sym is) (record { more = omega (arith, length_push xs x); kept = λ k lt. get_or_append_left xs (x ∷ []) 0 k lt })

pub ends_kept : (xs ys : List ℕ) (link : Link) (e : Ends) → KeepPlaces xs ys → IsEnds xs link e → IsEnds ys link e
ends_kept xs ys link e g h = record { within = (omega (arith, h.within.0, g.more), omega (arith, h.within.1, g.more)); from = g.kept e.from h.within.0 ∙ h.from; to = g.kept e.to h.within.1 ∙ h.to }

-- the switches of links whose ends were found are named
pub all_named : (links : List Link) (switches : List ℕ) (ends : List Ends) → AreEnds links switches ends → All (IsAmong switches) links
all_named links switches ends are = λ k d lt. let h = are.each k d (record { from = 0; to = 0 }) lt in record {
  start = (_, h.within.0, get_or_default switches _ _ 0 h.within.0 ∙ h.from);
  end = (_, h.within.1, get_or_default switches _ _ 0 h.within.1 ∙ h.to);
}

pub all_within : (links : List Link) (switches : List ℕ) (ends : List Ends) → AreEnds links switches ends → length ends ≡ length links → All AreWithin ends
all_within links switches ends are long = λ k d lt. let h = are.each k (record { switch = 0; port = 0 }, record { switch = 0; port = 0 }) d (omega (arith, lt, long)) in (omega (arith, h.within.0, are.few), omega (arith, h.within.1, are.few))
