-- The finite set of a list of keys, against what a tree says of the list.
use Rattle.std.proofs.Common.{◌≡◌, ℕ, ◌+◌, Bool, true, false, cond, List, [], ◌∷◌, ◌++◌, length, sym, ap, ◌∙◌, refl, add-one, arith, get_or, take}
use Rattle.std.specs.Prelude.{◌&&◌, ◌||◌, not, ◌<◌}
use Rattle.std.proofs.lemmas.Bool.Decides.{nat_tests}
use Rattle.std.specs.declared.cmp.Ordering.TheVariants.{Less, Equal, Greater}
use Rattle.std.specs.Ordering.{eq_by_cmp, is_eq, nat_cmp, match_ordering}
use Rattle.std.specs.Cmp.{eq_by_cmp_equiv, nat_cmp_total}
use Rattle.std.specs.List.{AllByRecursion, list_any, list_all}
use Rattle.std.specs.List.Sorted.{IsStrictlySortedBy}
use Rattle.std.specs.Set.{remove_key}
use Rattle.std.specs.BTreeMap.{is_at}
use Rattle.std.specs.BTreeSet.{insert_key}
use Rattle.std.specs.FinSet as set
use Rattle.std.specs.FinSet.{nat_cmp-IsAntisymmetric}
use Rattle.std.proofs.lemmas.Cmp.{by_ranked, ranked}
use Rattle.std.specs.Prelude.{filter, map}
use Rattle.std.proofs.lemmas.List.{map-append, append-nil, take_more}
use Rattle.std.proofs.lemmas.List.Elements.{filter-append}
use Rattle.maple_base.specs.declared.cells.Port.{Port}
use Rattle.maple_base.specs.Ports.{is_port}
use Rattle.env_cells.specs.Listed.{is_listed_up, listed_up}

or_cond : (b c : Bool) → cond b true c ≡ (b || c)
or_cond true c = refl
or_cond false c = refl

and_cond : (b c : Bool) → cond b false c ≡ (not b && c)
and_cond true c = refl
and_cond false c = refl

pub same_keys : (s t : set.FinSet nat_cmp) → ((q : ℕ) → set.contains s q ≡ set.contains t q) → s ≡ t
same_keys s t h = set.same_set nat_cmp_total nat_cmp-IsAntisymmetric s t h

pub contains-keys : (ks : List ℕ) (q : ℕ) → set.contains (set.from_list {R = nat_cmp} ks) q ≡ list_any (is_at (nat_cmp q)) ks
contains-keys ks q = set.contains-from_list nat_cmp_total ks q

pub from_list-insert : (ks ls : List ℕ) (k : ℕ) → ((q : ℕ) → list_any (is_at (nat_cmp q)) ls ≡ cond (is_at (nat_cmp k) q) true (list_any (is_at (nat_cmp q)) ks)) → set.from_list {R = nat_cmp} ls ≡ set.insert (set.from_list ks) k
from_list-insert ks ls k h =
    same_keys _ _ (λ q. contains-keys ls q ∙ h q ∙ or_cond (eq_by_cmp nat_cmp k q) (list_any (is_at (nat_cmp q)) ks) ∙ ap (λ b. b || list_any (is_at (nat_cmp q)) ks) ((eq_by_cmp_equiv nat_cmp_total).symm k q)
    ∙ ap (λ b. eq_by_cmp nat_cmp q k || b) (sym (contains-keys ks q)) ∙ sym (set.contains-insert nat_cmp_total _ k q))

pub from_list-remove : (ks ls : List ℕ) (k : ℕ) → ((q : ℕ) → list_any (is_at (nat_cmp q)) ls ≡ cond (is_at (nat_cmp k) q) false (list_any (is_at (nat_cmp q)) ks)) → set.from_list {R = nat_cmp} ls ≡ set.remove (set.from_list ks) k
from_list-remove ks ls k h =
    same_keys _ _ (λ q. contains-keys ls q ∙ h q ∙ and_cond (eq_by_cmp nat_cmp k q) (list_any (is_at (nat_cmp q)) ks) ∙ ap (λ b. not b && list_any (is_at (nat_cmp q)) ks) ((eq_by_cmp_equiv nat_cmp_total).symm k q)
    ∙ ap (λ b. not (eq_by_cmp nat_cmp q k) && b) (sym (contains-keys ks q)) ∙ sym (set.contains-remove nat_cmp_total _ k q))

none_equal : (k : ℕ) (ks : List ℕ) → AllByRecursion (λ y. nat_cmp k y ≡ Less) ks → list_any (eq_by_cmp nat_cmp k) ks ≡ false
none_equal k [] h = refl
none_equal k (x ∷ ks) h = ap (λ o. is_eq o || list_any (eq_by_cmp nat_cmp k) ks) h.0 ∙ none_equal k ks h.1

pub len-from_list : (ks : List ℕ) → IsStrictlySortedBy nat_cmp ks → set.len (set.from_list {R = nat_cmp} ks) ≡ length ks
unfolding IsStrictlySortedBy
len-from_list [] h = set.len-empty nat_cmp
len-from_list (k ∷ ks) h =
    set.len-insert nat_cmp_total _ k
    ∙ ap (λ b. cond b (set.len (set.from_list {R = nat_cmp} ks)) (set.len (set.from_list {R = nat_cmp} ks) + 1)) (contains-keys ks k ∙ none_equal k ks h.0)
    ∙ ap (λ n. n + 1) (len-from_list ks h.1) ∙ add-one (length ks)

pub ports-insert : (ks : List ℕ) (k : ℕ) → list_all is_port ks ≡ true → is_port k ≡ true → list_all is_port (insert_key nat_cmp ks k) ≡ true
ports-insert [] k all here = ap (λ b. b && true) here
ports-insert (x ∷ ks) k all here =
    elim (nat_cmp k x) as (λ o. list_all is_port (match_ordering o (k ∷ x ∷ ks) (x ∷ ks) (x ∷ insert_key nat_cmp ks k)) ≡ true) [
      | Less ↦ ap (λ b. b && list_all is_port (x ∷ ks)) here ∙ all
      | Equal ↦ all
      | Greater ↦ both (is_port x) (list_all is_port ks) (list_all is_port (insert_key nat_cmp ks k)) all (λ rest. ports-insert ks k rest here)
    ]
  where
    both : (a b c : Bool) → (a && b) ≡ true → (b ≡ true → c ≡ true) → (a && c) ≡ true
    both true b c h f = f h
    both false b c h f = h

pub ports-remove : (test : ℕ → Bool) (ks : List ℕ) → list_all is_port ks ≡ true → list_all is_port (remove_key test ks) ≡ true
ports-remove test [] all = all
ports-remove test (x ∷ ks) all =
    elim (test x) as (λ b. list_all is_port (cond b ks (x ∷ remove_key test ks)) ≡ true) [
      | true ↦ rest (is_port x) (list_all is_port ks) all
      | false ↦ both (is_port x) (list_all is_port ks) (list_all is_port (remove_key test ks)) all (λ h. ports-remove test ks h)
    ]
  where
    rest : (a b : Bool) → (a && b) ≡ true → b ≡ true
    rest true b h = h
    rest false b h = cc

    both : (a b c : Bool) → (a && b) ≡ true → (b ≡ true → c ≡ true) → (a && c) ≡ true
    both true b c h f = f h
    both false b c h f = h

-- a number that no port may have is not among the ports
pub no_port : (ks : List ℕ) (q : ℕ) → list_all is_port ks ≡ true → is_port q ≡ false → set.contains (set.from_list {R = nat_cmp} ks) q ≡ false
no_port ks q all out = contains-keys ks q ∙ none ks all
  where
    both : (a b : Bool) → (a && b) ≡ true → (a ≡ true) × (b ≡ true)
    both true b h = (refl, h)
    both false b h = (h, cc)

    apart : (x : ℕ) → is_port x ≡ true → is_eq (nat_cmp q x) ≡ false
    apart x inside = by_ranked _ _ _ (nat_cmp q x) (ranked q x _ refl) (λ e _. ap is_eq e) (λ e same. let h : is_port q ≡ is_port x = ap is_port same in cc) (λ e _. ap is_eq e)

    none : (xs : List ℕ) → list_all is_port xs ≡ true → list_any (is_at (nat_cmp q)) xs ≡ false
    none [] h = refl
    none (x ∷ xs) h = ap (λ b. b || list_any (is_at (nat_cmp q)) xs) (apart x (both (is_port x) (list_all is_port xs) h).0) ∙ none xs (both (is_port x) (list_all is_port xs) h).1

pub listed_up-push : (ps : List Port) (p : Port) → listed_up (ps ++ p ∷ []) ≡ cond (is_listed_up p) (set.insert (listed_up ps) p.number) (listed_up ps)
listed_up-push ps p =
    ap (λ l. set.from_list (map (λ x. x.number) l)) (filter-append is_listed_up ps (p ∷ []))
    ∙ ap set.from_list (map-append (λ x. x.number) (filter is_listed_up ps) (filter is_listed_up (p ∷ [])))
    ∙ elim (is_listed_up p) as (λ b. set.from_list {R = nat_cmp} (map (λ x. x.number) (filter is_listed_up ps) ++ map (λ x. x.number) (cond b (p ∷ []) [])) ≡ cond b (set.insert (listed_up ps) p.number) (listed_up ps)) [
      | true ↦ set.from_list_push nat_cmp_total nat_cmp-IsAntisymmetric (map (λ x. x.number) (filter is_listed_up ps)) p.number
      | false ↦ ap set.from_list (append-nil (map (λ x. x.number) (filter is_listed_up ps)))
    ]

pub too_large : (n : ℕ) → ¬ (n < 65536) → is_port n ≡ false
too_large n h = grind (arith, nat_tests)

pub listed_up-more : (ps : List Port) (i : ℕ) (d : Port) (b : Bool) → i < length ps → is_listed_up (get_or ps i d) ≡ b → cond b (set.insert (listed_up (take i ps)) (get_or ps i d).number) (listed_up (take i ps)) ≡ listed_up (take (i + 1) ps)
listed_up-more ps i d b lt is =
    ap (λ t. cond t (set.insert (listed_up (take i ps)) (get_or ps i d).number) (listed_up (take i ps))) (sym is)
    ∙ sym (ap listed_up (take_more ps i d lt) ∙ listed_up-push (take i ps) (get_or ps i d))
