-- What holds of the list of links of an environment.
use Rattle.std.proofs.Common.{◌≡◌, ◌≢◌, ℕ, zero, suc, ◌<◌, ◌≤◌, true, cond, Some, List, [], ◌∷◌, length, get_or, sym, ap, ◌∙◌, refl, arith}
use Rattle.std.specs.Prelude.{All, Contains, ◌||◌}
use Rattle.std.specs.declared.cmp.Ordering.{Ordering}
use Rattle.std.specs.declared.cmp.Ordering.TheVariants.{Less, Equal, Greater}
use Rattle.std.specs.Ordering.{eq_by_cmp, is_eq, nat_cmp, ordering_reverse}
use Rattle.std.specs.Cmp.{IsTotalOrder, tied_itself}
use Rattle.std.specs.List.{list_any}
use Rattle.std.specs.FinMap as map
use Rattle.std.specs.FinMap.{nat_cmp-IsAntisymmetric}
use Rattle.std.specs.FinMap.Entries.{find, is_sorted, below_all}
use Rattle.std.proofs.lemmas.List.{length-map}
use Rattle.maple_base.specs.declared.cells.Place.{Place}
use Rattle.env_cells.specs.Environment.{Environment, PortSet, place_cmp, knows}
use Rattle.env_cells.specs.Limits.{IsWithinLimits}
use Rattle.env_cells.specs.Lists.{StartApart, RiseByPlace, IsBetweenPorts, IsKnown, NamesFewSwitches}
use Rattle.env_cells.specs.KeyOrders.{place_order_total}
use Rattle.env_cells.proofs.SortedLists.{truth, second_true, rises}

module _ {K X : Type 0} {R : K → K → Ordering} (o : IsTotalOrder R) where
  -- each entry of a list whose keys rise is found at its key
  find_at : (es : List (K × X)) (k : ℕ) (d : K × X) → is_sorted R es ≡ true → k < length es → find R (get_or es k d).0 es ≡ Some (get_or es k d).1
  find_at [] k d sorted lt = absurd (omega arith)
  find_at (e ∷ es) zero d sorted lt = ap (λ r. cond (is_eq r) (Some e.1) (find R e.0 es)) (tied_itself o e.0)
  find_at (e ∷ es) (suc k) d sorted lt =
      ap (λ r. cond (is_eq r) (Some e.1) (find R (get_or es k d).0 es)) (o.antisymm (get_or es k d).0 e.0 ∙ ap ordering_reverse (rises R (e ∷ es) 0 (suc k) d sorted (omega arith) lt))
      ∙ find_at es k d (second_true (below_all R e.0 es) _ sorted) (omega arith)

  entries_sorted : (m : map.FinMap R X) → is_sorted R (map.entries m) ≡ true
  entries_sorted m = truth _ (map.entries_sorted m)

  get_entry : (m : map.FinMap R X) (k : ℕ) (d : K × X) → k < length (map.entries m) → map.get m (get_or (map.entries m) k d).0 ≡ Some (get_or (map.entries m) k d).1
  get_entry m k d lt = map.get-entries m _ ∙ find_at (map.entries m) k d (entries_sorted m) lt

  keys_apart : (m : map.FinMap R X) (i j : ℕ) (d : K × X) → i < j → j < length (map.entries m) → (get_or (map.entries m) i d).0 ≢ (get_or (map.entries m) j d).0
  keys_apart m i j d lt within same =
      let less = rises R (map.entries m) i j d (entries_sorted m) lt within in
      let tied : R (get_or (map.entries m) i d).0 (get_or (map.entries m) j d).0 ≡ Equal = ap (R (get_or (map.entries m) i d).0) (sym same) ∙ tied_itself o _ in
      cc

listed : (ks : List ℕ) (q : ℕ) → list_any (eq_by_cmp nat_cmp q) ks ≡ true → Contains ks q
listed [] q one = cc
listed (k ∷ ks) q one = go (nat_cmp q k) refl one (λ rest. listed ks q rest)
  where
    later : Contains ks q → Contains (k ∷ ks) q
    later at = (suc at.0, omega (arith, at.1), at.2)

    go : (r : Ordering) → nat_cmp q k ≡ r → (is_eq r || list_any (eq_by_cmp nat_cmp q) ks) ≡ true → (list_any (eq_by_cmp nat_cmp q) ks ≡ true → Contains ks q) → Contains (k ∷ ks) q
    go Less apart one rest = later (rest one)
    go Equal tied one rest = (0, omega arith, sym (nat_cmp-IsAntisymmetric q k tied))
    go Greater apart one rest = later (rest one)

module _ (e : Environment) (within : IsWithinLimits e) where
  abbrev links : List (Place × Place)
  links = map.entries e.links

  pub links_apart : StartApart links
  links_apart i j d lt inside = keys_apart place_order_total e.links i j d lt inside

  pub links_rise : RiseByPlace links
  links_rise i j d lt inside = rises place_cmp links i j d (entries_sorted place_order_total e.links) lt inside

  pub links_few : length links ≤ 4096
  links_few = omega (arith, map.len-entries e.links, within.links)

  pub links_ports : All IsBetweenPorts links
  links_ports k d lt =
      let there = get_entry place_order_total e.links k d lt in
      record { start = (within.starts _ _ there).port; end = (within.ends _ _ there).port }

  pub links_known : All (IsKnown e) links
  links_known k d lt =
      let there = get_entry place_order_total e.links k d lt in
      record { start = (within.starts _ _ there).switch; end = (within.ends _ _ there).switch }

  among : (switch : ℕ) → knows e switch ≡ true → Contains (map.keys e.switches) switch
  among switch known = listed (map.keys e.switches) switch (sym (map.contains_key-keys e.switches switch) ∙ known)

  pub links_named : NamesFewSwitches links
  links_named = (
    map.keys e.switches,
    omega (arith, length-map (map.entries e.switches) (λ (p : ℕ × PortSet). p.0), map.len-entries e.switches, within.switches),
    λ k d lt. record { start = among _ (links_known k d lt).start; end = among _ (links_known k d lt).end },
  )
