-- What there is in a cell after one entry was changed.
use Rattle.std.proofs.Common.{◌≡◌, ◌≢◌, ℕ, Bool, true, false, cond, List, Some, None, sym, ap, ◌∙◌}
use Rattle.std.specs.Prelude.{not, ◌||◌, ◌&&◌, unwrap_or}
use Rattle.std.specs.List.{list_any}
use Rattle.std.specs.Ordering.{eq_by_cmp, nat_cmp}
use Rattle.std.specs.Cmp.{nat_cmp_total, unsigned_tied}
use Rattle.std.specs.FinMap as map
use Rattle.std.specs.FinSet as set
use Rattle.std.proofs.lemmas.Bool.{eq-eqb, ne_eqb}
use Rattle.env_cells.specs.declared.updates.Update.TheVariants.{Port}
use Rattle.env_cells.specs.Changes.{applied}
use Rattle.env_cells.specs.Environment.{Environment, NumberTable, name_cmp, ports_in}
use Rattle.env_cells.specs.KeyOrders.{name_order_total}
use Rattle.env_cells.specs.Named.{numbers_in, tables_named}
use Rattle.env_cells.proofs.NamedTables.{tied_of, get-tables_named}

tied : (k q : ℕ) → k ≡ q → eq_by_cmp nat_cmp q k ≡ true
tied k q same = unsigned_tied q k ∙ eq-eqb q k (sym same)

untied : (k q : ℕ) → k ≢ q → eq_by_cmp nat_cmp q k ≡ false
untied k q apart = unsigned_tied q k ∙ ne_eqb q k (λ e. apart (sym e))

module _ {X : Type 0} (m : map.FinMap nat_cmp X) (k q : ℕ) where
  pub set_here : (v : X) → k ≡ q → map.get (map.insert m k v) q ≡ Some v
  set_here v same = map.get-insert nat_cmp_total m k v q ∙ ap (λ b. cond b (Some v) (map.get m q)) (tied k q same)

  pub set_there : (v : X) → k ≢ q → map.get (map.insert m k v) q ≡ map.get m q
  set_there v apart = map.get-insert nat_cmp_total m k v q ∙ ap (λ b. cond b (Some v) (map.get m q)) (untied k q apart)

  pub gone_here : k ≡ q → map.get (map.remove m k) q ≡ None
  gone_here same = map.get-remove nat_cmp_total m k q ∙ ap (λ b. cond b None (map.get m q)) (tied k q same)

  pub gone_there : k ≢ q → map.get (map.remove m k) q ≡ map.get m q
  gone_there apart = map.get-remove nat_cmp_total m k q ∙ ap (λ b. cond b None (map.get m q)) (untied k q apart)

-- a port that went up or down, and the others
module _ (e : Environment) (s p q r : ℕ) where
  pub turned_here : (up : Bool) → s ≡ q → p ≡ r → set.contains (ports_in (applied e (Port s p up)).switches q) r ≡ up
  turned_here true same here =
      ap (λ x. set.contains (unwrap_or x set.empty) r) (set_here e.switches s q (set.insert (ports_in e.switches s) p) same)
      ∙ set.contains-insert nat_cmp_total (ports_in e.switches s) p r ∙ ap (λ b. b || set.contains (ports_in e.switches s) r) (tied p r here)
  turned_here false same here =
      ap (λ x. set.contains (unwrap_or x set.empty) r) (set_here e.switches s q (set.remove (ports_in e.switches s) p) same)
      ∙ set.contains-remove nat_cmp_total (ports_in e.switches s) p r ∙ ap (λ b. not b && set.contains (ports_in e.switches s) r) (tied p r here)

  pub turned_there : (up : Bool) → s ≡ q → p ≢ r → set.contains (ports_in (applied e (Port s p up)).switches q) r ≡ set.contains (ports_in e.switches q) r
  turned_there true same there =
      ap (λ x. set.contains (unwrap_or x set.empty) r) (set_here e.switches s q (set.insert (ports_in e.switches s) p) same)
      ∙ set.contains-insert nat_cmp_total (ports_in e.switches s) p r ∙ ap (λ b. b || set.contains (ports_in e.switches s) r) (untied p r there)
      ∙ ap (λ x. set.contains (ports_in e.switches x) r) same
  turned_there false same there =
      ap (λ x. set.contains (unwrap_or x set.empty) r) (set_here e.switches s q (set.remove (ports_in e.switches s) p) same)
      ∙ set.contains-remove nat_cmp_total (ports_in e.switches s) p r ∙ ap (λ b. not b && set.contains (ports_in e.switches s) r) (untied p r there)
      ∙ ap (λ x. set.contains (ports_in e.switches x) r) same

  pub turned_elsewhere : (up : Bool) → s ≢ q → set.contains (ports_in (applied e (Port s p up)).switches q) r ≡ set.contains (ports_in e.switches q) r
  turned_elsewhere true there = ap (λ x. set.contains (unwrap_or x set.empty) r) (set_there e.switches s q _ there)
  turned_elsewhere false there = ap (λ x. set.contains (unwrap_or x set.empty) r) (set_there e.switches s q _ there)

-- a table whose numbers were changed, and the others
module _ (tables : map.FinMap name_cmp NumberTable) (t q : List ℕ) where
  pub numbers_here : (ns : NumberTable) → eq_by_cmp name_cmp q t ≡ true → numbers_in (map.insert tables t ns) q ≡ ns
  numbers_here ns same = ap (λ x. unwrap_or x map.empty) (map.get-insert name_order_total tables t ns q ∙ ap (λ b. cond b (Some ns) (map.get tables q)) same)

  pub numbers_there : (ns : NumberTable) → eq_by_cmp name_cmp q t ≡ false → numbers_in (map.insert tables t ns) q ≡ numbers_in tables q
  numbers_there ns apart = ap (λ x. unwrap_or x map.empty) (map.get-insert name_order_total tables t ns q ∙ ap (λ b. cond b (Some ns) (map.get tables q)) apart)

  pub numbers_same : eq_by_cmp name_cmp q t ≡ true → numbers_in tables t ≡ numbers_in tables q
  numbers_same same = ap (λ x. unwrap_or x map.empty) (map.get_tied name_order_total tables q t (tied_of _ same))

-- the tables that stay have their numbers
module _ (tables : map.FinMap name_cmp NumberTable) (names : List (List ℕ)) (q : List ℕ) where
  pub numbers_kept : list_any (eq_by_cmp name_cmp q) names ≡ true → numbers_in (tables_named tables names) q ≡ numbers_in tables q
  numbers_kept listed = ap (λ x. unwrap_or x map.empty) (get-tables_named tables names q ∙ ap (λ b. cond b (Some (numbers_in tables q)) None) listed)

  pub numbers_dropped : (key : ℕ) → list_any (eq_by_cmp name_cmp q) names ≡ false → map.get (numbers_in (tables_named tables names) q) key ≡ None
  numbers_dropped key unlisted = ap (λ x. map.get (unwrap_or x map.empty) key) (get-tables_named tables names q ∙ ap (λ b. cond b (Some (numbers_in tables q)) None) unlisted) ∙ map.get-empty nat_cmp key
