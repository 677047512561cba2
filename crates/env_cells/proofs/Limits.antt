-- An accepted update keeps an environment within its limits.
use Rattle.std.proofs.Common.{◌≡◌, ℕ, ◌+◌, ◌-◌, ◌≤◌, Bool, true, false, cond, Option, Some, None, Ok, Err, List, [], ◌∷◌, sym, ap, subst, ◌∙◌, refl, arith}
use Rattle.std.specs.Prelude.{is_some, unwrap_or, nat_lt, ◌||◌}
use Rattle.std.specs.declared.cmp.Ordering.{Ordering}
use Rattle.std.specs.declared.cmp.Ordering.TheVariants.{Less, Equal, Greater}
use Rattle.std.specs.Ordering.{eq_by_cmp, is_eq, nat_cmp}
use Rattle.std.specs.Cmp.{IsTotalOrder, nat_cmp_total}
use Rattle.std.specs.Cmp.Lexicographic.{nat_list_cmp_total}
use Rattle.std.specs.FinMap as map
use Rattle.std.specs.FinSet as set
use Rattle.std.proofs.lemmas.Bool.Decides.{nat_tests}
use Rattle.maple_base.specs.declared.cells.Place.{Place}
use Rattle.maple_base.specs.declared.update_refused.UpdateRefused.TheVariants.{Full}
use Rattle.env_cells.specs.Environment.{Environment, PortSet, NumberTable, place_cmp, name_cmp, nothing_known, knows, ports_in}
use Rattle.env_cells.specs.Named.{numbers_in, tables_named}
use Rattle.env_cells.specs.Refusals.{full}
use Rattle.env_cells.specs.Limits.{IsPlaceOf, IsWithinLimits}
use Rattle.env_cells.specs.KeyOrders.{place_order_total, place_order_apart}

-- what is not full is within the limit
pub within_full : (count limit : ℕ) → full count limit ≡ None → count ≤ limit
within_full count limit h = go (nat_lt limit count) refl h
  where
    go : (b : Bool) → nat_lt limit count ≡ b → cond b (Some (Full count limit)) None ≡ None → count ≤ limit
    go true is h = cc
    go false is h = grind (arith, nat_tests)

module _ {K X : Type 0} {R : K → K → Ordering} (o : IsTotalOrder R) where
  -- an entry of a map after an insert is the new one or an old one
  pub inserted : (P : K → X → Type 0) (m : map.FinMap R X) (k : K) (v : X) → ((q : K) → R q k ≡ Equal → P q v) → ((q : K) (w : X) → map.get m q ≡ Some w → P q w) → (q : K) (w : X) → map.get (map.insert m k v) q ≡ Some w → P q w
  inserted P m k v new old q w is = go (R q k) refl (sym (map.get-insert o m k v q) ∙ is)
    where
      go : (r : Ordering) → R q k ≡ r → cond (is_eq (R q k)) (Some v) (map.get m q) ≡ Some w → P q w
      go Equal tied here = let same : v ≡ w = ap (λ x. unwrap_or x v) (sym (ap (λ r. cond (is_eq r) (Some v) (map.get m q)) tied) ∙ here) in subst (P q) same (new q tied)
      go Less apart here = old q w (sym (ap (λ r. cond (is_eq r) (Some v) (map.get m q)) apart) ∙ here)
      go Greater apart here = old q w (sym (ap (λ r. cond (is_eq r) (Some v) (map.get m q)) apart) ∙ here)

  pub removed : (P : K → X → Type 0) (m : map.FinMap R X) (k : K) → ((q : K) (w : X) → map.get m q ≡ Some w → P q w) → (q : K) (w : X) → map.get (map.remove m k) q ≡ Some w → P q w
  removed P m k old q w is = go (eq_by_cmp R q k) (sym (map.get-remove o m k q) ∙ is)
    where
      go : (b : Bool) → cond b None (map.get m q) ≡ Some w → P q w
      go true here = cc
      go false here = old q w here

  pub len_removed : (m : map.FinMap R X) (k : K) (n : ℕ) → map.len m ≤ n → map.len (map.remove m k) ≤ n
  len_removed m k n le = go (map.contains_key m k) (map.len-remove o m k)
    where
      go : (b : Bool) → map.len (map.remove m k) ≡ cond b (map.len m - 1) (map.len m) → map.len (map.remove m k) ≤ n
      go true e = omega (arith, e, le)
      go false e = omega (arith, e, le)

  -- an insert at a key that is there keeps the count
  pub len_replaced : (m : map.FinMap R X) (k : K) (v : X) (n : ℕ) → map.contains_key m k ≡ true → map.len m ≤ n → map.len (map.insert m k v) ≤ n
  len_replaced m k v n there le = let e = map.len-insert o m k v ∙ ap (λ b. cond b (map.len m) (map.len m + 1)) there in omega (arith, e, le)

  -- a key that is there stays there
  pub still_there : (m : map.FinMap R X) (k : K) (v : X) (q : K) → map.contains_key m q ≡ true → map.contains_key (map.insert m k v) q ≡ true
  still_there m k v q there = go (eq_by_cmp R q k) (map.get-insert o m k v q)
    where
      go : (b : Bool) → map.get (map.insert m k v) q ≡ cond b (Some v) (map.get m q) → is_some (map.get (map.insert m k v) q) ≡ true
      go true e = ap is_some e
      go false e = ap is_some e ∙ there

  pub value_there : (m : map.FinMap R X) (k : K) → map.contains_key m k ≡ true → (d : X) → map.get m k ≡ Some (unwrap_or (map.get m k) d)
  value_there m k there d = go (map.get m k) there
    where
      go : (x : Option X) → is_some x ≡ true → x ≡ Some (unwrap_or x d)
      go None h = cc
      go (Some v) h = refl

pub none_known : IsWithinLimits nothing_known
none_known = record {
  switches = omega (arith, map.len-empty nat_cmp PortSet);
  ports = λ switch ports is. let none = map.get-empty {X = PortSet} nat_cmp switch in cc;
  hosts = omega (arith, map.len-empty nat_cmp Place);
  links = omega (arith, map.len-empty place_cmp Place);
  tables = omega (arith, map.len-empty name_cmp NumberTable);
  numbers = λ name numbers is. let none = map.get-empty {X = NumberTable} name_cmp name in cc;
  starts = λ from to is. let none = map.get-empty {X = Place} place_cmp from in cc;
  ends = λ from to is. let none = map.get-empty {X = Place} place_cmp from in cc;
}

module _ (e : Environment) (within : IsWithinLimits e) where
  -- a place of the environment stays one when a switch gets other ports
  kept_place : (switch : ℕ) (ports : PortSet) (place : Place) → IsPlaceOf e place → IsPlaceOf (record e { switches = map.insert e.switches switch ports }) place
  kept_place switch ports place is = record { switch = still_there nat_cmp_total e.switches switch ports place.switch is.switch; port = is.port }

  pub limits_ports : (switch : ℕ) (ports : PortSet) → map.len (map.insert e.switches switch ports) ≤ 64 → set.len ports ≤ 1364 → IsWithinLimits (record e { switches = map.insert e.switches switch ports })
  limits_ports switch ports few small = record {
    switches = few;
    ports = inserted nat_cmp_total (λ q ps. set.len ps ≤ 1364) e.switches switch ports (λ q tied. small) within.ports;
    hosts = within.hosts;
    links = within.links;
    tables = within.tables;
    numbers = within.numbers;
    starts = λ from to is. kept_place switch ports from (within.starts from to is);
    ends = λ from to is. kept_place switch ports to (within.ends from to is);
  }

  pub limits_raised : (switch : ℕ) (ports : PortSet) → knows e switch ≡ true → set.len ports ≤ 1364 → IsWithinLimits (record e { switches = map.insert e.switches switch ports })
  limits_raised switch ports known small = limits_ports switch ports (len_replaced nat_cmp_total e.switches switch ports 64 known within.switches) small

  pub limits_lowered : (switch port : ℕ) → knows e switch ≡ true → IsWithinLimits (record e { switches = map.insert e.switches switch (set.remove (ports_in e.switches switch) port) })
  limits_lowered switch port known =
      limits_raised switch (set.remove (ports_in e.switches switch) port) known
      (go (set.contains (ports_in e.switches switch) port) (set.len-remove nat_cmp_total (ports_in e.switches switch) port))
    where
      small : set.len (ports_in e.switches switch) ≤ 1364
      small = within.ports switch _ (value_there nat_cmp_total e.switches switch known set.empty)

      go : (b : Bool) → set.len (set.remove (ports_in e.switches switch) port) ≡ cond b (set.len (ports_in e.switches switch) - 1) (set.len (ports_in e.switches switch)) → set.len (set.remove (ports_in e.switches switch) port) ≤ 1364
      go true is = omega (arith, is, small)
      go false is = omega (arith, is, small)

  pub limits_hosts : (hosts : map.FinMap nat_cmp Place) → map.len hosts ≤ 65536 → IsWithinLimits (record e { hosts = hosts })
  limits_hosts hosts few = record {
    switches = within.switches;
    ports = within.ports;
    hosts = few;
    links = within.links;
    tables = within.tables;
    numbers = within.numbers;
    starts = λ from to is. record { switch = (within.starts from to is).switch; port = (within.starts from to is).port };
    ends = λ from to is. record { switch = (within.ends from to is).switch; port = (within.ends from to is).port };
  }

  kept_links : (links : map.FinMap place_cmp Place) (place : Place) → IsPlaceOf e place → IsPlaceOf (record e { links = links }) place
  kept_links links place is = record { switch = is.switch; port = is.port }

  limits_links : (links : map.FinMap place_cmp Place) → map.len links ≤ 4096 → ((from to : Place) → map.get links from ≡ Some to → IsPlaceOf e from) → ((from to : Place) → map.get links from ≡ Some to → IsPlaceOf e to) → IsWithinLimits (record e { links = links })
  limits_links links few starts ends = record {
    switches = within.switches;
    ports = within.ports;
    hosts = within.hosts;
    links = few;
    tables = within.tables;
    numbers = within.numbers;
    starts = λ from to is. kept_links links from (starts from to is);
    ends = λ from to is. kept_links links to (ends from to is);
  }

  pub limits_linked : (from to : Place) → map.len (map.insert e.links from to) ≤ 4096 → IsPlaceOf e from → IsPlaceOf e to → IsWithinLimits (record e { links = map.insert e.links from to })
  limits_linked from to few start end =
      limits_links (map.insert e.links from to) few
      (inserted place_order_total (λ p q. IsPlaceOf e p) e.links from to (λ q tied. subst (IsPlaceOf e) (sym (place_order_apart q from tied)) start) within.starts)
      (inserted place_order_total (λ p q. IsPlaceOf e q) e.links from to (λ q tied. end) within.ends)

  pub limits_unlinked : (from : Place) → IsWithinLimits (record e { links = map.remove e.links from })
  limits_unlinked from =
      limits_links (map.remove e.links from) (len_removed place_order_total e.links from 4096 within.links)
      (removed place_order_total (λ p q. IsPlaceOf e p) e.links from within.starts)
      (removed place_order_total (λ p q. IsPlaceOf e q) e.links from within.ends)

  kept_tables : (tables : map.FinMap name_cmp NumberTable) (place : Place) → IsPlaceOf e place → IsPlaceOf (record e { tables = tables }) place
  kept_tables tables place is = record { switch = is.switch; port = is.port }

  limits_tables : (tables : map.FinMap name_cmp NumberTable) → map.len tables ≤ 16 → ((name : List ℕ) (numbers : NumberTable) → map.get tables name ≡ Some numbers → map.len numbers ≤ 65536) → IsWithinLimits (record e { tables = tables })
  limits_tables tables few small = record {
    switches = within.switches;
    ports = within.ports;
    hosts = within.hosts;
    links = within.links;
    tables = few;
    numbers = small;
    starts = λ from to is. kept_tables tables from (within.starts from to is);
    ends = λ from to is. kept_tables tables to (within.ends from to is);
  }

  pub limits_numbers : (name : List ℕ) (numbers : NumberTable) → map.contains_key e.tables name ≡ true → map.len numbers ≤ 65536 → IsWithinLimits (record e { tables = map.insert e.tables name numbers })
  limits_numbers name numbers declared small =
      limits_tables (map.insert e.tables name numbers) (len_replaced nat_list_cmp_total e.tables name numbers 16 declared within.tables)
      (inserted nat_list_cmp_total (λ q ns. map.len ns ≤ 65536) e.tables name numbers (λ q tied. small) within.numbers)

  pub few_numbers : (name : List ℕ) → map.len (numbers_in e.tables name) ≤ 65536
  few_numbers name = go (map.get e.tables name) refl
    where
      go : (x : Option NumberTable) → map.get e.tables name ≡ x → map.len (unwrap_or x map.empty) ≤ 65536
      go None is = omega (arith, map.len-empty nat_cmp ℕ)
      go (Some ns) is = within.numbers name ns is

  pub limits_unset : (name : List ℕ) (key : ℕ) → map.contains_key e.tables name ≡ true → IsWithinLimits (record e { tables = map.insert e.tables name (map.remove (numbers_in e.tables name) key) })
  limits_unset name key declared =
      limits_numbers name (map.remove (numbers_in e.tables name) key) declared (len_removed nat_cmp_total (numbers_in e.tables name) key 65536 (few_numbers name))

  -- each declared table has the numbers of one that was there, or none
  small_named : (names : List (List ℕ)) (name : List ℕ) (numbers : NumberTable) → map.get (tables_named e.tables names) name ≡ Some numbers → map.len numbers ≤ 65536
  small_named [] name numbers is = let none = map.get-empty {X = NumberTable} name_cmp name in cc
  small_named (n ∷ names) name numbers is =
      inserted nat_list_cmp_total (λ q ns. map.len ns ≤ 65536) (tables_named e.tables names) n (numbers_in e.tables n) (λ q tied. few_numbers n) (small_named names) name numbers is

  -- as many tables as names
  there_as : (names : List (List ℕ)) (q : List ℕ) → map.contains_key (tables_named e.tables names) q ≡ set.contains (set.from_list {R = name_cmp} names) q
  there_as [] q = ap is_some (map.get-empty name_cmp q) ∙ sym (set.contains-empty name_cmp q)
  there_as (n ∷ names) q =
      ap is_some (map.get-insert nat_list_cmp_total (tables_named e.tables names) n (numbers_in e.tables n) q)
      ∙ go (eq_by_cmp name_cmp q n) (there_as names q) ∙ sym (set.contains-insert nat_list_cmp_total (set.from_list names) n q)
    where
      go : (b : Bool) → map.contains_key (tables_named e.tables names) q ≡ set.contains (set.from_list {R = name_cmp} names) q → is_some (cond b (Some (numbers_in e.tables n)) (map.get (tables_named e.tables names) q)) ≡ (b || set.contains (set.from_list {R = name_cmp} names) q)
      go true rest = refl
      go false rest = rest

  len_named : (names : List (List ℕ)) → map.len (tables_named e.tables names) ≡ set.len (set.from_list {R = name_cmp} names)
  len_named [] = map.len-empty name_cmp NumberTable ∙ sym (set.len-empty name_cmp)
  len_named (n ∷ names) =
      map.len-insert nat_list_cmp_total (tables_named e.tables names) n (numbers_in e.tables n)
      ∙ (λ i. cond (there_as names n i) (len_named names i) (len_named names i + 1)) ∙ sym (set.len-insert nat_list_cmp_total (set.from_list names) n)

  pub limits_named : (names : List (List ℕ)) → set.len (set.from_list {R = name_cmp} names) ≤ 16 → IsWithinLimits (record e { tables = tables_named e.tables names })
  limits_named names few = limits_tables (tables_named e.tables names) (omega (arith, len_named names, few)) (small_named names)

-- a test that answered `Ok` was true
pub passed : {E : Type 0} (b : Bool) (x : Unit {0}) (r : E) → Ok x ≡ cond b (Ok tt) (Err r) → b ≡ true
passed true x r h = refl
passed false x r h = cc

pub limits_unhosted : (e : Environment) → IsWithinLimits e → (mac : ℕ) → IsWithinLimits (record e { hosts = map.remove e.hosts mac })
limits_unhosted e within mac = limits_hosts e within (map.remove e.hosts mac) (len_removed nat_cmp_total e.hosts mac 65536 within.hosts)
