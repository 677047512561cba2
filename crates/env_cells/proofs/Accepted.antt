-- An update that isn't refused leaves an environment within its limits.
use Rattle.std.proofs.Common.{◌≡◌, ℕ, ◌≤◌, Bool, true, false, cond, Option, Some, None, refl, sym, subst}
use Rattle.std.specs.Prelude.{not, nat_lt}
use Rattle.std.specs.FinMap as map
use Rattle.std.specs.FinSet as set
use Rattle.std.proofs.lemmas.Bool.{and_parts}
use Rattle.maple_base.specs.Ports.{is_port}
use Rattle.maple_base.specs.declared.update_refused.UpdateRefused.{UpdateRefused}
use Rattle.maple_base.specs.declared.update_refused.UpdateRefused.TheVariants.{Full}
use Rattle.env_cells.specs.declared.updates.Update.{Update}
use Rattle.env_cells.specs.declared.updates.Update.TheVariants.{Switch, Port, Host, NoHost, Link, NoLink, Set, Unset, Tables}
use Rattle.env_cells.specs.Changes.{applied}
use Rattle.env_cells.specs.Environment.{Environment, knows, ports_in, declares}
use Rattle.env_cells.specs.Limits.{IsWithinLimits}
use Rattle.env_cells.specs.Listed.{listed_up}
use Rattle.env_cells.specs.Named.{numbers_in}
use Rattle.env_cells.specs.Refusals.{full, else_full, refusal_of, HasRoomForTables}
use Rattle.env_cells.proofs.Limits.{within_full, limits_ports, limits_raised, limits_lowered, limits_hosts, limits_unhosted, limits_linked, limits_unlinked, limits_numbers, limits_unset, limits_named}

-- where a test gives no reason, it was passed
pub go_on : (b : Bool) (r : UpdateRefused) (rest : Option UpdateRefused) → cond (not b) (Some r) rest ≡ None → (b ≡ true) × (rest ≡ None)
go_on true r rest h = (refl, h)
go_on false r rest h = cc

pub both_within : (m n k l : ℕ) → else_full (full m n) k l ≡ None → (m ≤ n) × (k ≤ l)
both_within m n k l h = go (nat_lt n m) refl h
  where
    go : (b : Bool) → nat_lt n m ≡ b → else_full (cond b (Some (Full m n)) None) k l ≡ None → (m ≤ n) × (k ≤ l)
    go true is h = cc
    go false is h = (within_full m n (λ i. cond (is i) (Some (Full m n)) None), within_full k l h)

pub accepted : (e : Environment) → IsWithinLimits e → (u : Update) → refusal_of e u ≡ None → HasRoomForTables u → IsWithinLimits (applied e u)
accepted e w (Switch switch ports) none room = let (few, small) = both_within _ 64 _ 1364 none in limits_ports e w switch (listed_up ports) few small
accepted e w (Port switch port true) none room =
    let (known, more) = go_on (knows e switch) _ _ none in
    let (is, last) = go_on (is_port port) _ _ more in
    limits_raised e w switch (set.insert (ports_in e.switches switch) port) known (within_full _ 1364 last)
accepted e w (Port switch port false) none room = limits_lowered e w switch port (go_on (knows e switch) _ _ none).0
accepted e w (Host mac place) none room =
    let (known, more) = go_on (knows e place.switch) _ _ none in
    let (is, last) = go_on (is_port place.port) _ _ more in
    limits_hosts e w (map.insert e.hosts mac place) (within_full _ 65536 last)
accepted e w (NoHost mac) none room = limits_unhosted e w mac
accepted e w (Link from to) none room =
    let (known, more) = go_on _ _ _ none in
    let (are, last) = go_on _ _ _ more in
    let (start, end) = and_parts (knows e from.switch) (knows e to.switch) known in
    let (starts, ends) = and_parts (is_port from.port) (is_port to.port) are in
    limits_linked e w from to (within_full _ 4096 last) (record { switch = start; port = starts }) (record { switch = end; port = ends })
accepted e w (NoLink from) none room = limits_unlinked e w from
accepted e w (Set table key value) none room =
    let (there, last) = go_on (declares e table) _ _ none in
    limits_numbers e w table (map.insert (numbers_in e.tables table) key value) there (within_full _ 65536 last)
accepted e w (Unset table key) none room = limits_unset e w table key (go_on (declares e table) _ _ none).0
accepted e w (Tables names) none room = limits_named e w names room

pub stays_within : (e now : Environment) → e ≡ now → IsWithinLimits e → (u : Update) → refusal_of now u ≡ None → HasRoomForTables u → IsWithinLimits (applied e u)
stays_within e now same within u none room = accepted e within u (subst (λ x. refusal_of x u ≡ None) (sym same) none) room
