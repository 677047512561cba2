-- A known switch stays known.
use Rattle.std.proofs.Common.{◌≡◌, ℕ, Bool, true, false, cond, List, refl, ap, ◌∙◌}
use Rattle.std.specs.Prelude.{Option, Some, is_some}
use Rattle.std.specs.FinMap as map
use Rattle.std.specs.Ordering.{nat_cmp, eq_by_cmp}
use Rattle.std.specs.Cmp.{nat_cmp_total, eq_by_cmp_equiv}
use Rattle.maple_base.specs.declared.cells.Port.{Port}
use Rattle.env_cells.specs.declared.updates.Update.{Update}
use Rattle.env_cells.specs.declared.updates.Update.TheVariants.{Switch, Port as PortState, Host, NoHost, Link, NoLink, Set, Unset, Tables}
use Rattle.env_cells.specs.Environment.{Environment, PortSet, knows}
use Rattle.env_cells.specs.Changes.{applied}

either : (b : Bool) (ports : PortSet) (o : Option PortSet) → is_some o ≡ true → is_some (cond b (Some ports) o) ≡ true
either true ports o h = refl
either false ports o h = h

knows_with : (switches : map.FinMap nat_cmp PortSet) (k : ℕ) (ports : PortSet) (q : ℕ) → map.contains_key switches q ≡ true → map.contains_key (map.insert switches k ports) q ≡ true
knows_with switches k ports q h = ap is_some (map.get-insert nat_cmp_total switches k ports q) ∙ either (eq_by_cmp nat_cmp q k) ports (map.get switches q) h

pub knows_still : (e : Environment) (u : Update) (q : ℕ) → knows e q ≡ true → knows (applied e u) q ≡ true
knows_still e (Switch switch ports) q h = knows_with e.switches switch _ q h
knows_still e (PortState switch port true) q h = knows_with e.switches switch _ q h
knows_still e (PortState switch port false) q h = knows_with e.switches switch _ q h
knows_still e (Host mac place) q h = h
knows_still e (NoHost mac) q h = h
knows_still e (Link from to) q h = h
knows_still e (NoLink from) q h = h
knows_still e (Set table key value) q h = h
knows_still e (Unset table key) q h = h
knows_still e (Tables names) q h = h

known_at : (switches : map.FinMap nat_cmp PortSet) (k : ℕ) (ports : PortSet) → map.contains_key (map.insert switches k ports) k ≡ true
known_at switches k ports = ap is_some (map.get-insert nat_cmp_total switches k ports k) ∙ ap (λ b. is_some (cond b (Some ports) (map.get switches k))) ((eq_by_cmp_equiv nat_cmp_total).refl k)

-- and one that joins is known
pub knows_new : (e : Environment) (switch : ℕ) (ports : List Port) → knows (applied e (Switch switch ports)) switch ≡ true
knows_new e switch ports = known_at e.switches switch _
