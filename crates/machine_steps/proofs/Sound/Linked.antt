-- Links begin at ports that a switch may have.
use Rattle.std.proofs.Common.{◌≡◌, Bool, true, false, cond, Some, None, refl, sym, ap, ◌∙◌}
use Rattle.std.specs.Prelude.{◌&&◌, is_some}
use Rattle.std.specs.FinMap as map
use Rattle.std.specs.declared.cmp.Ordering.{Ordering}
use Rattle.std.specs.declared.cmp.Ordering.TheVariants.{Less, Equal, Greater}
use Rattle.std.specs.Ordering.{eq_by_cmp, is_eq}
use Rattle.std.proofs.lemmas.Bool.{and_parts}
use Rattle.maple_base.specs.declared.cells.Place.{Place}
use Rattle.maple_base.specs.Ports.{is_port}
use Rattle.env_cells.specs.declared.updates.Update.{Update}
use Rattle.env_cells.specs.declared.updates.Update.TheVariants.{Switch, Port as PortState, Host, NoHost, Link, NoLink, Set, Unset, Tables}
use Rattle.env_cells.specs.Environment.{Environment, place_cmp, knows}
use Rattle.env_cells.specs.Changes.{applied}
use Rattle.env_cells.specs.Refusals.{refusal_of}
use Rattle.env_cells.specs.KeyOrders.{place_order_total, place_order_apart}
use Rattle.env_cells.proofs.Accepted.{go_on}
use Rattle.machine_steps.specs.Sound.{BeginAtPorts}

-- one link more
linked : (e : Environment) (from to : Place) → BeginAtPorts e → is_port from.port ≡ true → (q : Place) → map.contains_key (map.insert e.links from to) q ≡ true → is_port q.port ≡ true
linked e from to h port q there = go (place_cmp q from) refl (sym (ap is_some (map.get-insert place_order_total e.links from to q)) ∙ there)
  where
    go : (r : Ordering) → place_cmp q from ≡ r → is_some (cond (is_eq (place_cmp q from)) (Some to) (map.get e.links q)) ≡ true → is_port q.port ≡ true
    go Equal tied s = ap (λ (p : Place). is_port p.port) (place_order_apart q from tied) ∙ port
    go Less apart s = h q (sym (ap (λ r. is_some (cond (is_eq r) (Some to) (map.get e.links q))) apart) ∙ s)
    go Greater apart s = h q (sym (ap (λ r. is_some (cond (is_eq r) (Some to) (map.get e.links q))) apart) ∙ s)

-- one link less
unlinked : (e : Environment) (from : Place) → BeginAtPorts e → (q : Place) → map.contains_key (map.remove e.links from) q ≡ true → is_port q.port ≡ true
unlinked e from h q there = go (eq_by_cmp place_cmp q from) (sym (ap is_some (map.get-remove place_order_total e.links from q)) ∙ there)
  where
    go : (b : Bool) → is_some (cond b None (map.get e.links q)) ≡ true → is_port q.port ≡ true
    go true s = absurd (cc)
    go false s = h q s

-- an accepted update keeps that
pub links_still : (e : Environment) (u : Update) → refusal_of e u ≡ None → BeginAtPorts e → BeginAtPorts (applied e u)
links_still e (Switch switch ports) accepted h = h
links_still e (PortState switch port true) accepted h = h
links_still e (PortState switch port false) accepted h = h
links_still e (Host mac place) accepted h = h
links_still e (NoHost mac) accepted h = h
links_still e (Link from to) accepted h =
    let known = go_on (knows e from.switch && knows e to.switch) _ _ accepted in
    let ports = go_on (is_port from.port && is_port to.port) _ _ known.1 in
    linked e from to h (and_parts (is_port from.port) (is_port to.port) ports.0).0
links_still e (NoLink from) accepted h = unlinked e from h
links_still e (Set table key value) accepted h = h
links_still e (Unset table key) accepted h = h
links_still e (Tables names) accepted h = h
