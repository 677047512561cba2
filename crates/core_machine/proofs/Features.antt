-- The update of a switch that joins is refused just where as many switches are known as may be, and this isn't among them.
use Rattle.std.proofs.Common.{◌≡◌, ℕ, ◌+◌, ◌≤◌, Bool, true, false, cond, not, ◌&&◌, List, [], ◌∷◌, length, map, Some, None, ap, refl, arith, le-ltb, ltb-true, le-leb}
use Rattle.std.specs.Prelude.{filter, nat_lt, nat_le}
use Rattle.std.specs.Cmp.{nat_cmp_total}
use Rattle.std.specs.FinMap as map_of
use Rattle.std.specs.FinSet as set
use Rattle.std.specs.Ordering.{nat_cmp}
use Rattle.std.proofs.lemmas.Bool.Decides.{nat_tests}
use Rattle.std.proofs.lemmas.List.{length-map}
use Rattle.maple_base.specs.declared.cells.Port.{Port}
use Rattle.maple_base.specs.declared.update_refused.UpdateRefused.{UpdateRefused}
use Rattle.maple_base.specs.declared.update_refused.UpdateRefused.TheVariants.{Full}
use Rattle.env_cells.specs.declared.updates.Update.TheVariants.{Switch}
use Rattle.env_cells.specs.Environment.{Environment, knows}
use Rattle.env_cells.specs.Limits.{IsWithinLimits}
use Rattle.env_cells.specs.Listed.{is_listed_up, listed_up}
use Rattle.env_cells.specs.Refusals.{full, else_full, refusal_of}

fewer_kept : (p : Port → Bool) (ports : List Port) → length (filter p ports) ≤ length ports
fewer_kept p [] = omega arith
fewer_kept p (q ∷ qs) = go (p q) (fewer_kept p qs)
  where
    go : (b : Bool) → length (filter p qs) ≤ length qs → length (cond b (q ∷ filter p qs) (filter p qs)) ≤ length (q ∷ qs)
    go true le = omega arith
    go false le = omega arith

fewer_numbers : (ks : List ℕ) → set.len (set.from_list {R = nat_cmp} ks) ≤ length ks
fewer_numbers [] = omega (arith, set.len-empty nat_cmp)
fewer_numbers (k ∷ ks) = go (set.contains (set.from_list {R = nat_cmp} ks) k) (set.len-insert nat_cmp_total (set.from_list ks) k) (fewer_numbers ks)
  where
    go : (b : Bool) → set.len (set.from_list {R = nat_cmp} (k ∷ ks)) ≡ cond b (set.len (set.from_list {R = nat_cmp} ks)) (set.len (set.from_list {R = nat_cmp} ks) + 1) → set.len (set.from_list {R = nat_cmp} ks) ≤ length ks → set.len (set.from_list {R = nat_cmp} (k ∷ ks)) ≤ length (k ∷ ks)
    go true is le = omega (arith, is, le)
    go false is le = omega (arith, is, le)

few_up : (ports : List Port) → length ports ≤ 1364 → full (set.len (listed_up ports)) 1364 ≡ None
few_up ports few =
    let numbers = map (λ (p : Port). p.number) (filter is_listed_up ports) in
    let same : length numbers ≡ length (filter is_listed_up ports) = length-map (filter is_listed_up ports) (λ (p : Port). p.number) in
    let le : set.len (listed_up ports) ≤ 1364 = omega (arith, fewer_numbers numbers, same, fewer_kept is_listed_up ports, few) in
    ap (λ b. cond b (Some (Full (set.len (listed_up ports)) 1364)) None) (le-ltb 1364 (set.len (listed_up ports)) le)

module _ (e : Environment) (dpid : ℕ) (ports : List Port) (few : length ports ≤ 1364) where
  abbrev n : ℕ
  n = map_of.len e.switches

  abbrev more : ℕ
  more = map_of.len (map_of.insert e.switches dpid (listed_up ports))

  more_is : more ≡ cond (knows e dpid) n (n + 1)
  more_is = map_of.len-insert nat_cmp_total e.switches dpid (listed_up ports)

  pub full_refused : IsWithinLimits e → (r : UpdateRefused) → refusal_of e (Switch dpid ports) ≡ Some r → (not (knows e dpid) && nat_le 64 n) ≡ true
  full_refused limits r is = go (knows e dpid) more_is (nat_lt 64 more) refl is
    where
      go : (k : Bool) → more ≡ cond k n (n + 1) → (b : Bool) → nat_lt 64 more ≡ b → else_full (cond b (Some (Full more 64)) None) (set.len (listed_up ports)) 1364 ≡ Some r → (not k && nat_le 64 n) ≡ true
      go true count true over is = let past = ltb-true 64 more over in absurd (omega (arith, count, past, limits.switches))
      go false count true over is = let past = ltb-true 64 more over in le-leb 64 n (omega (arith, count, past))
      go k count false over is = let none = few_up ports few in absurd (cc)

  pub room_accepted : refusal_of e (Switch dpid ports) ≡ None → (not (knows e dpid) && nat_le 64 n) ≡ false
  room_accepted is = go (knows e dpid) more_is (nat_lt 64 more) refl is
    where
      go : (k : Bool) → more ≡ cond k n (n + 1) → (b : Bool) → nat_lt 64 more ≡ b → else_full (cond b (Some (Full more 64)) None) (set.len (listed_up ports)) 1364 ≡ None → (not k && nat_le 64 n) ≡ false
      go true count b over is = refl
      go false count true over is = absurd (cc)
      go false count false over is = grind (arith, nat_tests)
