use Rattle.std.proofs.Common.{◌≡◌, ◌+◌, ◌-◌, length, ap, ◌∙◌, arith}
use Rattle.std.specs.Prelude.{not, ◌&&◌, ◌||◌, nat_lt}
use Rattle.std.specs.List.{count_by}
use Rattle.flow_table.specs.Effects.{has_at}
use Rattle.update_plan.specs.Batches.{first_adds, first_deletes, second_adds, peak_one, peak_two}
use Rattle.update_plan.specs.Lookups.{is_in, barrier_at}
use Rattle.update_plan.proofs.Counted.{chosen, counted}
use Rattle.update_plan.proofs.Lists.{lacking_is, stale_facts_is, stale_barriers_is, peak_one_is, few_deletes, peak_two_is}
use Rattle.update_plan.proofs.changes.changes_of.Goals as goal

pub returns-clause-first_adds : goal.returns-clause-first_adds
returns-clause-first_adds c =
    chosen (λ l r. not (is_in l r)) _ c.in_ok-from.from.items _ c.args.b.now.barriers c.deref.ensures.value c.barriers.ensures _ _ c.in_ok-first_adds.ensures
    (lacking_is c.args.capacity c.args.a.now c.args.b.now c.requires.from c.requires.to c.in_ok-from.from.items c.in_ok-to.to.items c.in_ok-from.ensures.same c.in_ok-to.ensures.same c.args.b.now.barriers)

pub returns-clause-first_deletes : goal.returns-clause-first_deletes
returns-clause-first_deletes c =
    chosen (λ l r. not (is_in l r) && not (barrier_at l r)) _ c.in_ok-to.to.items _ c.args.a.now.facts c.deref-2.ensures.value c.facts.ensures _ _ c.in_ok-first_deletes.ensures
    (stale_facts_is c.args.capacity c.args.a.now c.args.b.now c.requires.from c.requires.to c.in_ok-from.from.items c.in_ok-to.to.items c.in_ok-from.ensures.same c.in_ok-to.ensures.same)

pub returns-clause-second_adds : goal.returns-clause-second_adds
returns-clause-second_adds c =
    chosen (λ l r. not (is_in l r)) _ c.in_ok-from.from.items _ c.args.b.now.facts c.deref-3.ensures.value c.facts-2.ensures _ _ c.in_ok-second_adds.ensures
    (lacking_is c.args.capacity c.args.a.now c.args.b.now c.requires.from c.requires.to c.in_ok-from.from.items c.in_ok-to.to.items c.in_ok-from.ensures.same c.in_ok-to.ensures.same c.args.b.now.facts)

pub returns-clause-second_deletes : goal.returns-clause-second_deletes
returns-clause-second_deletes c =
    chosen (λ l r. not (has_at r.of r.priority l)) _ c.in_ok-to.to.items _ c.args.a.now.barriers c.deref-4.ensures.value c.barriers-2.ensures _ _ c.in_ok-second_deletes.ensures
    (stale_barriers_is c.args.capacity c.args.a.now c.args.b.now c.requires.from c.requires.to c.in_ok-from.from.items c.in_ok-to.to.items c.in_ok-from.ensures.same c.in_ok-to.ensures.same)

pub overflow_sub-peak_two : goal.overflow_sub-peak_two
overflow_sub-peak_two c =
    let first : c.in_ok-first_adds.first_adds.items ≡ first_adds c.args.a.now c.args.b.now =
    chosen (λ l r. not (is_in l r)) _ c.in_ok-from.from.items _ c.args.b.now.barriers c.deref.ensures.value c.barriers.ensures _ _ c.in_ok-first_adds.ensures (lacking_is c.args.capacity c.args.a.now c.args.b.now c.requires.from c.requires.to c.in_ok-from.from.items c.in_ok-to.to.items c.in_ok-from.ensures.same c.in_ok-to.ensures.same c.args.b.now.barriers) in
    let gone : c.in_ok-first_deletes.first_deletes.items ≡ first_deletes c.args.a.now c.args.b.now =
    chosen (λ l r. not (is_in l r) && not (barrier_at l r)) _ c.in_ok-to.to.items _ c.args.a.now.facts c.deref-2.ensures.value c.facts.ensures _ _ c.in_ok-first_deletes.ensures (stale_facts_is c.args.capacity c.args.a.now c.args.b.now c.requires.from c.requires.to c.in_ok-from.from.items c.in_ok-to.to.items c.in_ok-from.ensures.same c.in_ok-to.ensures.same) in
    let grown : c.new_places.result ≡ count_by (λ r. not (has_at r.of r.priority c.in_ok-from.from.items)) (first_adds c.args.a.now c.args.b.now) =
    counted (λ l r. not (has_at r.of r.priority l)) _ c.in_ok-from.from.items _ _ c.deref-6.ensures.value (c.deref-5.ensures.value ∙ first) _ c.new_places.ensures in
    let one : c.len.result + c.new_places.result ≡ peak_one c.args.a.now c.args.b.now = let n = peak_one_is c.args.capacity c.args.a.now c.args.b.now c.requires.from c.requires.to c.in_ok-from.from.items c.in_ok-to.to.items c.in_ok-from.ensures.same c.in_ok-to.ensures.same in let l = c.in_ok-from.from.ok in let m = c.len.ensures in omega (arith, n, l.0, m, grown) in
    let left : c.len-2.result ≡ length (first_deletes c.args.a.now c.args.b.now) = let l = c.in_ok-first_deletes.first_deletes.ok in let m = c.len-2.ensures in let n = ap length gone in omega (arith, l.0, m, n) in
    let most = few_deletes c.args.capacity c.args.a.now c.args.b.now c.requires.from c.requires.to c.in_ok-from.from.items c.in_ok-to.to.items c.in_ok-from.ensures.same c.in_ok-to.ensures.same in
    omega (arith, one, left, most)

pub returns-clause-over : goal.returns-clause-over
returns-clause-over c =
    let first : c.in_ok-first_adds.first_adds.items ≡ first_adds c.args.a.now c.args.b.now =
    chosen (λ l r. not (is_in l r)) _ c.in_ok-from.from.items _ c.args.b.now.barriers c.deref.ensures.value c.barriers.ensures _ _ c.in_ok-first_adds.ensures (lacking_is c.args.capacity c.args.a.now c.args.b.now c.requires.from c.requires.to c.in_ok-from.from.items c.in_ok-to.to.items c.in_ok-from.ensures.same c.in_ok-to.ensures.same c.args.b.now.barriers) in
    let gone : c.in_ok-first_deletes.first_deletes.items ≡ first_deletes c.args.a.now c.args.b.now =
    chosen (λ l r. not (is_in l r) && not (barrier_at l r)) _ c.in_ok-to.to.items _ c.args.a.now.facts c.deref-2.ensures.value c.facts.ensures _ _ c.in_ok-first_deletes.ensures (stale_facts_is c.args.capacity c.args.a.now c.args.b.now c.requires.from c.requires.to c.in_ok-from.from.items c.in_ok-to.to.items c.in_ok-from.ensures.same c.in_ok-to.ensures.same) in
    let grown : c.new_places.result ≡ count_by (λ r. not (has_at r.of r.priority c.in_ok-from.from.items)) (first_adds c.args.a.now c.args.b.now) =
    counted (λ l r. not (has_at r.of r.priority l)) _ c.in_ok-from.from.items _ _ c.deref-6.ensures.value (c.deref-5.ensures.value ∙ first) _ c.new_places.ensures in
    let one : c.len.result + c.new_places.result ≡ peak_one c.args.a.now c.args.b.now = let n = peak_one_is c.args.capacity c.args.a.now c.args.b.now c.requires.from c.requires.to c.in_ok-from.from.items c.in_ok-to.to.items c.in_ok-from.ensures.same c.in_ok-to.ensures.same in let l = c.in_ok-from.from.ok in let m = c.len.ensures in omega (arith, n, l.0, m, grown) in
    let left : c.len-2.result ≡ length (first_deletes c.args.a.now c.args.b.now) = let l = c.in_ok-first_deletes.first_deletes.ok in let m = c.len-2.ensures in let n = ap length gone in omega (arith, l.0, m, n) in
    let second : c.in_ok-second_adds.second_adds.items ≡ second_adds c.args.a.now c.args.b.now =
    chosen (λ l r. not (is_in l r)) _ c.in_ok-from.from.items _ c.args.b.now.facts c.deref-3.ensures.value c.facts-2.ensures _ _ c.in_ok-second_adds.ensures (lacking_is c.args.capacity c.args.a.now c.args.b.now c.requires.from c.requires.to c.in_ok-from.from.items c.in_ok-to.to.items c.in_ok-from.ensures.same c.in_ok-to.ensures.same c.args.b.now.facts) in
    let beside : c.places_beside_barriers.result ≡ count_by (λ r. not (barrier_at c.in_ok-from.from.items r)) (second_adds c.args.a.now c.args.b.now) =
    counted (λ l r. not (barrier_at l r)) _ c.in_ok-from.from.items _ _ c.deref-8.ensures.value (c.deref-7.ensures.value ∙ second) _ c.places_beside_barriers.ensures in
    let two : ((c.len.result + c.new_places.result) - c.len-2.result) + c.places_beside_barriers.result ≡ peak_two c.args.a.now c.args.b.now =
    let n = peak_two_is c.args.capacity c.args.a.now c.args.b.now c.requires.from c.requires.to c.in_ok-from.from.items c.in_ok-to.to.items c.in_ok-from.ensures.same c.in_ok-to.ensures.same in omega (arith, n, one, left, beside) in
    c.is_over-over.ensures
    ∙ ap (λ p. nat_lt c.args.capacity p || nat_lt c.args.capacity (((c.len.result + c.new_places.result) - c.len-2.result) + c.places_beside_barriers.result)) one
    ∙ ap (λ p. nat_lt c.args.capacity (peak_one c.args.a.now c.args.b.now) || nat_lt c.args.capacity p) two
