-- During the batches the table is shielded and has room.
use Rattle.std.proofs.Common.{◌≡◌, ◌⊎◌, ℕ, ◌+◌, ◌≤◌, Bool, true, false, List, [], length, refl, sym, subst, inl, inr, ltb-false, length-append, arith}
use Rattle.std.specs.Prelude.{Contains, filter, map, not, ◌||◌, nat_lt, if◌then◌else◌}
use Rattle.std.specs.List.{AllPairs}
use Rattle.std.specs.List.Sorted.{IsPermutation}
use Rattle.std.proofs.lemmas.List.{length-map}
use Rattle.std.proofs.lemmas.List.Sums.{length-filter, count_by-le-length}
use Rattle.std.proofs.lemmas.List.Sorted.{IsPermutation-refl, IsPermutation-sym, IsPermutation-map, IsPermutation-append, Contains-permutation}
use Rattle.std.proofs.lemmas.List.Elements.{Contains-append_left, Contains-append_right}
use Rattle.maple_base.specs.declared.decision.Rule.{Rule}
use Rattle.maple_base.specs.declared.decision.TableMod.{TableMod}
use Rattle.maple_base.specs.declared.decision.TableMod.TheVariants.{Add}
use Rattle.maple_base.specs.RuleLists.{Rules}
use Rattle.maple_base.specs.Choice.{Differ}
use Rattle.flow_table.specs.Effects.{after}
use Rattle.update_plan.specs.Batches.{rules_of, no_rules, IsTarget, has_rule, leaving, first_adds, first_deletes, second_adds, second_deletes, deletion, batch, first_batch, second_batch, peak_one, between, peak_two, is_over, origin}
use Rattle.update_plan.specs.Laws.{AreFrom, IsSafe, KeepShield, AreShort, ShieldLaw, LengthLaw, SentLaw, IsDuring, InFirst, InSecond, StepsKeep, StepLaw}
use Rattle.update_plan.proofs.Members.{none_in, pairs_none}
use Rattle.update_plan.proofs.Distinct.{no_more}
use Rattle.update_plan.proofs.During.{during_begins, one_more, after_during, done_with, is_done, within_peak}
use Rattle.update_plan.proofs.Shielded.{in_lacking, first_apart, second_apart, first_shields, second_begins, second_shields, second_ends, between_during, done_first}

-- there is room for the batches
record HasRoom (capacity : ℕ) (A B : Rules) : Type 0 where
  one : peak_one A B ≤ capacity
  two : peak_two A B ≤ capacity

-- what the additions alone leave
pub adds_leave : (start adds : List Rule) → AllPairs Differ start → AllPairs Differ adds → IsDuring start adds [] (done_with start adds [] [] (map Add adds)) (after (map Add adds) start)
adds_leave start adds d e =
    after_during start adds [] record { distinct = e; parted = λ r q c x s. none_in r c } [] (map Add adds) start (λ m c. Contains-append_left (map Add adds) (map deletion []) m c) (during_begins start adds [] start d (IsPermutation-refl start))

-- so many distinct rules of a list
few : (rules table : List Rule) → AllPairs Differ table → ((r : Rule) → Contains table r → Contains rules r) → length table ≤ length rules
few rules table d h = no_more table rules d (λ r c. (r, h r c, (refl, refl)))

module _ (capacity : ℕ) (B : Rules) (b : IsTarget capacity B) where
  pub no_target : IsTarget capacity no_rules
  no_target = record { room = omega arith; distinct = pairs_none Differ; fact = λ r c. absurd (none_in r c); barrier = λ r c. absurd (none_in r c); plain = λ r c. absurd (none_in r c) }

  -- from no rules there is always room
  no_room : HasRoom capacity no_rules B
  no_room = record {
    one = let n = few (rules_of B) (after (map Add (first_adds no_rules B)) []) first.distinct (λ r c. as_first r (first.came r c)) in let m = b.room in omega (arith, n, m);
    two = let n = few (rules_of B) (after (map Add (second_adds no_rules B)) (between no_rules B)) second.distinct (λ r c. as_second r (second.came r c)) in let m = b.room in omega (arith, n, m);
  }
    where
      here : InFirst no_rules B (done_first capacity no_rules B no_target b) (between no_rules B)
      here = between_during capacity no_rules B no_target b

      first : IsDuring [] (first_adds no_rules B) [] (done_with [] (first_adds no_rules B) [] [] (map Add (first_adds no_rules B))) (after (map Add (first_adds no_rules B)) [])
      first = adds_leave [] (first_adds no_rules B) (pairs_none Differ) (first_apart capacity no_rules B no_target b).distinct

      second : IsDuring (between no_rules B) (second_adds no_rules B) [] (done_with (between no_rules B) (second_adds no_rules B) [] [] (map Add (second_adds no_rules B))) (after (map Add (second_adds no_rules B)) (between no_rules B))
      second = adds_leave (between no_rules B) (second_adds no_rules B) here.distinct (second_apart capacity no_rules B no_target b).distinct

      as_first : (r : Rule) → Contains [] r ⊎ Contains (first_adds no_rules B) r → Contains (rules_of B) r
      as_first r (inl c) = absurd (none_in r c)
      as_first r (inr c) = Contains-append_right B.facts B.barriers r (in_lacking no_rules B.barriers r c).0

      as_second : (r : Rule) → Contains (between no_rules B) r ⊎ Contains (second_adds no_rules B) r → Contains (rules_of B) r
      as_second r (inl c) = as_first r (here.came r c)
      as_second r (inr c) = Contains-append_left B.facts B.barriers r (in_lacking no_rules B.facts r c).0

module _ (capacity : ℕ) (A B : Rules) (a : IsTarget capacity A) (b : IsTarget capacity B) where
  room_from : is_over capacity A B ≡ false → HasRoom capacity A B
  room_from h = step (nat_lt capacity (peak_one A B)) (nat_lt capacity (peak_two A B)) refl refl h
    where
      step : (x y : Bool) → nat_lt capacity (peak_one A B) ≡ x → nat_lt capacity (peak_two A B) ≡ y → (x || y) ≡ false → HasRoom capacity A B
      step true y p q h = absurd (cc)
      step false true p q h = absurd (cc)
      step false false p q h = record { one = ltb-false capacity (peak_one A B) p; two = ltb-false capacity (peak_two A B) q }

  -- the batches lead from a list of which all this holds
  record IsOrigin (S : Rules) : Type 0 where
    target : IsTarget capacity S
    room : HasRoom capacity S B

  origin_is : IsOrigin (origin capacity A B)
  origin_is = step (is_over capacity A B) refl
    where
      step : (over : Bool) → is_over capacity A B ≡ over → IsOrigin (if over then no_rules else A)
      step true e = record { target = no_target capacity B b; room = no_room capacity B b }
      step false e = record { target = a; room = room_from e }

module _ (capacity : ℕ) (A B : Rules) (a : IsTarget capacity A) (b : IsTarget capacity B) (room : HasRoom capacity A B) where
  first_safe : (done : List TableMod) (table : List Rule) → InFirst A B done table → IsSafe capacity A table
  first_safe done table h = record {
    shielded = first_shields capacity A B a b done table h;
    room = let n = within_peak (rules_of A) (first_adds A B) (first_deletes A B) done table h in let m = room.one in omega (arith, n, m);
  }

  second_safe : (done : List TableMod) (table : List Rule) → InSecond A B done table → IsSafe capacity B table
  second_safe done table h = record {
    shielded = second_shields capacity A B a b done table h;
    room = let n = within_peak (between A B) (second_adds A B) (second_deletes A B) done table h in let m = room.two in omega (arith, n, m);
  }

  steps_keep : StepsKeep capacity A B
  steps_keep = record {
    first_begins = λ table moves. during_begins (rules_of A) (first_adds A B) (first_deletes A B) table a.distinct moves;
    first_more = one_more (rules_of A) (first_adds A B) (first_deletes A B) (first_apart capacity A B a b);
    first_safe = first_safe;
    second_begins = second_begins capacity A B a b;
    second_more = one_more (between A B) (second_adds A B) (second_deletes A B) (second_apart capacity A B a b);
    second_safe = second_safe;
    ends = second_ends capacity A B a b;
  }

  -- a list of changes
  in_first : (table : List Rule) (ms : List TableMod) → IsPermutation (rules_of A) table → AreFrom (first_batch A B) ms → InFirst A B (done_with (rules_of A) (first_adds A B) (first_deletes A B) [] ms) (after ms table)
  in_first table ms moves from = after_during (rules_of A) (first_adds A B) (first_deletes A B) (first_apart capacity A B a b) [] ms table from (steps_keep.first_begins table moves)

  begun : (table : List Rule) (whole : List TableMod) → IsPermutation (rules_of A) table → IsPermutation (first_batch A B) whole → InSecond A B [] (after whole table)
  begun table whole moves all =
      steps_keep.second_begins (done_with (rules_of A) (first_adds A B) (first_deletes A B) [] whole) (after whole table) (λ m c. is_done (rules_of A) (first_adds A B) (first_deletes A B) [] whole m (Contains-permutation (first_batch A B) whole m all c))
      (in_first table whole moves (λ m c. Contains-permutation whole (first_batch A B) m (IsPermutation-sym (first_batch A B) whole all) c))

  in_second : (table : List Rule) (whole ms : List TableMod) → IsPermutation (rules_of A) table → IsPermutation (first_batch A B) whole → AreFrom (second_batch A B) ms
      → InSecond A B (done_with (between A B) (second_adds A B) (second_deletes A B) [] ms) (after ms (after whole table))
  in_second table whole ms moves all from = after_during (between A B) (second_adds A B) (second_deletes A B) (second_apart capacity A B a b) [] ms (after whole table) from (begun table whole moves all)

  keep_shield : KeepShield capacity A B
  keep_shield = record {
    first = λ table ms moves from. first_safe (done_with (rules_of A) (first_adds A B) (first_deletes A B) [] ms) (after ms table) (in_first table ms moves from);
    second = λ table whole ms moves all from. second_safe (done_with (between A B) (second_adds A B) (second_deletes A B) [] ms) (after ms (after whole table)) (in_second table whole ms moves all from);
    ends = λ table whole rest moves all both. steps_keep.ends (done_with (between A B) (second_adds A B) (second_deletes A B) [] rest) (after rest (after whole table))
        (λ m c. is_done (between A B) (second_adds A B) (second_deletes A B) [] rest m (Contains-permutation (second_batch A B) rest m both c))
        (in_second table whole rest moves all (λ m c. Contains-permutation rest (second_batch A B) m (IsPermutation-sym (second_batch A B) rest both) c));
  }

pub shield_law : ShieldLaw
shield_law capacity A B a b = let o = origin_is capacity A B a b in keep_shield capacity (origin capacity A B) B o.target b o.room

pub step_law : StepLaw
step_law capacity A B a b = let o = origin_is capacity A B a b in steps_keep capacity (origin capacity A B) B o.target b o.room

-- how many changes a batch has
length_batch : (adds deletes : List Rule) → length (batch adds deletes) ≡ length adds + length deletes
length_batch adds deletes = let n = length-append (map Add adds) (map deletion deletes) in let m = length-map adds Add in let k = length-map deletes deletion in omega (arith, n, m, k)

some_of : (test : Rule → Bool) (rules : List Rule) → length (filter test rules) ≤ length rules
some_of test rules = let n = length-filter test rules in let m = count_by-le-length test rules in omega (arith, n, m)

short : (capacity : ℕ) (A B : Rules) → IsTarget capacity A → IsTarget capacity B → capacity ≤ 65535 → AreShort A B
short capacity A B a b most =
    let l = length-append A.facts A.barriers in
    let m = length-append B.facts B.barriers in
    let x = a.room in
    let y = b.room in
    record {
      first = let n = length_batch (first_adds A B) (first_deletes A B) in let p = some_of (λ r. not (has_rule A r)) B.barriers in let q = leaves B (first_adds A B) A.facts in omega (arith, l, m, n, p, q, x, y, most);
      second = let n = length_batch (second_adds A B) (second_deletes A B) in let p = some_of (λ r. not (has_rule A r)) B.facts in let q = leaves B B.facts A.barriers in omega (arith, l, m, n, p, q, x, y, most);
    }
  where
    leaves : (X : Rules) (takers rules : List Rule) → length (leaving X takers rules) ≤ length rules
    leaves X takers rules = some_of _ rules

pub length_law : LengthLaw
length_law capacity A B a b most = let o = origin_is capacity A B a b in short capacity (origin capacity A B) B o.target b most

pub sent_law : SentLaw
sent_law adds deletes mods s =
    subst (IsPermutation (batch adds deletes)) (sym s.is) (IsPermutation-append (map Add adds) (map Add s.first) (map deletion deletes) (map deletion s.rest) (IsPermutation-map Add adds s.first s.adds_put.same) (IsPermutation-map deletion deletes s.rest s.deletes_put.same))
