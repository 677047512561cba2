-- What a change of a table keeps.
use Rattle.std.proofs.Common.{◌≡◌, ◌≢◌, ℕ, zero, suc, ◌<◌, ◌≤◌, true, false, List, length, get_or, set, refl, sym, ap, ◌∙◌, subst, ⊎_elim, arith}
use Rattle.std.specs.List.{AllPairs, insert, remove}
use Rattle.std.proofs.lemmas.Bool.{cases_order, cases_eq, cases_Bool, both_ways}
use Rattle.std.proofs.lemmas.List.{length-set, get_or-set_same, get_or-set_other}
use Rattle.std.proofs.lemmas.List.Edits.{length-insert, length-remove, get_or-insert_below, get_or-insert_at, get_or-insert_above}
use Rattle.std.proofs.lemmas.List.Quantifiers.{all_pairs_remove}
use Rattle.maple_base.specs.declared.key.Match.{Match}
use Rattle.maple_base.specs.declared.decision.Rule.{Rule}
use Rattle.maple_base.specs.Choice.{Differ, stands_above}
use Rattle.flow_table.specs.Effects.{is_at}
use Rattle.flow_table.specs.Orders.{IsNotAbove, IsKept, NoneAt, StandsAt, IsPlaceFor}
use Rattle.flow_table.proofs.Matches.{at_is, at_of}

module _ {X : Type 0} (R : X → X → Type 0) (xs : List X) (i : ℕ) (y : X) where
  -- what an insert leaves, place by place
  below : i ≤ length xs → (k : ℕ) (d : X) → k < i → get_or xs k d ≡ get_or (insert xs i y) k d
  below le k d h = sym (get_or-insert_below xs i y d k h le)

  at : i ≤ length xs → (d : X) → y ≡ get_or (insert xs i y) i d
  at le d = sym (get_or-insert_at xs i y d le)

  above : i ≤ length xs → (k : ℕ) (d : X) → i ≤ k → get_or xs k d ≡ get_or (insert xs i y) (suc k) d
  above le k d h = sym (ap (λ n. get_or (insert xs i y) n d) (omega arith) ∙ get_or-insert_above xs i y d k h le)

  -- a place ahead of one behind the insert
  ahead : i ≤ length xs → AllPairs R xs → ((k : ℕ) (d : X) → i ≤ k → k < length xs → R y (get_or xs k d)) → (a b : ℕ) (d : X) → a < suc b → i ≤ b → b < length xs → R (get_or (insert xs i y) a d) (get_or xs b d)
  ahead le pairs behind a b d lt more short =
      ⊎_elim
      (λ e. subst (λ n. R (get_or (insert xs i y) n d) (get_or xs b d)) (sym e) (subst (λ z. R z (get_or xs b d)) (at le d) (behind b d more short)))
      (λ h. ⊎_elim
      (λ less. subst (λ z. R z (get_or xs b d)) (below le a d less) (pairs a b d (omega arith) short))
      (λ beyond. later a lt beyond)
      h)
      (cases_order a i)
    where
      later : (a : ℕ) → a < suc b → i < a → R (get_or (insert xs i y) a d) (get_or xs b d)
      later zero lt beyond = absurd (omega arith)
      later (suc a) lt beyond = subst (λ z. R z (get_or xs b d)) (above le a d (omega arith)) (pairs a b d (omega arith) short)

  pub pairs_insert : i ≤ length xs → AllPairs R xs → ((k : ℕ) (d : X) → k < i → R (get_or xs k d) y) → ((k : ℕ) (d : X) → i ≤ k → k < length xs → R y (get_or xs k d)) → AllPairs R (insert xs i y)
  pairs_insert le pairs before behind a zero d lt within = absurd (omega arith)
  pairs_insert le pairs before behind a (suc b) d lt within =
      let long = length-insert xs i y le in
      ⊎_elim
      (λ e. subst (λ n. R (get_or (insert xs i y) a d) (get_or (insert xs i y) n d)) (sym e)
      (subst (λ z. R (get_or (insert xs i y) a d) z) (at le d) (subst (λ z. R z y) (below le a d (omega (arith, e))) (before a d (omega (arith, e))))))
      (λ h. ⊎_elim
      (λ less. subst (λ z. R (get_or (insert xs i y) a d) z) (below le (suc b) d less)
      (subst (λ z. R z (get_or xs (suc b) d)) (below le a d (omega arith)) (pairs a (suc b) d lt (omega arith))))
      (λ more. subst (λ z. R (get_or (insert xs i y) a d) z) (above le b d (omega arith)) (ahead le pairs behind a b d lt (omega arith) (omega arith)))
      h)
      (cases_order (suc b) i)

-- two rules of one match and one priority
abbrev Agree : Rule → Rule → Type 0
Agree r q = (r.of ≡ q.of) × (r.priority ≡ q.priority)

set_agrees : (rules : List Rule) (i : ℕ) (r : Rule) → i < length rules → ((d : Rule) → Agree (get_or rules i d) r) → (k : ℕ) (d : Rule) → Agree (get_or rules k d) (get_or (set rules i r) k d)
set_agrees rules i r within same k d =
    ⊎_elim
    (λ e. subst (λ n. Agree (get_or rules n d) (get_or (set rules i r) n d)) (sym e) (subst (λ z. Agree (get_or rules i d) z) (sym (get_or-set_same rules i r d within)) (same d)))
    (λ ne. subst (λ z. Agree (get_or rules k d) z) (sym (get_or-set_other rules i k r d ne)) (refl, refl))
    (cases_eq k i)

pub kept_set : (rules : List Rule) (capacity : ℕ) (i : ℕ) (r : Rule) → i < length rules → ((d : Rule) → Agree (get_or rules i d) r) → IsKept rules capacity → IsKept (set rules i r) capacity
kept_set rules capacity i r within same kept =
    let long = length-set rules i r in
    let agree = set_agrees rules i r within same in
    record {
      few = kept.few;
      room = omega (arith, kept.room);
      distinct = λ a b d lt short of priority.
          let x : Agree (get_or rules a d) (get_or (set rules i r) a d) = agree a d in
          let y : Agree (get_or rules b d) (get_or (set rules i r) b d) = agree b d in
          kept.distinct a b d lt (omega arith) (x.0 ∙ of ∙ sym y.0) (x.1 ∙ priority ∙ sym y.1);
      ordered = λ a b d lt short.
          let x : Agree (get_or rules a d) (get_or (set rules i r) a d) = agree a d in
          let y : Agree (get_or rules b d) (get_or (set rules i r) b d) = agree b d in
          let old = kept.ordered a b d lt (omega arith) in
          sym (same_standing (get_or rules b d) (get_or (set rules i r) b d) (get_or rules a d) (get_or (set rules i r) a d) y x) ∙ old;
    }
  where
    same_standing : (q u r s : Rule) → Agree q u → Agree r s → stands_above q r ≡ stands_above u s
    same_standing q u r s e f = cc

pub kept_insert : (rules : List Rule) (capacity : ℕ) (i : ℕ) (r : Rule) → length rules < capacity → NoneAt r.of r.priority rules → IsPlaceFor r rules i → IsKept rules capacity → IsKept (insert rules i r) capacity
kept_insert rules capacity i r short none place kept =
    let long = length-insert rules i r place.within in
    record {
      few = kept.few;
      room = omega arith;
      distinct = pairs_insert Differ rules i r place.within kept.distinct (λ k d lt of priority. differs k d (omega (arith, place.within)) of priority) (λ k d le lt of priority. differs k d lt (sym of) (sym priority));
      ordered = pairs_insert IsNotAbove rules i r place.within kept.ordered place.before place.behind;
    }
  where
    differs : (k : ℕ) (d : Rule) → k < length rules → (get_or rules k d).of ≡ r.of → (get_or rules k d).priority ≡ r.priority → ⊥
    differs k d lt of priority = both_ways _ (none k d lt) (at_of r.of r.priority (get_or rules k d) of priority)

pub kept_remove : (rules : List Rule) (capacity : ℕ) (i : ℕ) → i < length rules → IsKept rules capacity → IsKept (remove rules i) capacity
kept_remove rules capacity i within kept =
    let long = length-remove rules i within in
    record {
      few = kept.few;
      room = omega (arith, kept.room);
      distinct = all_pairs_remove Differ rules i within kept.distinct;
      ordered = all_pairs_remove IsNotAbove rules i within kept.ordered;
    }

-- no other rule has the match and the priority of the one at a place
pub others_differ : (of : Match) (priority : ℕ) (rules : List Rule) (i : ℕ) → AllPairs Differ rules → StandsAt of priority rules i → (k : ℕ) (d : Rule) → k < length rules → k ≢ i → is_at of priority (get_or rules k d) ≡ false
others_differ of priority rules i distinct at k d lt ne =
    ⊎_elim (λ yes. absurd (clash yes)) (λ n. n) (cases_Bool (is_at of priority (get_or rules k d)))
  where
    clash : is_at of priority (get_or rules k d) ≡ true → ⊥
    clash h =
        let x = at_is of priority (get_or rules k d) h in
        let y = at_is of priority (get_or rules i d) (at.at d) in
        ⊎_elim
        (λ e. ne e)
        (λ o. ⊎_elim
        (λ less. distinct k i d less at.within (x.0 ∙ sym y.0) (x.1 ∙ sym y.1))
        (λ more. distinct i k d more lt (y.0 ∙ sym x.0) (y.1 ∙ sym x.1))
        o)
        (cases_order k i)
