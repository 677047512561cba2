-- What the tests of a list of rules tell.
use Rattle.std.proofs.Common.{◌≡◌, ◌⊎◌, ℕ, Bool, true, false, List, [], ◌∷◌, length, refl, sym, ap, ◌∙◌, inl, inr, leb-true, eqb-true}
use Rattle.std.specs.Prelude.{Contains, not, ◌&&◌, ◌==◌, nat_le}
use Rattle.std.specs.List.{AllPairs, list_all}
use Rattle.std.proofs.lemmas.Bool.{and_parts}
use Rattle.maple_base.specs.declared.decision.Rule.{Rule}
use Rattle.maple_base.specs.RuleLists.{Rules}
use Rattle.maple_base.specs.Choice.{Differ}
use Rattle.flow_table.specs.Effects.{is_at, has_at}
use Rattle.update_plan.specs.Batches.{IsTarget, rules_of}
use Rattle.update_plan.specs.Lookups.{is_barrier}
use Rattle.update_plan.proofs.Members.{none_in, in_cons, any_none, pairs_none, pairs_cons}
use Rattle.update_plan.proofs.Distinct.{agree_at}
use Rattle.update_plan.proofs.Lists.{sends, sent}
use Rattle.machine_cases.specs.Targets.{are_distinct, are_facts, is_plain_barrier, are_barriers, is_target}

not_true : (b : Bool) → not b ≡ true → b ≡ false
not_true true h = absurd (cc)
not_true false h = refl

distinct_are : (rules : List Rule) → are_distinct rules ≡ true → AllPairs Differ rules
distinct_are [] h = pairs_none Differ
distinct_are (r ∷ rules) h =
    let p = and_parts (not (has_at r.of r.priority rules)) (are_distinct rules) h in
    pairs_cons Differ r rules (λ q c of priority. any_none (is_at r.of r.priority) rules q (not_true _ p.0) c (agree_at r q (sym of, sym priority))) (distinct_are rules p.1)

each : {X : Type 0} (p : X → Bool) (xs : List X) → list_all p xs ≡ true → (x : X) → Contains xs x → p x ≡ true
each p [] h x c = absurd (none_in x c)
each p (y ∷ ys) h x c = step (and_parts (p y) (list_all p ys) h).0 (each p ys (and_parts (p y) (list_all p ys) h).1 x) (in_cons y ys x c)
  where
    step : p y ≡ true → (Contains ys x → p x ≡ true) → (y ≡ x) ⊎ Contains ys x → p x ≡ true
    step first later (inl e) = ap p (sym e) ∙ first
    step first later (inr d) = later d

pub target_is : (capacity : ℕ) (X : Rules) → is_target capacity X ≡ true → IsTarget capacity X
target_is capacity X h =
    let a = and_parts (nat_le (length (rules_of X)) capacity && are_distinct (rules_of X) && are_facts X.facts) (are_barriers X.barriers) h in
    let b = and_parts (nat_le (length (rules_of X)) capacity && are_distinct (rules_of X)) (are_facts X.facts) a.0 in
    let d = and_parts (nat_le (length (rules_of X)) capacity) (are_distinct (rules_of X)) b.0 in
    record {
      room = leb-true (length (rules_of X)) capacity d.0;
      distinct = distinct_are (rules_of X) d.1;
      fact = λ r c e. (let f = each (λ q. not (is_barrier q)) X.facts b.1 r c in let g = sent r e in absurd (cc));
      barrier = λ r c. sends r (and_parts (is_barrier r) (r.cookie == 0) (plain r c).0).0;
      plain = λ r c. (eqb-true r.cookie 0 (and_parts (is_barrier r) (r.cookie == 0) (plain r c).0).1, eqb-true r.idle 0 (plain r c).1);
    }
  where
    plain : (r : Rule) → Contains X.barriers r → ((is_barrier r && r.cookie == 0) ≡ true) × ((r.idle == 0) ≡ true)
    plain r c = and_parts (is_barrier r && r.cookie == 0) (r.idle == 0) (each is_plain_barrier X.barriers (and_parts (nat_le (length (rules_of X)) capacity && are_distinct (rules_of X) && are_facts X.facts) (are_barriers X.barriers) h).1 r c)
