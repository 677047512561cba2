-- No change leads from one list of rules to another just where they are the same rules, up to order.
use Rattle.std.proofs.Common.{◌≡◌, ℕ, Bool, true, false, cond, List, [], ◌∷◌, ◌++◌, length, refl, sym, ap, ◌∙◌, subst, le-ltb, arith}
use Rattle.std.specs.Prelude.{Contains, map, not, ◌&&◌, ◌||◌, nat_lt, if◌then◌else◌, None}
use Rattle.std.specs.List.Sorted.{IsPermutation}
use Rattle.std.proofs.lemmas.Bool.{and_parts}
use Rattle.std.proofs.lemmas.List.Elements.{Contains-append_left, Contains-append_right}
use Rattle.std.proofs.lemmas.List.Sorted.{IsPermutation-refl, IsPermutation-sym, Contains-permutation}
use Rattle.maple_base.specs.declared.decision.Rule.{Rule}
use Rattle.maple_base.specs.declared.decision.TableMod.TheVariants.{Add}
use Rattle.maple_base.specs.RuleLists.{Rules}
use Rattle.flow_table.specs.Effects.{has_at, after}
use Rattle.update_plan.specs.Batches.{rules_of, no_rules, IsTarget, lacking, leaving, first_adds, first_deletes, second_adds, second_deletes, deletion, first_batch, second_batch, peak_one, peak_two, between, is_over, origin}
use Rattle.update_plan.specs.Laws.{KeepShield, ShieldLaw}
use Rattle.update_plan.proofs.Members.{here, there}
use Rattle.update_plan.proofs.Shielded.{in_has}
use Rattle.switch_session.specs.Parts.{is_nil, leads_nowhere}
use Rattle.switch_session.specs.Sessions.{heading, aimed_by}
use Rattle.switch_session.specs.Laws.{SettledLaw}

-- a list lacks none of the rules that it has, and none of them is to leave it
none_lacking : (X : Rules) (rules : List Rule) → ((r : Rule) → Contains rules r → Contains (rules_of X) r) → lacking X rules ≡ []
none_lacking X [] h = refl
none_lacking X (r ∷ rules) h = ap (λ b. cond (not b) (r ∷ lacking X rules) (lacking X rules)) (in_has X r (h r (here r rules))) ∙ none_lacking X rules (λ q c. h q (there r rules q c))

none_leaving : (X : Rules) (takers rules : List Rule) → ((r : Rule) → Contains rules r → Contains (rules_of X) r) → leaving X takers rules ≡ []
none_leaving X takers [] h = refl
none_leaving X takers (r ∷ rules) h =
    ap (λ b. cond (not b && not (has_at r.of r.priority takers)) (r ∷ leaving X takers rules) (leaving X takers rules)) (in_has X r (h r (here r rules)))
    ∙ none_leaving X takers rules (λ q c. h q (there r rules q c))

nil_is : {X : Type 0} (xs : List X) → is_nil xs ≡ true → xs ≡ []
nil_is [] h = refl
nil_is (x ∷ xs) h = absurd (cc)

not_true : (b : Bool) → not b ≡ true → b ≡ false
not_true true h = absurd (cc)
not_true false h = refl

module _ (capacity : ℕ) (A B : Rules) where
  -- lists of the same rules: no change leads from one to the other
  module _ (a : IsTarget capacity A) (same : IsPermutation (rules_of A) (rules_of B)) where
    to : (r : Rule) → Contains (rules_of A) r → Contains (rules_of B) r
    to r c = Contains-permutation (rules_of A) (rules_of B) r same c

    from : (r : Rule) → Contains (rules_of B) r → Contains (rules_of A) r
    from r c = Contains-permutation (rules_of B) (rules_of A) r (IsPermutation-sym _ _ same) c

    no_first_adds : first_adds A B ≡ []
    no_first_adds = none_lacking A B.barriers (λ r c. from r (Contains-append_right B.facts B.barriers r c))

    no_second_adds : second_adds A B ≡ []
    no_second_adds = none_lacking A B.facts (λ r c. from r (Contains-append_left B.facts B.barriers r c))

    no_first : first_batch A B ≡ []
    no_first =
        ap (λ l. map Add l ++ map deletion (first_deletes A B)) no_first_adds
        ∙ ap (map deletion) (none_leaving B (first_adds A B) A.facts (λ r c. to r (Contains-append_left A.facts A.barriers r c)))

    no_second : second_batch A B ≡ []
    no_second =
        ap (λ l. map Add l ++ map deletion (second_deletes A B)) no_second_adds
        ∙ ap (map deletion) (none_leaving B B.facts A.barriers (λ r c. to r (Contains-append_right A.facts A.barriers r c)))

    few : (n : ℕ) → n ≡ length (rules_of A) → nat_lt capacity n ≡ false
    few n e = let m = a.room in le-ltb capacity n (omega (arith, m, e))

    none_over : is_over capacity A B ≡ false
    none_over =
        let one = ap (λ l. length (after (map Add l) (rules_of A))) no_first_adds in
        let stays : between A B ≡ rules_of A = ap (λ l. after l (rules_of A)) no_first in
        let two = ap (λ l. length (after (map Add l) (between A B))) no_second_adds ∙ ap length stays in
        ap (λ b. b || nat_lt capacity (peak_two A B)) (few (peak_one A B) one) ∙ few (peak_two A B) two

    pub same_nowhere : leads_nowhere capacity A B ≡ true
    same_nowhere =
        ap (λ b. not b && is_nil (first_batch A B) && is_nil (second_batch A B)) none_over
        ∙ ap (λ l. is_nil l && is_nil (second_batch A B)) no_first
        ∙ ap is_nil no_second

  -- the empty batches lead to B, and to A
  pub nowhere_same : ShieldLaw → IsTarget capacity A → IsTarget capacity B → leads_nowhere capacity A B ≡ true → IsPermutation (rules_of A) (rules_of B)
  nowhere_same law a b h =
      let two = and_parts (not (is_over capacity A B) && is_nil (first_batch A B)) (is_nil (second_batch A B)) h in
      let one = and_parts (not (is_over capacity A B)) (is_nil (first_batch A B)) two.0 in
      let start : origin capacity A B ≡ A = ap (λ c. if c then no_rules else A) (not_true (is_over capacity A B) one.0) in
      let keeps : KeepShield capacity A B = subst (λ X. KeepShield capacity X B) start (law capacity A B a b) in
      let ends = keeps.ends (rules_of A) (first_batch A B) (second_batch A B) (IsPermutation-refl _) (IsPermutation-refl _) (IsPermutation-refl _) in
      let later = subst (λ l. IsPermutation (rules_of B) (after (second_batch A B) (after l (rules_of A)))) (nil_is (first_batch A B) one.1) ends in
      IsPermutation-sym _ _ (subst (λ l. IsPermutation (rules_of B) (after l (rules_of A))) (nil_is (second_batch A B) two.1) later)

pub settled_law : ShieldLaw → SettledLaw
settled_law law s X update a b is = record {
  same = λ e. nowhere_same s.capacity (heading s) X law a b (sym is.settled ∙ e);
  settled = settles;
  unchanged = λ same. ap (λ c. aimed_by c s.under_way update (record s { prepared = None })) (settles same);
}
  where
    settles : IsPermutation (rules_of (heading s)) (rules_of X) → update.settled ≡ true
    settles same = is.settled ∙ same_nowhere s.capacity (heading s) X a same
