-- How many rules changes leave.
use Rattle.std.proofs.Common.{◌≡◌, ℕ, suc, ◌+◌, Bool, true, false, cond, List, [], ◌∷◌, ◌++◌, length, refl, sym, ap, ◌∙◌, ⊎_elim, arith}
use Rattle.std.specs.Prelude.{Contains, filter, map, not, ◌||◌}
use Rattle.std.specs.List.{AllPairs, count_by}
use Rattle.std.proofs.lemmas.Bool.{cases_Bool}
use Rattle.std.proofs.lemmas.List.Sums.{sum_by-cons}
use Rattle.maple_base.specs.declared.decision.Rule.{Rule}
use Rattle.maple_base.specs.declared.decision.TableMod.{TableMod}
use Rattle.maple_base.specs.declared.decision.TableMod.TheVariants.{Add}
use Rattle.maple_base.specs.Choice.{Differ}
use Rattle.flow_table.specs.Effects.{is_at, has_at, others, effect, after}
use Rattle.update_plan.specs.Batches.{deletion}
use Rattle.update_plan.proofs.Members.{here, there, in_cons, none_any, in_any, any_none, pairs_head, pairs_tail, pairs_cons, pairs_filter}
use Rattle.update_plan.proofs.Distinct.{Agree, agree_at, at_agree, turned, chained}
use Rattle.update_plan.proofs.During.{at_in, in_others, others_in}

module _ {X : Type 0} (p q : X → Bool) where
  -- tests that agree at each element keep, and count, the same
  pub filter_on : (xs : List X) → ((x : X) → Contains xs x → p x ≡ q x) → filter p xs ≡ filter q xs
  filter_on [] h = refl
  filter_on (x ∷ xs) h = ap (λ b. cond b (x ∷ filter p xs) (filter p xs)) (h x (here x xs)) ∙ ap (λ l. cond (q x) (x ∷ l) l) (filter_on xs (λ y c. h y (there x xs y c)))

  pub count_on : (xs : List X) → ((x : X) → Contains xs x → p x ≡ q x) → count_by p xs ≡ count_by q xs
  count_on [] h = refl
  count_on (x ∷ xs) h =
      let later = count_on xs (λ y c. h y (there x xs y c)) in
      let m = sum_by-cons (λ y. cond (p y) 1 0) x xs in
      let n = sum_by-cons (λ y. cond (q y) 1 0) x xs in
      m ∙ ap (λ b. cond b 1 0 + count_by p xs) (h x (here x xs)) ∙ ap (λ k. cond (q x) 1 0 + k) later ∙ sym n

-- what a look-up chooses and counts, at the list that was looked up and the rules that were given
module _ (p : List Rule → Rule → Bool) (index from rules given : List Rule) (e : index ≡ from) (f : rules ≡ given) where
  pub chosen : (xs want : List Rule) → xs ≡ filter (p index) rules → filter (p from) given ≡ want → xs ≡ want
  chosen xs want g h = g ∙ ap (λ l. filter (p l) rules) e ∙ ap (filter (p from)) f ∙ h

  pub counted : (n : ℕ) → n ≡ count_by (p index) rules → n ≡ count_by (p from) given
  counted n g = g ∙ ap (λ l. count_by (p l) rules) e ∙ ap (count_by (p from)) f

pub after_append : (xs ys : List TableMod) (rules : List Rule) → after (xs ++ ys) rules ≡ after ys (after xs rules)
after_append [] ys rules = refl
after_append (m ∷ xs) ys rules = after_append xs ys (effect m rules)

-- one number for a test
abbrev pub as_one : Bool → ℕ
as_one b = cond b 1 0

one_is : as_one true ≡ 1
one_is = refl

none_is : as_one false ≡ 0
none_is = refl

length_filter_none : (x : Rule) (rules : List Rule) → ((q : Rule) → Contains rules q → Agree q x → ⊥) → length (others x.of x.priority rules) ≡ length rules
length_filter_none x [] h = refl
length_filter_none x (r ∷ rules) h = step (is_at x.of x.priority r) refl (length_filter_none x rules (λ q c. h q (there r rules q c)))
  where
    step : (b : Bool) → is_at x.of x.priority r ≡ b → length (others x.of x.priority rules) ≡ length rules → length (cond (not b) (r ∷ others x.of x.priority rules) (others x.of x.priority rules)) ≡ suc (length rules)
    step true e later = absurd (h r (here r rules) (at_agree x r e))
    step false e later = ap suc later

-- of distinct rules at most one is at a match and priority
pub length_others : (x : Rule) (rules : List Rule) → AllPairs Differ rules → length (others x.of x.priority rules) + as_one (has_at x.of x.priority rules) ≡ length rules
length_others x [] d = let n = none_is in omega (arith, n)
length_others x (r ∷ rules) d = step (is_at x.of x.priority r) refl (length_others x rules (pairs_tail Differ r rules d))
  where
    step : (b : Bool) → is_at x.of x.priority r ≡ b → length (others x.of x.priority rules) + as_one (has_at x.of x.priority rules) ≡ length rules
        → length (cond (not b) (r ∷ others x.of x.priority rules) (others x.of x.priority rules)) + as_one (b || has_at x.of x.priority rules) ≡ suc (length rules)
    step true e later =
        let n = length_filter_none x rules (λ q c s. let t = chained r x q (at_agree x r e) (turned q x s) in pairs_head Differ r rules d q c t.0 t.1) in
        let m = one_is in
        omega (arith, n, m)
    step false e later = omega (arith, later)

-- another rule at x's place changes nothing at the place of a rule that differs from x
pub same_place : (x r : Rule) (rules : List Rule) → Differ x r → has_at r.of r.priority (effect (Add x) rules) ≡ has_at r.of r.priority rules
same_place x r rules differ =
    ⊎_elim (λ e. let t = at_in r rules e in
    in_any (is_at r.of r.priority) (effect (Add x) rules) t.0 (there x (others x.of x.priority rules) t.0 (others_in x t.0 rules t.1 (λ s. let u = chained x t.0 r (turned t.0 x s) t.2 in differ u.0 u.1))) (agree_at r t.0 t.2) ∙ sym e)
    (λ e. none_any (is_at r.of r.priority) (effect (Add x) rules) (λ q c h. step q h e c) ∙ sym e)
    (cases_Bool (has_at r.of r.priority rules))
  where
    step : (q : Rule) → is_at r.of r.priority q ≡ true → has_at r.of r.priority rules ≡ false → Contains (effect (Add x) rules) q → ⊥
    step q h e c = ⊎_elim (λ f. let s = at_agree r q h in let of = ap (λ (y : Rule). y.of) f ∙ s.0 in let priority = ap (λ (y : Rule). y.priority) f ∙ s.1 in differ of priority)
        (λ d. any_none (is_at r.of r.priority) rules q e (in_others x q rules d).0 h) (in_cons x (others x.of x.priority rules) q c)

distinct_add : (x : Rule) (rules : List Rule) → AllPairs Differ rules → AllPairs Differ (effect (Add x) rules)
distinct_add x rules d = pairs_cons Differ x (others x.of x.priority rules) (λ q c of priority. (in_others x q rules c).1 (sym of, sym priority)) (pairs_filter Differ (λ q. not (is_at x.of x.priority q)) rules d)

-- additions bring a rule for each match and priority that is new
pub length_adds : (adds rules : List Rule) → AllPairs Differ adds → AllPairs Differ rules → length (after (map Add adds) rules) ≡ length rules + count_by (λ r. not (has_at r.of r.priority rules)) adds
length_adds [] rules d e = omega arith
length_adds (x ∷ adds) rules d e =
    step (has_at x.of x.priority rules) refl (length_adds adds (effect (Add x) rules) (pairs_tail Differ x adds d) (distinct_add x rules e))
    (count_on (λ r. not (has_at r.of r.priority (effect (Add x) rules))) (λ r. not (has_at r.of r.priority rules)) adds (λ r c. ap not (same_place x r rules (pairs_head Differ x adds d r c))))
    (length_others x rules e)
    (sum_by-cons (λ r. as_one (not (has_at r.of r.priority rules))) x adds)
  where
    step : (b : Bool) → has_at x.of x.priority rules ≡ b → length (after (map Add adds) (effect (Add x) rules)) ≡ length (effect (Add x) rules) + count_by (λ r. not (has_at r.of r.priority (effect (Add x) rules))) adds
        → count_by (λ r. not (has_at r.of r.priority (effect (Add x) rules))) adds ≡ count_by (λ r. not (has_at r.of r.priority rules)) adds
        → length (others x.of x.priority rules) + as_one (has_at x.of x.priority rules) ≡ length rules
        → count_by (λ r. not (has_at r.of r.priority rules)) (x ∷ adds) ≡ as_one (not (has_at x.of x.priority rules)) + count_by (λ r. not (has_at r.of r.priority rules)) adds
        → length (after (map Add adds) (effect (Add x) rules)) ≡ length rules + count_by (λ r. not (has_at r.of r.priority rules)) (x ∷ adds)
    step true h later same left more =
        let f = ap as_one h ∙ one_is in
        let g = ap (λ b. as_one (not b)) h ∙ none_is in
        omega (arith, later, same, left, more, f, g)
    step false h later same left more =
        let f = ap as_one h ∙ none_is in
        let g = ap (λ b. as_one (not b)) h ∙ one_is in
        omega (arith, later, same, left, more, f, g)

-- deletions take one for each
pub length_deletes : (deletes rules : List Rule) → AllPairs Differ deletes → AllPairs Differ rules → ((r : Rule) → Contains deletes r → has_at r.of r.priority rules ≡ true) → length (after (map deletion deletes) rules) + length deletes ≡ length rules
length_deletes [] rules d e h = omega arith
length_deletes (x ∷ deletes) rules d e h =
    let later = length_deletes deletes (others x.of x.priority rules) (pairs_tail Differ x deletes d) (pairs_filter Differ (λ q. not (is_at x.of x.priority q)) rules e) (λ r c. stays r (pairs_head Differ x deletes d r c) (at_in r rules (h r (there x deletes r c)))) in
    let n = length_others x rules e in
    let m = ap as_one (h x (here x deletes)) ∙ one_is in
    omega (arith, later, n, m)
  where
    stays : (r : Rule) → Differ x r → (q : Rule) × Contains rules q × Agree q r → has_at r.of r.priority (others x.of x.priority rules) ≡ true
    stays r differ t = in_any (is_at r.of r.priority) (others x.of x.priority rules) t.0 (others_in x t.0 rules t.1 (λ s. let u = chained x t.0 r (turned t.0 x s) t.2 in differ u.0 u.1)) (agree_at r t.0 t.2)
