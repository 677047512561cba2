-- Rules that differ in match or priority, whatever their order.
use Rattle.std.proofs.Common.{◌≡◌, ◌⊎◌, ℕ, ◌+◌, ◌≤◌, Bool, true, false, cond, List, [], ◌∷◌, length, refl, sym, ap, ◌∙◌, inl, inr, arith}
use Rattle.std.specs.Prelude.{Contains}
use Rattle.std.specs.List.{AllPairs, count_by, remove}
use Rattle.std.specs.List.Sorted.{IsPermutation}
use Rattle.std.proofs.lemmas.List.Sums.{sum_by-cons}
use Rattle.std.proofs.lemmas.List.Edits.{length-remove}
use Rattle.std.proofs.lemmas.List.Sorted.{IsPermutation-refl, IsPermutation-sym, IsPermutation-cons, IsPermutation-trans, IsPermutation-remove, Contains-permutation, sum_by-IsPermutation}
use Rattle.maple_base.specs.declared.key.Match.{Match}
use Rattle.maple_base.specs.declared.decision.Rule.{Rule}
use Rattle.maple_base.specs.Choice.{Differ}
use Rattle.flow_table.specs.Effects.{is_at}
use Rattle.flow_table.proofs.Matches.{at_is, at_of}
use Rattle.update_plan.proofs.Members.{none_in, here, there, in_cons, pairs_head, pairs_tail, pairs_cons, pairs_none}

-- two rules agree in match and priority
abbrev pub Agree : Rule → Rule → Type 0
Agree r q = (r.of ≡ q.of) × (r.priority ≡ q.priority)

pub agree_at : (r q : Rule) → Agree q r → is_at r.of r.priority q ≡ true
agree_at r q s = at_of r.of r.priority q s.0 s.1

pub at_agree : (r q : Rule) → is_at r.of r.priority q ≡ true → Agree q r
at_agree r q h = at_is r.of r.priority q h

pub turned : (r q : Rule) → Agree r q → Agree q r
turned r q s = (sym s.0, sym s.1)

pub chained : (r q x : Rule) → Agree r q → Agree q x → Agree r x
chained r q x s t = (s.0 ∙ t.0, s.1 ∙ t.1)

pub equal_agree : (r q : Rule) → r ≡ q → Agree r q
equal_agree r q e = (ap (λ (x : Rule). x.of) e, ap (λ (x : Rule). x.priority) e)

-- of distinct rules those that agree are one
pub one_of : (rules : List Rule) (r q : Rule) → AllPairs Differ rules → Contains rules r → Contains rules q → Agree r q → r ≡ q
one_of [] r q d c e s = absurd (none_in r c)
one_of (x ∷ rules) r q d c e s = step (λ a b. one_of rules r q (pairs_tail Differ x rules d) a b s) (in_cons x rules r c) (in_cons x rules q e)
  where
    step : (Contains rules r → Contains rules q → r ≡ q) → (x ≡ r) ⊎ Contains rules r → (x ≡ q) ⊎ Contains rules q → r ≡ q
    step later (inl a) (inl b) = sym a ∙ b
    step later (inl a) (inr b) = absurd (pairs_head Differ x rules d q b (ap (λ (y : Rule). y.of) a ∙ s.0) (ap (λ (y : Rule). y.priority) a ∙ s.1))
    step later (inr a) (inl b) = absurd (pairs_head Differ x rules d r a (ap (λ (y : Rule). y.of) b ∙ sym s.0) (ap (λ (y : Rule). y.priority) b ∙ sym s.1))
    step later (inr a) (inr b) = later a b

-- how many rules have this match and this priority
count_at : Match → ℕ → List Rule → ℕ
count_at of priority rules = count_by (is_at of priority) rules

module _ (of : Match) (priority : ℕ) where
  one_if : Rule → ℕ
  one_if r = cond (is_at of priority r) 1 0

  is_one : (r : Rule) → is_at of priority r ≡ true → one_if r ≡ 1
  unfolding one_if
  is_one r e = ap (λ b. cond b 1 0) e

  is_none : (r : Rule) → is_at of priority r ≡ false → one_if r ≡ 0
  unfolding one_if
  is_none r e = ap (λ b. cond b 1 0) e

  count_cons : (r : Rule) (rules : List Rule) → count_at of priority (r ∷ rules) ≡ one_if r + count_at of priority rules
  unfolding count_at one_if
  count_cons r rules = sum_by-cons (λ x. cond (is_at of priority x) 1 0) r rules

  no_count : count_at of priority [] ≡ 0
  unfolding count_at
  no_count = refl

  count_none : (rules : List Rule) → ((r : Rule) → Contains rules r → is_at of priority r ≡ true → ⊥) → count_at of priority rules ≡ 0
  count_none [] none = no_count
  count_none (r ∷ rules) none = step (is_at of priority r) refl (count_none rules (λ x c. none x (there r rules x c)))
    where
      step : (b : Bool) → is_at of priority r ≡ b → count_at of priority rules ≡ 0 → count_at of priority (r ∷ rules) ≡ 0
      step true e later = absurd (none r (here r rules) e)
      step false e later = let n = count_cons r rules in let y = is_none r e in omega (arith, n, y, later)

  count_some : (rules : List Rule) (r : Rule) → Contains rules r → is_at of priority r ≡ true → 1 ≤ count_at of priority rules
  count_some [] r c h = absurd (none_in r c)
  count_some (x ∷ rules) r c h = step (λ d. count_some rules r d h) (in_cons x rules r c)
    where
      step : (Contains rules r → 1 ≤ count_at of priority rules) → (x ≡ r) ⊎ Contains rules r → 1 ≤ count_at of priority (x ∷ rules)
      step later (inl e) = let n = count_cons x rules in let y = is_one x (ap (is_at of priority) e ∙ h) in omega (arith, n, y)
      step later (inr d) = let n = count_cons x rules in let m = later d in omega (arith, n, m)

  distinct_count : (rules : List Rule) → AllPairs Differ rules → count_at of priority rules ≤ 1
  distinct_count [] d = let n = count_none [] (λ r c. absurd (none_in r c)) in omega (arith, n)
  distinct_count (r ∷ rules) d = step (is_at of priority r) refl (distinct_count rules (pairs_tail Differ r rules d))
    where
      step : (b : Bool) → is_at of priority r ≡ b → count_at of priority rules ≤ 1 → count_at of priority (r ∷ rules) ≤ 1
      step true e later =
          let none = count_none rules (λ x c h. let s = at_is of priority r e in let t = at_is of priority x h in pairs_head Differ r rules d x c (s.0 ∙ sym t.0) (s.1 ∙ sym t.1)) in
          let n = count_cons r rules in
          let y = is_one r e in
          omega (arith, n, none, y)
      step false e later = let n = count_cons r rules in let y = is_none r e in omega (arith, n, later, y)

count_distinct : (rules : List Rule) → ((of : Match) (priority : ℕ) → count_at of priority rules ≤ 1) → AllPairs Differ rules
count_distinct [] few = pairs_none Differ
count_distinct (r ∷ rules) few =
    pairs_cons Differ r rules (λ x c of priority. clash x c of priority) (count_distinct rules (λ of priority. let n = count_cons of priority r rules in omega (arith, n, few of priority)))
  where
    clash : (x : Rule) → Contains rules x → r.of ≡ x.of → r.priority ≡ x.priority → ⊥
    clash x c e f =
        let n = count_cons r.of r.priority r rules in
        let one = count_some r.of r.priority rules x c (agree_at r x (sym e, sym f)) in
        let y = is_one r.of r.priority r (agree_at r r (refl, refl)) in
        let most = few r.of r.priority in
        omega (arith, n, one, y, most)

pub distinct_permutation : (rules others : List Rule) → IsPermutation rules others → AllPairs Differ rules → AllPairs Differ others
unfolding count_at
distinct_permutation rules others moves d =
    count_distinct others (λ of priority. let n = sum_by-IsPermutation (λ r. cond (is_at of priority r) 1 0) rules others moves in let few : count_by (is_at of priority) rules ≤ 1 = distinct_count of priority rules d in omega (arith, n, few))

-- distinct lists of the same rules are the same up to order
pub same_rules : (rules others : List Rule) → AllPairs Differ rules → AllPairs Differ others → ((r : Rule) → Contains rules r → Contains others r) → ((r : Rule) → Contains others r → Contains rules r) → IsPermutation rules others
same_rules [] [] d e to from = IsPermutation-refl []
same_rules [] (q ∷ others) d e to from = absurd (none_in q (from q (here q others)))
same_rules (r ∷ rules) others d e to from =
    IsPermutation-trans _ _ _ (IsPermutation-cons r rules (remove others at.0) (same_rules rules (remove others at.0) (pairs_tail Differ r rules d) (pairs_tail Differ r (remove others at.0) apart) keeps kept)) (IsPermutation-sym _ _ moved)
  where
    at : Contains others r
    at = to r (here r rules)

    moved : IsPermutation others (r ∷ remove others at.0)
    moved = IsPermutation-remove others at.0 r at.1 (sym at.2)

    apart : AllPairs Differ (r ∷ remove others at.0)
    apart = distinct_permutation others (r ∷ remove others at.0) moved e

    goes : (x : Rule) → Contains rules x → (r ≡ x) ⊎ Contains (remove others at.0) x → Contains (remove others at.0) x
    goes x c (inl f) = absurd (pairs_head Differ r rules d x c (ap (λ (y : Rule). y.of) f) (ap (λ (y : Rule). y.priority) f))
    goes x c (inr h) = h

    comes : (x : Rule) → Contains (remove others at.0) x → (r ≡ x) ⊎ Contains rules x → Contains rules x
    comes x c (inl f) = absurd (pairs_head Differ r (remove others at.0) apart x c (ap (λ (y : Rule). y.of) f) (ap (λ (y : Rule). y.priority) f))
    comes x c (inr h) = h

    keeps : (x : Rule) → Contains rules x → Contains (remove others at.0) x
    keeps x c = goes x c (in_cons r (remove others at.0) x (Contains-permutation _ _ x moved (to x (there r rules x c))))

    kept : (x : Rule) → Contains (remove others at.0) x → Contains rules x
    kept x c = comes x c (in_cons r rules x (from x (Contains-permutation _ _ x (IsPermutation-sym _ _ moved) (there r (remove others at.0) x c))))

-- distinct rules, each of which agrees with one of the other list, are no more
pub no_more : (rules places : List Rule) → AllPairs Differ rules → ((r : Rule) → Contains rules r → (q : Rule) × Contains places q × Agree q r) → length rules ≤ length places
no_more [] places d h = omega arith
no_more (r ∷ rules) places d h =
    let later = no_more rules (remove places at.0) (pairs_tail Differ r rules d) (λ x c. left x c (h x (there r rules x c))) in
    let n = length-remove places at.0 at.1 in
    omega (arith, later, n)
  where
    first : (q : Rule) × Contains places q × Agree q r
    first = h r (here r rules)

    at : Contains places first.0
    at = first.1

    moved : IsPermutation places (first.0 ∷ remove places at.0)
    moved = IsPermutation-remove places at.0 first.0 at.1 (sym at.2)

    left : (x : Rule) → Contains rules x → (q : Rule) × Contains places q × Agree q x → (q : Rule) × Contains (remove places at.0) q × Agree q x
    left x c t = step (in_cons first.0 (remove places at.0) t.0 (Contains-permutation _ _ t.0 moved t.1))
      where
        step : (first.0 ≡ t.0) ⊎ Contains (remove places at.0) t.0 → (q : Rule) × Contains (remove places at.0) q × Agree q x
        step (inl e) = let s = chained r first.0 x (turned first.0 r first.2) (chained first.0 t.0 x (equal_agree first.0 t.0 e) t.2) in absurd (pairs_head Differ r rules d x c s.0 s.1)
        step (inr m) = (t.0, m, t.2)
