-- What becomes of the live traces at one more event.
use Rattle.std.proofs.Common.{◌≡◌, ℕ, Bool, true, false, cond, List, [], ◌∷◌, ◌++◌, Option, Some, None, refl, sym, ap, ◌∙◌, subst, get_or, ⊎_elim, arith, eqb-true, eq-eqb}
use Rattle.std.specs.Prelude.{◌≢◌, ◌&&◌, ◌==◌, filter, All, Contains, zero, suc}
use Rattle.std.specs.List.{list_all}
use Rattle.std.proofs.lemmas.Bool.{cases_Bool, and_parts}
use Rattle.std.proofs.lemmas.List.{append-nil}
use Rattle.std.proofs.lemmas.List.Folds.{list_all-append}
use Rattle.std.proofs.lemmas.List.Elements.{All-nil, All-cons, Contains-append_right}
use Rattle.std.proofs.lemmas.List.Kept.{AllPairs-cons}
use Rattle.trace_tree.specs.declared.node.Trace.{Trace}
use Rattle.trace_tree.specs.Stands.{of_leaf, has_other_number}
use Rattle.trace_tree.specs.Numbers.{HaveOwnNumbers}
use Rattle.tree_prune.specs.Current.{is_current, are_current}
use Rattle.tree_prune.specs.Laws.{IsOf}
use Rattle.tree_prune.specs.Live.{State, Event, Learned, Retired, AllRetired, Reached, agrees, outlives, lives, live_from, live, state_from, state_of, learned}

regroup : (a b c : Bool) → (a && (b && (c && true))) ≡ ((a && b) && c)
regroup true true true = refl
regroup true true false = refl
regroup true false c = refl
regroup false b c = refl

-- a trace lives behind one more event where it lived before and outlives that one
lives_on : (s : State) (policy : ℕ) (r : Trace) (later : List Event) (e : Event) → lives s policy r (later ++ e ∷ []) ≡ (lives s policy r later && outlives policy r e)
lives_on s policy r later e =
    ap (λ b. agrees s policy r && b) (list_all-append (outlives policy r) later (e ∷ [])) ∙ regroup (agrees s policy r) (list_all (outlives policy r) later) (outlives policy r e)

-- a trace that lives agrees with the state that was reached last
agrees_now : (s : State) (policy : ℕ) (r : Trace) (later : List Event) → lives s policy r later ≡ true → agrees (state_from s later) policy r ≡ true
agrees_now s policy r [] h = (and_parts (agrees s policy r) true h).0
agrees_now s policy r (Learned p q ∷ later) h = agrees_now s policy r later h
agrees_now s policy r (Retired n ∷ later) h =
    let a = and_parts (agrees s policy r) (list_all (outlives policy r) (Retired n ∷ later)) h in
    let b = and_parts (outlives policy r (Retired n)) (list_all (outlives policy r) later) a.1 in
    agrees_now s policy r later (ap (λ c. c && list_all (outlives policy r) later) a.0 ∙ b.1)
agrees_now s policy r (AllRetired ∷ later) h = let a = and_parts (agrees s policy r) false h in absurd (cc)
agrees_now s policy r (Reached t ∷ later) h = agrees_now t policy r later (and_parts (agrees s policy r) (list_all (outlives policy r) (Reached t ∷ later)) h).1

now_parts : (s : State) (policy : ℕ) (r : Trace) (later : List Event) → lives s policy r later ≡ true → ((state_from s later).policy == policy ≡ true) × (are_current (state_from s later).has r.cells ≡ true)
now_parts s policy r later h = let t = state_from s later in and_parts (t.policy == policy) (are_current t.has r.cells) (agrees_now s policy r later h)

first_event : (e : Event) → live (e ∷ []) ≡ []
first_event (Learned policy r) = refl
first_event (Retired n) = refl
first_event AllRetired = refl
first_event (Reached s) = refl

join : (b : Bool) (r : Trace) (xs ys zs : List Trace) → xs ≡ ys ++ zs → cond b (r ∷ xs) xs ≡ cond b (r ∷ ys) ys ++ zs
join true r xs ys zs h = ap (λ x. r ∷ x) h
join false r xs ys zs h = h

module _ (e : Event) (q : Trace → Bool) where
  -- of the policy of state s the traces of which q holds outlive the event
  abbrev Spares : State → Type 0
  Spares s = (policy : ℕ) (r : Trace) → s.policy == policy ≡ true → outlives policy r e ≡ q r

  abbrev new_in : Option State → List Trace
  new_in None = []
  new_in (Some s) = live_from s (e ∷ [])

  live_on_from : (es : List Event) (s : State) → Spares (state_from s es) → live_from s (es ++ e ∷ []) ≡ filter q (live_from s es) ++ live_from (state_from s es) (e ∷ [])
  live_on_from [] s h = refl
  live_on_from (Learned policy r ∷ es) s h =
      let now = live_from s (es ++ e ∷ []) in
      let was = live_from s es in
      let new = live_from (state_from s es) (e ∷ []) in
      let rest : now ≡ filter q was ++ new = live_on_from es s h in
      ⊎_elim
      (λ l.
      let b : lives s policy r (es ++ e ∷ []) ≡ q r = lives_on s policy r es e ∙ ap (λ c. c && outlives policy r e) l ∙ h policy r ((now_parts s policy r es l).0) in
      ap (λ c. cond c (r ∷ now) now) b ∙ join (q r) r now (filter q was) new rest ∙ sym (ap (λ c. filter q (cond c (r ∷ was) was) ++ new) l))
      (λ l.
      let b : lives s policy r (es ++ e ∷ []) ≡ false = lives_on s policy r es e ∙ ap (λ c. c && outlives policy r e) l in
      ap (λ c. cond c (r ∷ now) now) b ∙ rest ∙ sym (ap (λ c. filter q (cond c (r ∷ was) was) ++ new) l))
      (cases_Bool (lives s policy r es))
  live_on_from (Retired n ∷ es) s h = live_on_from es s h
  live_on_from (AllRetired ∷ es) s h = live_on_from es s h
  live_on_from (Reached t ∷ es) s h = live_on_from es t h

  live_on : (es : List Event) → ((s : State) → state_of es ≡ Some s → Spares s) → live (es ++ e ∷ []) ≡ filter q (live es) ++ new_in (state_of es)
  live_on [] h = first_event e
  live_on (Learned policy r ∷ es) h = live_on es h
  live_on (Retired n ∷ es) h = live_on es h
  live_on (AllRetired ∷ es) h = live_on es h
  live_on (Reached s ∷ es) h = live_on_from es s (h (state_from s es) refl)

filter_all : (rs : List Trace) → filter (λ r. true) rs ≡ rs
filter_all [] = refl
filter_all (r ∷ rs) = ap (λ x. r ∷ x) (filter_all rs)

pub filter_none : (rs : List Trace) → filter (λ r. false) rs ≡ []
filter_none [] = refl
filter_none (r ∷ rs) = filter_none rs

pub none_before : (es : List Event) → state_of es ≡ None → live es ≡ []
none_before [] h = refl
none_before (Learned policy r ∷ es) h = none_before es h
none_before (Retired n ∷ es) h = none_before es h
none_before (AllRetired ∷ es) h = none_before es h
none_before (Reached s ∷ es) h = absurd (cc)

pub none_in_first : (es : List Event) (s : State) → state_of es ≡ None → live (es ++ Reached s ∷ []) ≡ []
none_in_first es s h =
    live_on (Reached s) (λ r. false) es (λ t e. absurd (cc))
    ∙ ap (λ xs. xs ++ new_in (Reached s) (λ r. false) (state_of es)) (filter_none (live es))
    ∙ ap (new_in (Reached s) (λ r. false)) h

learned_after : (es : List Event) (s : State) (policy : ℕ) (r : Trace) → state_of es ≡ Some s → live (es ++ Learned policy r ∷ []) ≡ live es ++ cond (agrees s policy r && true) (r ∷ []) []
learned_after es s policy r h =
    live_on (Learned policy r) (λ x. true) es (λ t e p x same. refl)
    ∙ ap (λ xs. xs ++ new_in (Learned policy r) (λ x. true) (state_of es)) (filter_all (live es))
    ∙ ap (λ o. live es ++ new_in (Learned policy r) (λ x. true) o) h

pub learned_last : (es : List Event) (s : State) (policy : ℕ) (r : Trace) → state_of es ≡ Some s → agrees s policy r ≡ true → live (es ++ Learned policy r ∷ []) ≡ live es ++ r ∷ []
learned_last es s policy r h a = learned_after es s policy r h ∙ ap (λ b. live es ++ cond (b && true) (r ∷ []) []) a

pub not_learned : (es : List Event) (s : State) (policy : ℕ) (r : Trace) → state_of es ≡ Some s → agrees s policy r ≡ false → live (es ++ Learned policy r ∷ []) ≡ live es
not_learned es s policy r h a = learned_after es s policy r h ∙ ap (λ b. live es ++ cond (b && true) (r ∷ []) []) a ∙ append-nil (live es)

no_new_retired : (n : ℕ) (q : Trace → Bool) (o : Option State) → new_in (Retired n) q o ≡ []
no_new_retired n q None = refl
no_new_retired n q (Some s) = refl

no_new_all : (q : Trace → Bool) (o : Option State) → new_in AllRetired q o ≡ []
no_new_all q None = refl
no_new_all q (Some s) = refl

pub retired_goes : (es : List Event) (n : ℕ) → live (es ++ Retired n ∷ []) ≡ filter (of_leaf (has_other_number n)) (live es)
retired_goes es n =
    let others = of_leaf (has_other_number n) in
    live_on (Retired n) others es (λ t e p x same. refl)
    ∙ ap (λ xs. filter others (live es) ++ xs) (no_new_retired n others (state_of es))
    ∙ append-nil (filter others (live es))

pub all_go : (es : List Event) → live (es ++ AllRetired ∷ []) ≡ []
all_go es =
    live_on AllRetired (λ r. false) es (λ t e p x same. refl)
    ∙ ap (λ xs. filter (λ r. false) (live es) ++ xs) (no_new_all (λ r. false) (state_of es))
    ∙ append-nil (filter (λ r. false) (live es))
    ∙ filter_none (live es)

-- no trace is new in a state that is reached
none_new : (t : State) (q : Trace → Bool) (es : List Event) (s : State) → state_of es ≡ Some s
    → ((policy : ℕ) (r : Trace) → s.policy == policy ≡ true → outlives policy r (Reached t) ≡ q r)
    → live (es ++ Reached t ∷ []) ≡ filter q (live es)
none_new t q es s h spares =
    live_on (Reached t) q es (λ u e p x same. spares p x (let k : u ≡ s = cc in ap (λ (w : State). w.policy == p) (sym k) ∙ same))
    ∙ ap (λ o. filter q (live es) ++ new_in (Reached t) q o) h
    ∙ append-nil (filter q (live es))

pub current_stay : (es : List Event) (s t : State) → state_of es ≡ Some s → s.policy == t.policy ≡ true → live (es ++ Reached t ∷ []) ≡ filter (of_leaf (is_current t.has)) (live es)
current_stay es s t h same =
    none_new t (of_leaf (is_current t.has)) es s h
    (λ p x e.
    let a = eqb-true s.policy t.policy same in
    let b = eqb-true s.policy p e in
    ap (λ c. c && are_current t.has x.cells) (eq-eqb t.policy p (sym a ∙ b)))

apart : (m n : ℕ) → m == n ≡ false → n == m ≡ false
apart m n e = ⊎_elim (λ k. let f = eq-eqb m n (sym (eqb-true n m k)) in absurd (cc)) (λ k. k) (cases_Bool (n == m))

pub old_policy_goes : (es : List Event) (s t : State) → state_of es ≡ Some s → s.policy == t.policy ≡ false → live (es ++ Reached t ∷ []) ≡ []
old_policy_goes es s t h other =
    none_new t (λ r. false) es s h
    (λ p x e.
    let b : p ≡ s.policy = sym (eqb-true s.policy p e) in
    let differ : t.policy == p ≡ false = ap (λ n. t.policy == n) b ∙ apart s.policy t.policy other in
    ap (λ c. c && are_current t.has x.cells) differ)
    ∙ filter_none (live es)

abbrev Differ : Trace → Trace → Type 0
Differ x y = x.number ≢ y.number

-- what holds of each learned trace holds of each live one
all_from : (P : Trace → Type 0) (es : List Event) (s : State) → All P (learned es) → All P (live_from s es)
all_from P [] s h = h
all_from P (Learned policy r ∷ es) s h =
    let rest = all_from P es s (λ k d within. h (suc k) d (omega arith)) in
    let here : P r = h zero r (omega arith) in
    elim (lives s policy r es) as (λ b. All P (cond b (r ∷ live_from s es) (live_from s es))) [ true ↦ All-cons P r (live_from s es) here rest | false ↦ rest ]
all_from P (Retired n ∷ es) s h = all_from P es s h
all_from P (AllRetired ∷ es) s h = all_from P es s h
all_from P (Reached t ∷ es) s h = all_from P es t h

own_from : (es : List Event) (s : State) → HaveOwnNumbers (learned es) → HaveOwnNumbers (live_from s es)
own_from [] s h = h
own_from (Learned policy r ∷ es) s h =
    let rest = own_from es s (λ i j d lt within. h (suc i) (suc j) d (omega arith) (omega arith)) in
    let head : All (Differ r) (learned es) = λ k d within. h zero (suc k) d (omega arith) (omega arith) in
    elim (lives s policy r es) as (λ b. HaveOwnNumbers (cond b (r ∷ live_from s es) (live_from s es)))
    [ true ↦ AllPairs-cons Differ r (live_from s es) (all_from (Differ r) es s head) rest | false ↦ rest ]
own_from (Retired n ∷ es) s h = own_from es s h
own_from (AllRetired ∷ es) s h = own_from es s h
own_from (Reached t ∷ es) s h = own_from es t h

pub own_numbers : (es : List Event) → HaveOwnNumbers (learned es) → HaveOwnNumbers (live es)
own_numbers [] h = h
own_numbers (Learned policy r ∷ es) h = own_numbers es (λ i j d lt within. h (suc i) (suc j) d (omega arith) (omega arith))
own_numbers (Retired n ∷ es) h = own_numbers es h
own_numbers (AllRetired ∷ es) h = own_numbers es h
own_numbers (Reached s ∷ es) h = own_from es s h

-- what was learned among these events was so with one more ahead of them
of_longer : (e : Event) (es : List Event) (s : State) (rs : List Trace) → All (IsOf es s) rs → All (IsOf (e ∷ es) s) rs
of_longer e es s rs h = λ k d within.
    let of = h k d within in
    record { learned = Contains-append_right (e ∷ []) es (Learned s.policy (get_or rs k d)) of.learned; current = of.current }

of_now_from : (es : List Event) (s : State) → All (IsOf es (state_from s es)) (live_from s es)
of_now_from [] s = All-nil (IsOf [] s)
of_now_from (Learned policy r ∷ es) s =
    let t = state_from s es in
    let IsNow : Trace → Type 0 = IsOf (Learned policy r ∷ es) t in
    let rest : All IsNow (live_from s es) = of_longer (Learned policy r) es t (live_from s es) (of_now_from es s) in
    ⊎_elim
    (λ l.
    let parts = now_parts s policy r es l in
    let first : Contains (Learned policy r ∷ es) (Learned policy r) = (0, omega arith, refl) in
    let here : IsNow r = record { learned = subst (λ p. Contains (Learned policy r ∷ es) (Learned p r)) (sym (eqb-true t.policy policy parts.0)) first; current = parts.1 } in
    subst (λ b. All IsNow (cond b (r ∷ live_from s es) (live_from s es))) (sym l) (All-cons IsNow r (live_from s es) here rest))
    (λ l. subst (λ b. All IsNow (cond b (r ∷ live_from s es) (live_from s es))) (sym l) rest)
    (cases_Bool (lives s policy r es))
of_now_from (Retired n ∷ es) s = of_longer (Retired n) es (state_from s es) (live_from s es) (of_now_from es s)
of_now_from (AllRetired ∷ es) s = of_longer AllRetired es (state_from s es) (live_from s es) (of_now_from es s)
of_now_from (Reached t ∷ es) s = of_longer (Reached t) es (state_from t es) (live_from t es) (of_now_from es t)

pub of_now : (es : List Event) (s : State) → state_of es ≡ Some s → All (IsOf es s) (live es)
of_now [] s h = absurd (cc)
of_now (Learned policy r ∷ es) s h = of_longer (Learned policy r) es s (live es) (of_now es s h)
of_now (Retired n ∷ es) s h = of_longer (Retired n) es s (live es) (of_now es s h)
of_now (AllRetired ∷ es) s h = of_longer AllRetired es s (live es) (of_now es s h)
of_now (Reached t ∷ es) s h =
    let e : state_from t es ≡ s = cc in
    of_longer (Reached t) es s (live_from t es) (subst (λ u. All (IsOf es u) (live_from t es)) e (of_now_from es t))
