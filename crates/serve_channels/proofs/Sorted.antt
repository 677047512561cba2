-- Connections in the order of their numbers: one is found, a new one goes to its place, and one is left out.
use Rattle.std.proofs.Common.{◌≡◌, ◌⊎◌, ℕ, ◌-◌, ◌<◌, ◌≤◌, zero, suc, List, [], ◌∷◌, get_or, length, Result, Ok, Err, IfOk, IfErr, refl, sym, ap, ◌∙◌, subst, inl, inr, ⊎_elim, arith}
use Rattle.std.specs.Prelude.{◌≢◌, MatchOption, Some}
use Rattle.std.specs.Result.{result_ok}
use Rattle.std.specs.List.{insert, remove, slice_get}
use Rattle.std.specs.List.Sorted.{IsBinarySearchResult, IsNonDecreasingBy, IsSearchInRange}
use Rattle.std.specs.Ordering.{nat_cmp, ordering_index}
use Rattle.std.proofs.lemmas.Bool.{cases_eq, cases_lt}
use Rattle.std.proofs.lemmas.Bool.Decides.{nat_tests}
use Rattle.std.proofs.lemmas.Cmp.{ranked}
use Rattle.std.proofs.lemmas.Option.{get_or_from_slice_get, same_Some, slice_get-get_or, slice_get_within}
use Rattle.serve_channels.specs.declared.connection.Connection.{Connection}
use Rattle.serve_channels.specs.Servers.{AreSorted, IsAt, IsGap, IsMissing, IsUnknown, number_of}

-- ---- the order

pub at_there : (at : ℕ) (k : Connection) (ks : List Connection) → slice_get ks at ≡ Some k → IsAt at (number_of k) ks
at_there at k ks there = record { connection = k; there = there; number = refl }

-- a number stands at one place
one_place : (ks : List Connection) → AreSorted ks → (i j c : ℕ) → IsAt i c ks → IsAt j c ks → i ≡ j
one_place ks sorted i j c first second =
    ⊎_elim
    (λ low. (let no = sorted i j c c low first second in absurd (omega (arith, no))))
    (λ high. ⊎_elim (λ same. same) (λ other. (let no = sorted j i c c (omega (arith, high, other)) second first in absurd (omega (arith, no)))) (cases_eq i j))
    (cases_lt i j)

-- any other has another number
pub apart : (ks : List Connection) → AreSorted ks → (at n : ℕ) (k x : Connection) → slice_get ks at ≡ Some k → slice_get ks n ≡ Some x → (n ≡ at → ⊥)
    → number_of x ≡ number_of k → ⊥
apart ks sorted at n k x there is other same = other (one_place ks sorted n at (number_of k) (record { connection = x; there = is; number = same }) (at_there at k ks there))

-- ---- one is found

number_at : (ks : List Connection) (i : ℕ) (d : Connection) → i < length ks → IsAt i (number_of (get_or ks i d)) ks
number_at ks i d within = at_there i (get_or ks i d) ks (slice_get-get_or ks i d within)

number_is : (ks : List Connection) (i c : ℕ) (h : IsAt i c ks) → number_of (get_or ks i h.connection) ≡ c
number_is ks i c h = ap number_of (get_or_from_slice_get ks i h.connection h.connection h.there) ∙ h.number

numbers_rise : (ks : List Connection) → AreSorted ks → (i j : ℕ) (d : Connection) → i ≤ j → j < length ks → number_of (get_or ks i d) ≤ number_of (get_or ks j d)
numbers_rise ks sorted i j d up within =
    ⊎_elim
    (λ low. (let rises = sorted i j (number_of (get_or ks i d)) (number_of (get_or ks j d)) low (number_at ks i d (omega (arith, low, within))) (number_at ks j d within) in
    omega (arith, rises)))
    (λ high. (let same : i ≡ j = omega (arith, up, high) in let e = ap (λ n. number_of (get_or ks n d)) same in omega (arith, e)))
    (cases_lt i j)

-- so are their comparisons with a number
compared : (ks : List Connection) (c : ℕ) → AreSorted ks → IsNonDecreasingBy (λ k. ordering_index (nat_cmp (number_of k) c)) ks
compared ks c sorted i j d up within = (let rises = numbers_rise ks sorted i j d up within in grind (arith, nat_tests))

pub searched : (ks : List Connection) (c : ℕ) (r : Result ℕ ℕ) → IsSearchInRange r (length ks) → IsBinarySearchResult (λ k. nat_cmp (number_of k) c) ks r
    → IfOk r (λ at. IsAt at c ks) × IfErr r (λ at. IsGap at c ks)
searched [] c (Ok at) within equal = absurd (omega (arith, within))
searched (k ∷ ks) c (Ok at) within equal = (
  record {
    connection = get_or (k ∷ ks) at k;
    there = slice_get-get_or (k ∷ ks) at k within;
    number = ranked (number_of (get_or (k ∷ ks) at k)) c _ (sym (equal k));
  },
  tt,
)
searched ks c (Err at) within parted = (
  tt,
  record {
    within = within;
    ahead = λ sorted i d low is. subst (λ n. n < c) (number_is ks i d is)
        (ranked _ c _ (sym ((parted (compared ks c sorted)).0 i is.connection (omega arith) low)));
    behind = λ sorted i d high is. subst (λ n. c < n) (number_is ks i d is)
        (ranked _ c _ (sym ((parted (compared ks c sorted)).1 i is.connection high (slice_get_within ks i is.connection is.there))));
  },
)

-- at a gap none has the number
pub none_at : (ks : List Connection) (at c : ℕ) → IsGap at c ks → IsMissing c ks
none_at ks at c gap sorted known =
    ⊎_elim
    (λ low. (let no = gap.ahead sorted known.0 c low known.1 in absurd (omega (arith, no))))
    (λ high. (let no = gap.behind sorted known.0 c high known.1 in absurd (omega (arith, no))))
    (cases_lt known.0 at)

pub found_by : (ks : List Connection) (c : ℕ) (r : Result ℕ ℕ) → IfOk r (λ at. IsAt at c ks) → IfErr r (λ at. IsGap at c ks)
    → MatchOption (result_ok r) (IsMissing c ks) (λ at. IsAt at c ks)
found_by ks c (Ok at) is gap = is
found_by ks c (Err at) is gap = none_at ks at c gap

-- ---- a new one goes to its place

module _ {X : Type 0} where
  inserted_ahead : (xs : List X) (at n : ℕ) (y : X) → n < at → at ≤ length xs → slice_get (insert xs at y) n ≡ slice_get xs n
  inserted_ahead xs zero n y low within = absurd (omega (arith, low))
  inserted_ahead [] (suc at) n y low within = absurd (omega (arith, within))
  inserted_ahead (z ∷ zs) (suc at) zero y low within = refl
  inserted_ahead (z ∷ zs) (suc at) (suc n) y low within = inserted_ahead zs at n y (omega (arith, low)) (omega (arith, within))

  inserted_here : (xs : List X) (at : ℕ) (y : X) → at ≤ length xs → slice_get (insert xs at y) at ≡ Some y
  inserted_here xs zero y within = refl
  inserted_here [] (suc at) y within = absurd (omega (arith, within))
  inserted_here (z ∷ zs) (suc at) y within = inserted_here zs at y (omega (arith, within))

  inserted_behind : (xs : List X) (at n : ℕ) (y : X) → at ≤ n → at ≤ length xs → slice_get (insert xs at y) (suc n) ≡ slice_get xs n
  inserted_behind xs zero n y high within = refl
  inserted_behind [] (suc at) n y high within = absurd (omega (arith, within))
  inserted_behind (z ∷ zs) (suc at) zero y high within = absurd (omega (arith, high))
  inserted_behind (z ∷ zs) (suc at) (suc n) y high within = inserted_behind zs at n y (omega (arith, high)) (omega (arith, within))

  removed_ahead : (xs : List X) (at n : ℕ) → n < at → slice_get (remove xs at) n ≡ slice_get xs n
  removed_ahead xs zero n low = absurd (omega (arith, low))
  removed_ahead [] (suc at) n low = refl
  removed_ahead (z ∷ zs) (suc at) zero low = refl
  removed_ahead (z ∷ zs) (suc at) (suc n) low = removed_ahead zs at n (omega (arith, low))

  removed_behind : (xs : List X) (at n : ℕ) → at ≤ n → slice_get (remove xs at) n ≡ slice_get xs (suc n)
  removed_behind [] zero n high = refl
  removed_behind [] (suc at) n high = refl
  removed_behind (z ∷ zs) zero n high = refl
  removed_behind (z ∷ zs) (suc at) zero high = absurd (omega (arith, high))
  removed_behind (z ∷ zs) (suc at) (suc n) high = removed_behind zs at n (omega (arith, high))

-- where one stood that isn't the new one
pub record Stood (at n : ℕ) (ks : List Connection) (x : Connection) : Type 0 where
  pub from : ℕ
  pub there : slice_get ks from ≡ Some x
  pub ahead : n < at → from ≡ n
  pub behind : at ≤ n → (n ≡ suc from) × (at ≤ from)

stood_up : (at i j : ℕ) (ks : List Connection) (x y : Connection) (f : Stood at i ks x) (g : Stood at j ks y) → i < j → f.from < g.from
stood_up at i j ks x y f g up =
    ⊎_elim
    (λ low. (let a = f.ahead low in ⊎_elim
    (λ low_too. (let b = g.ahead low_too in omega (arith, up, a, b)))
    (λ high. (let b = (g.behind high).1 in omega (arith, low, a, b)))
    (cases_lt j at)))
    (λ high. (let a = (f.behind high).0 in let b = (g.behind (omega (arith, high, up))).0 in omega (arith, up, a, b)))
    (cases_lt i at)

module _ (ks ls : List Connection) (at : ℕ) (l : Connection) (gap : IsGap at (number_of l) ks) (insert_is : ls ≡ insert ks at l) where
  now_here : slice_get ls at ≡ Some l
  now_here = ap (λ xs. slice_get xs at) insert_is ∙ inserted_here ks at l gap.within

  now_ahead : (n : ℕ) → n < at → slice_get ls n ≡ slice_get ks n
  now_ahead n low = ap (λ xs. slice_get xs n) insert_is ∙ inserted_ahead ks at n l low gap.within

  now_behind : (n : ℕ) → at ≤ n → slice_get ls (suc n) ≡ slice_get ks n
  now_behind n high = ap (λ xs. slice_get xs (suc n)) insert_is ∙ inserted_behind ks at n l high gap.within

  pub inserted_from : (n : ℕ) (x : Connection) → slice_get ls n ≡ Some x → ((n ≡ at) × (l ≡ x)) ⊎ Stood at n ks x
  inserted_from n x is =
      ⊎_elim
      (λ low. inr (record { from = n; there = sym (now_ahead n low) ∙ is; ahead = λ h. refl; behind = λ high. absurd (omega (arith, low, high)) }))
      (λ high. ⊎_elim
      (λ same. inl (same, same_Some l x (sym now_here ∙ ap (slice_get ls) (sym same) ∙ is)))
      (λ other. (let before : suc (n - 1) ≡ n = omega (arith, high, other) in
      inr (record {
        from = n - 1;
        there = sym (now_behind (n - 1) (omega (arith, high, other))) ∙ ap (slice_get ls) before ∙ is;
        ahead = λ low. absurd (omega (arith, low, high));
        behind = λ h. (sym before, omega (arith, high, other));
      })))
      (cases_eq n at))
      (cases_lt n at)

  pub sorted_insert : AreSorted ks → AreSorted ls
  sorted_insert sorted i j c d up first second = by (inserted_from i first.connection first.there) (inserted_from j second.connection second.there)
    where
      was : (n x : ℕ) (h : IsAt n x ls) (f : Stood at n ks h.connection) → IsAt f.from x ks
      was n x h f = record { connection = h.connection; there = f.there; number = h.number }

      new_is : (n x : ℕ) (h : IsAt n x ls) → l ≡ h.connection → x ≡ number_of l
      new_is n x h e = sym h.number ∙ ap number_of (sym e)

      by : ((i ≡ at) × (l ≡ first.connection)) ⊎ Stood at i ks first.connection → ((j ≡ at) × (l ≡ second.connection)) ⊎ Stood at j ks second.connection → c < d
      by (inl a) (inl b) = (let here = a.0 in let there = b.0 in absurd (omega (arith, up, here, there)))
      by (inl a) (inr g) =
          (let here = a.0 in let low = (g.behind (omega (arith, up, here))).1 in
          subst (λ n. n < d) (sym (new_is i c first a.1)) (gap.behind sorted g.from d low (was j d second g)))
      by (inr f) (inl b) =
          (let there = b.0 in let low : i < at = omega (arith, up, there) in let same = f.ahead low in
          subst (λ n. c < n) (sym (new_is j d second b.1)) (gap.ahead sorted f.from c (omega (arith, low, same)) (was i c first f)))
      by (inr f) (inr g) = sorted f.from g.from c d (stood_up at i j ks first.connection second.connection f g up) (was i c first f) (was j d second g)

  inserted_still : (n : ℕ) (x : Connection) → slice_get ks n ≡ Some x → (m : ℕ) × (slice_get ls m ≡ Some x)
  inserted_still n x is = ⊎_elim (λ low. (n, now_ahead n low ∙ is)) (λ high. (suc n, now_behind n high ∙ is)) (cases_lt n at)

  -- a number that isn't there behind it wasn't there, and isn't the new one's
  pub inserted_unknown : (c : ℕ) → IsUnknown c ls → IsUnknown c ks
  inserted_unknown c none known =
      let s = inserted_still known.0 known.1.connection known.1.there in
      none (s.0, record { connection = known.1.connection; there = s.1; number = known.1.number })

  pub inserted_number : (c : ℕ) → IsUnknown c ls → c ≡ number_of l → ⊥
  inserted_number c none same = none (at, record { connection = l; there = now_here; number = sym same })

-- ---- one is left out

-- what is at this place now was here, or behind the one that was left out a place further
pub record CameFrom (at n : ℕ) (ks : List Connection) (k : Connection) : Type 0 where
  pub from : ℕ
  pub there : slice_get ks from ≡ Some k
  pub ahead : n < at → from ≡ n
  pub behind : at ≤ n → from ≡ suc n

pub came_from : (ks : List Connection) (at n : ℕ) (k : Connection) → slice_get (remove ks at) n ≡ Some k → CameFrom at n ks k
came_from ks at n k is =
    ⊎_elim
    (λ low. record { from = n; there = sym (removed_ahead ks at n low) ∙ is; ahead = λ h. refl; behind = λ high. absurd (omega (arith, low, high)) })
    (λ high. record { from = suc n; there = sym (removed_behind ks at n high) ∙ is; ahead = λ low. absurd (omega (arith, low, high)); behind = λ h. refl })
    (cases_lt n at)

pub not_left : (at n : ℕ) (ks : List Connection) (k : Connection) (f : CameFrom at n ks k) → f.from ≢ at
not_left at n ks k f e =
    ⊎_elim
    (λ low. (let same = f.ahead low in omega (arith, low, same, e)))
    (λ high. (let next = f.behind high in omega (arith, high, next, e)))
    (cases_lt n at)

-- each other one is there still
pub left_there : (ks : List Connection) (at m : ℕ) (k : Connection) → slice_get ks m ≡ Some k → m ≢ at → (n : ℕ) × (slice_get (remove ks at) n ≡ Some k)
left_there ks at m k is other =
    ⊎_elim
    (λ low. (m, removed_ahead ks at m low ∙ is))
    (λ high. (let before : suc (m - 1) ≡ m = omega (arith, high, other) in
    (m - 1, removed_behind ks at (m - 1) (omega (arith, high, other)) ∙ ap (slice_get ks) before ∙ is)))
    (cases_lt m at)

pub sorted_left : (ks : List Connection) (at : ℕ) → AreSorted ks → AreSorted (remove ks at)
sorted_left ks at sorted i j c d up first second =
    let f = came_from ks at i first.connection first.there in
    let g = came_from ks at j second.connection second.there in
    sorted f.from g.from c d
    (⊎_elim
    (λ low. (let a = f.ahead low in ⊎_elim
    (λ low_too. (let b = g.ahead low_too in omega (arith, up, a, b)))
    (λ high. (let b = g.behind high in omega (arith, up, a, b)))
    (cases_lt j at)))
    (λ high. (let a = f.behind high in let b = g.behind (omega (arith, high, up)) in omega (arith, up, a, b)))
    (cases_lt i at))
    (record { connection = first.connection; there = f.there; number = first.number }) (record { connection = second.connection; there = g.there; number = second.number })
