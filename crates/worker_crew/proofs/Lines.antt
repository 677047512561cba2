-- Each call keeps the rule of the line.
use Rattle.std.proofs.Common.{◌≡◌, ℕ, zero, suc, ◌+◌, ◌-◌, ◌<◌, ◌≤◌, nat_lt, Bool, true, false, List, [], ◌∷◌, ◌++◌, length, length-append, set, slice_get, Some, sym, refl, ap, ◌∙◌, subst, ⊎_elim, arith, append-nil, append_assoc}
use Rattle.std.proofs.lemmas.Bool.Decides.{nat_tests}
use mathlib.Core.Option.{some, some-ne-none, some-injective}
use lib.ListN.{get_elem?}
use Rattle.atomic_table.proofs.Lists.{at_set, at_snoc}
use Rattle.crossbeam_queue.specs.Fifo.{Forks, Held, Learns, Merges, Pops, Pushes}
use Rattle.history_lock.specs.Histories.{longer, once_below, times}
use Rattle.history_lock.specs.Rule.{total}
use Rattle.history_lock.proofs.Totals.{all_set, one_le, total_alone, total_set, total_snoc}
use Rattle.history_lock.proofs.Lists.{longer_most, once_more, starts_either, starts_more, starts_of, starts_short, times_append, times_more, times_neither}
use Rattle.worker_crew.specs.declared.rule.Account.{Account}
use Rattle.worker_crew.specs.declared.rule.View.{View}
use Rattle.worker_crew.specs.Accounts.{AreOnce, Fits, HasLeft, IsLearned, IsTold, Lined, OffersOne, Stood, TakesOne, blank, glued, lent}

none_below : (x n : ℕ) → n ≤ x → once_below x n ≡ 0
none_below x n le = grind (arith, nat_tests)

one_below : (x n : ℕ) → once_below x n ≤ 1
one_below x n = grind (arith, nat_tests)

-- a list in which each position of n stands, and m doesn't
positions_whole : (n m : ℕ) (own : List ℕ) → times m own ≡ 0 → times m own ≡ once_below m n → (b : Bool) → nat_lt m n ≡ b → n ≤ m
positions_whole n m own none_there owns true is = grind (arith, nat_tests)
positions_whole n m own none_there owns false is = grind (arith, nat_tests)

-- one position more, at the end
within_more : (x n : ℕ) (own : List ℕ) → n + 1 ≤ x → times x own ≡ 0 → times x (own ++ n ∷ []) ≡ 0
within_more x n own le none_yet = let a = times_more x own n in grind (arith, nat_tests)

nil_both : (xs ys : List ℕ) → xs ≡ [] → ys ≡ [] → xs ++ ys ≡ []
nil_both xs ys a b = ap (λ z. z ++ ys) a ∙ b

module _ {T : Type 0} where
  there : (xs : List T) (x : T) (ys : List T) → slice_get (xs ++ x ∷ ys) (length xs) ≡ Some x
  there [] x ys = refl
  there (y ∷ xs) x ys = there xs x ys

  fits_blank : (line : List T) (parts : ℕ) → Fits line (blank parts)
  fits_blank line parts = record { seen = (line, refl); told = (line, refl); within = λ x le. refl; idle = λ none. (refl, refl) }

  -- the only view is the new one, or it was there before
  fits_new : (line : List T) (parts : ℕ) (v : View T) → blank parts ≡ v → Fits line v
  fits_new line parts v is = let Q : View T → Type 0 = λ y. Fits line y in subst Q is (fits_blank line parts)

  one : (port : ℕ) (v : View T) → get_elem? (blank 1024 ∷ []) port ≡ some v → Fits [] v
  one zero v e = fits_new [] 1024 v (some-injective (blank 1024) v e)
  one (suc j) v e = absurd (some-ne-none v (sym e))

  pub begins : Lined {T = T} [] (blank 1024 ∷ [])
  begins = record {
    gone = [];
    each = one;
    offers = λ x. grind (arith, nat_tests);
    takes = λ x. grind (arith, nat_tests);
    parts = refl;
  }

  pub learns : (id : ℕ) (v : View T) → Learns Lined id v (Stood v.account)
  learns id v items views k at = record { views = views; port = id; view = v; there = at; known = refl; lined = k }

  told : (items : List T) (views : List (View T)) (id : ℕ) (v : View T) → Lined items views → get_elem? views id ≡ some v → IsTold v
  told items views id v k at le = let f = k.each id v at in starts_of (k.gone ++ items) v.told v.account.seen f.told f.seen le

  once : (items : List T) (views : List (View T)) (id : ℕ) (v : View T) → Lined items views → get_elem? views id ≡ some v → AreOnce v.account.taken
  once items views id v k at x = let a = one_le (λ (u : View T). times x u.account.taken) views id v at in let b = k.takes x in let c = one_below x (length k.gone) in omega arith

  pub compares : (id : ℕ) (v : View T) → Learns Lined id v (λ (items : List T). IsLearned v)
  compares id v items views k at = (told items views id v k at, once items views id v k at)

  -- every view fits where the one that changes does, and the line goes on
  keeps : (line line' : List T) (views : List (View T)) (id : ℕ) (w : View T) → Fits line' w → ((u : View T) → Fits line u → Fits line' u)
      → ((j : ℕ) (u : View T) → get_elem? views j ≡ some u → Fits line u) → (j : ℕ) (u : View T) → get_elem? (set views id w) j ≡ some u → Fits line' u
  keeps line line' views id w mine on all = let Now : ℕ → View T → Type 0 = λ j u. Fits line' u in all_set Now views id w mine (λ j u o e. on u (all j u e))

  same_line : (line line' : List T) → line ≡ line' → (u : View T) → Fits line u → Fits line' u
  same_line line line' is u f = let Q : List T → Type 0 = λ y. Fits y u in subst Q is f

  longer_line : (line : List T) (x : T) (u : View T) → Fits line u → Fits (line ++ x ∷ []) u
  longer_line line x u f = record { seen = starts_more line u.account.seen x f.seen; told = starts_more line u.told x f.told; within = f.within; idle = f.idle }

  pub offers : (n id : ℕ) (v : View T) (x : T) → 0 < v.account.parts → Pushes Lined n id v x (λ w. OffersOne v.account x w.account)
  offers n id v x part items views room k at =
      let line : List T = k.gone ++ items in
      let more : List T = line ++ x ∷ [] in
      let line' : List T = k.gone ++ (items ++ x ∷ []) in
      let same : more ≡ line' = append_assoc k.gone items (x ∷ []) in
      let long : length more ≡ length line + 1 = length-append line (x ∷ []) in
      let long' : length line' ≡ length line + 1 = sym (ap length same) ∙ long in
      let w : View T = record { account = record { seen = more; offered = v.account.offered ++ length line ∷ []; taken = v.account.taken; parts = v.account.parts }; told = v.told } in
      let none_yet : (y : ℕ) → length line ≤ y → times y v.account.offered ≡ 0 =
      λ y le. (let a = one_le (λ (u : View T). times y u.account.offered) views id v at in let b = k.offers y in let c = none_below y (length line) le in omega arith) in
      let mine : Fits more w = record {
        seen = ([], sym (append-nil more));
        told = starts_more line v.told x (k.each id v at).told;
        within = λ y le. within_more y (length line) v.account.offered (omega arith) (none_yet y (omega arith));
        idle = λ none. absurd (omega arith);
      } in (
        w,
        record {
          gone = k.gone;
          each = keeps line line' views id w (same_line more line' same w mine) (λ u f. same_line more line' same u (longer_line line x u f)) k.each;
          offers = λ y.
              (let a : total (λ (u : View T). times y u.account.offered) (set views id w) + times y v.account.offered ≡ total (λ (u : View T). times y u.account.offered) views + times y w.account.offered = total_set (λ (u : View T). times y u.account.offered) views id v w at in
              let b = times_more y v.account.offered (length line) in
              let c = once_more y (length line) (length line') long' in
              let d = k.offers y in
              omega arith);
          takes = λ y.
              (let a : total (λ (u : View T). times y u.account.taken) (set views id w) + times y v.account.taken ≡ total (λ (u : View T). times y u.account.taken) views + times y w.account.taken = total_set (λ (u : View T). times y u.account.taken) views id v w at in
              let d = k.takes y in
              omega arith);
          parts =
              (let a : total (λ (u : View T). u.account.parts) (set views id w) + v.account.parts ≡ total (λ (u : View T). u.account.parts) views + w.account.parts = total_set (λ (u : View T). u.account.parts) views id v w at in
              let d = k.parts in
              omega arith);
        },
        record { line = line; later = (k.each id v at).seen; fresh = none_yet; after = refl },
      )

  pub takes : (id : ℕ) (v : View T) → 0 < v.account.parts → Pops Lined id v (λ x w. TakesOne v.account x w.account)
  takes id v part x items views k at =
      let line : List T = k.gone ++ x ∷ items in
      let gone : List T = k.gone ++ x ∷ [] in
      let line' : List T = gone ++ items in
      let same : line ≡ line' = sym (append_assoc k.gone (x ∷ []) items) in
      let long : length gone ≡ length k.gone + 1 = length-append k.gone (x ∷ []) in
      let mine = k.each id v at in
      let short = starts_short line v.account.seen mine.seen in
      let w : View T = record { account = record { seen = line; offered = v.account.offered; taken = v.account.taken ++ length k.gone ∷ []; parts = v.account.parts }; told = v.told } in
      let fits : Fits line w = record { seen = ([], sym (append-nil line)); told = mine.told; within = λ y le. mine.within y (omega arith); idle = λ none. absurd (omega arith) } in (
        w,
        record {
          gone = gone;
          each = keeps line line' views id w (same_line line line' same w fits) (same_line line line' same) k.each;
          offers = λ y.
              (let a : total (λ (u : View T). times y u.account.offered) (set views id w) + times y v.account.offered ≡ total (λ (u : View T). times y u.account.offered) views + times y w.account.offered = total_set (λ (u : View T). times y u.account.offered) views id v w at in
              let d = k.offers y in
              let e : once_below y (length line) ≡ once_below y (length line') = ap (λ (z : List T). once_below y (length z)) same in
              omega arith);
          takes = λ y.
              (let a : total (λ (u : View T). times y u.account.taken) (set views id w) + times y v.account.taken ≡ total (λ (u : View T). times y u.account.taken) views + times y w.account.taken = total_set (λ (u : View T). times y u.account.taken) views id v w at in
              let b = times_more y v.account.taken (length k.gone) in
              let c = once_more y (length k.gone) (length gone) long in
              let d = k.takes y in
              omega arith);
          parts =
              (let a : total (λ (u : View T). u.account.parts) (set views id w) + v.account.parts ≡ total (λ (u : View T). u.account.parts) views + w.account.parts = total_set (λ (u : View T). u.account.parts) views id v w at in
              let d = k.parts in
              omega arith);
        },
        record {
          line = line;
          later = mine.seen;
          position = length k.gone;
          there = there k.gone x items;
          fresh = λ y le. (let a = one_le (λ (u : View T). times y u.account.taken) views id v at in let b = k.takes y in let c = none_below y (length k.gone) le in omega arith);
          after = refl;
        },
      )

  pub forks : (id : ℕ) (v : View T) → 1 < v.account.parts → Forks Lined id v (lent v) (blank 1)
  forks id v more items views k at =
      let line : List T = k.gone ++ items in
      let mine = k.each id v at in
      let left : List (View T) = set views id (lent v) in
      let fits : Fits line (lent v) = record { seen = mine.seen; told = mine.told; within = mine.within; idle = λ none. absurd (omega arith) } in
      let each = keeps line line views id (lent v) fits (λ u f. f) k.each in
      record {
        gone = k.gone;
        each = λ j u e. ⊎_elim (each j u) (fits_new line 1 u) (at_snoc left (blank 1) u j e);
        offers = λ x.
            (let a : total (λ (u : View T). times x u.account.offered) left + times x v.account.offered ≡ total (λ (u : View T). times x u.account.offered) views + times x v.account.offered = total_set (λ (u : View T). times x u.account.offered) views id v (lent v) at in
            let b = total_snoc (λ (u : View T). times x u.account.offered) left (blank 1) in
            let d = k.offers x in
            omega arith);
        takes = λ x.
            (let a : total (λ (u : View T). times x u.account.taken) left + times x v.account.taken ≡ total (λ (u : View T). times x u.account.taken) views + times x v.account.taken = total_set (λ (u : View T). times x u.account.taken) views id v (lent v) at in
            let b = total_snoc (λ (u : View T). times x u.account.taken) left (blank 1) in
            let d = k.takes x in
            omega arith);
        parts =
            (let a : total (λ (u : View T). u.account.parts) left + v.account.parts ≡ total (λ (u : View T). u.account.parts) views + (v.account.parts - 1) = total_set (λ (u : View T). u.account.parts) views id v (lent v) at in
            let b = total_snoc (λ (u : View T). u.account.parts) left (blank 1) in
            let d = k.parts in
            omega arith);
      }

  -- one view is set to what two have, and the other to nothing: the sum stays
  both_set : (f : View T → ℕ) (views : List (View T)) (id other : ℕ) (v u : View T) → get_elem? views id ≡ some v → get_elem? (set views id (glued v u)) other ≡ some u
      → f (glued v u) ≡ f v + f u → f (blank 0) ≡ 0 → total f (set (set views id (glued v u)) other (blank 0)) ≡ total f views
  both_set f views id other v u at at' both none =
      let a = total_set f views id v (glued v u) at in
      let b = total_set f (set views id (glued v u)) other u (blank 0) at' in
      omega arith

  within_longer : (a b : List T) (own own' : List ℕ) → ((x : ℕ) → length a ≤ x → times x own ≡ 0) → ((x : ℕ) → length b ≤ x → times x own' ≡ 0) → (x : ℕ) → length (longer a b) ≤ x → times x (own ++ own') ≡ 0
  within_longer a b own own' p q x le = let m = longer_most a b (nat_lt (length a) (length b)) refl in let first = m.0 in let second = m.1 in times_neither x own own' (p x (omega arith)) (q x (omega arith))

  fits_glued : (line : List T) (v u : View T) → Fits line v → Fits line u → Fits line (glued v u)
  fits_glued line v u f g =
      let longer_is = nat_lt (length v.account.seen) (length u.account.seen) in
      record {
        seen = starts_either line u.account.seen v.account.seen g.seen f.seen longer_is;
        told = starts_either line v.account.seen u.account.seen f.seen g.seen longer_is;
        within = within_longer v.account.seen u.account.seen v.account.offered u.account.offered f.within g.within;
        idle = λ none. (let a = f.idle (omega arith) in let b = g.idle (omega arith) in (nil_both v.account.offered u.account.offered a.0 b.0, nil_both v.account.taken u.account.taken a.1 b.1));
      }

  pub merges : (id : ℕ) (v : View T) (other : ℕ) (u : View T) → Merges Lined id v other u (glued v u) (blank 0)
  merges id v other u items views k at two at' =
      let line : List T = k.gone ++ items in
      let was : get_elem? views other ≡ some u = ⊎_elim (λ x. absurd (two x.0)) (λ x. x.1) (at_set views id other (glued v u) u at') in
      let both : List (View T) = set views id (glued v u) in
      let each = keeps line line views id (glued v u) (fits_glued line v u (k.each id v at) (k.each other u was)) (λ y f. f) k.each in
      record {
        gone = k.gone;
        each = keeps line line both other (blank 0) (fits_blank line 0) (λ y f. f) each;
        offers = λ x. both_set (λ y. times x y.account.offered) views id other v u at at' (times_append x v.account.offered u.account.offered) refl ∙ k.offers x;
        takes = λ x. both_set (λ y. times x y.account.taken) views id other v u at at' (times_append x v.account.taken u.account.taken) refl ∙ k.takes x;
        parts = both_set (λ y. y.account.parts) views id other v u at at' refl refl ∙ k.parts;
      }

  -- who has all parts has all positions: of all offers, and of all that is gone
  lined_all : (n : ℕ) (items : List T) (views : List (View T)) (id : ℕ) (v : View T) → length items ≡ n → Lined items views → get_elem? views id ≡ some v → v.account.parts ≡ 1024 → HasLeft n v.account
  lined_all n items views id v few k at all =
      let line : List T = k.gone ++ items in
      let f = k.each id v at in
      let seen : ℕ = length v.account.seen in
      let whole : total (λ (u : View T). u.account.parts) views ≡ v.account.parts = k.parts ∙ sym all in
      let offered : (x : ℕ) → times x v.account.offered ≡ once_below x (length line) =
      λ x. sym (total_alone (λ (u : View T). u.account.parts) (λ (u : View T). times x u.account.offered) views id v at whole (λ j u e z. ap (times x) ((k.each j u e).idle z).0)) ∙ k.offers x in
      let taken : (x : ℕ) → times x v.account.taken ≡ once_below x (length k.gone) =
      λ x. sym (total_alone (λ (u : View T). u.account.parts) (λ (u : View T). times x u.account.taken) views id v at whole (λ j u e z. ap (times x) ((k.each j u e).idle z).1)) ∙ k.takes x in
      let short = starts_short line v.account.seen f.seen in
      let long : length line ≤ seen = positions_whole (length line) seen v.account.offered (f.within seen (omega arith)) (offered seen) (nat_lt seen (length line)) refl in
      let sum = length-append k.gone items in
      let is : length line ≡ seen = omega arith in
      let left : length k.gone ≡ seen - n = omega arith in
      record { offered = λ x. offered x ∙ ap (once_below x) is; left = omega arith; taken = λ x. taken x ∙ ap (once_below x) left }

  pub held_all : (n : ℕ) (a : Account T) → Held n (λ (items : List T). Stood a items) → a.parts ≡ 1024 → HasLeft n a
  held_all n a (items, few, s) all =
      let Q : Account T → Type 0 = λ y. y.parts ≡ 1024 → HasLeft n y in
      subst Q s.known (lined_all n items s.views s.port s.view few s.lined s.there) all
