-- Blocks one behind the other: the first that has a message has the first message of all.
use Rattle.std.proofs.Common.{◌≡◌, ℕ, zero, suc, ◌<◌, ◌≤◌, Bool, true, false, cond, not, List, [], ◌∷◌, ◌++◌, length, get_or, set, drop, Some, None, refl, sym, ap, ◌∙◌, ⊎_elim, arith}
use Rattle.std.specs.Prelude.{◌==◌, if◌then◌else◌}
use Rattle.std.specs.List.{find, position, position_or_len, remove}
use Rattle.std.proofs.lemmas.Bool.{cases_lt, eqb-true, lt-ltb}
use Rattle.std.proofs.lemmas.List.{drop-append-le, nil_from_length}
use Rattle.std.proofs.lemmas.List.Quantifiers.{position-Some}
use Rattle.std.proofs.lemmas.List.Folds.{find_at}
use Rattle.std.proofs.lemmas.Option.{none-some, slice_get_past}
use Rattle.of10_codec.specs.declared.message.Message.{Message}
use Rattle.world_places.specs.Places.{has_more, joined}

abbrev Blocks : Type 0
Blocks = List (List Message)

was_true : (b : Bool) → not b ≡ false → b ≡ true
was_true true h = refl
was_true false h = cc

no_more : (ms : List Message) → has_more ms ≡ false → ms ≡ []
no_more ms h = nil_from_length ms (eqb-true (length ms) 0 (was_true (length ms == 0) h))

some_more : (ms : List Message) → has_more ms ≡ true → 0 < length ms
some_more [] h = cc
some_more (m ∷ ms) h = omega arith

-- ---- none has a message

without_any : (bs : Blocks) → find has_more bs ≡ None → joined bs ≡ []
without_any [] h = refl
without_any (b ∷ bs) h = go (has_more b) refl (without_any bs) h
  where
    go : (more : Bool) → has_more b ≡ more → (find has_more bs ≡ None → joined bs ≡ []) → (if more then Some b else find has_more bs) ≡ None → b ++ joined bs ≡ []
    go true e rest h = cc
    go false e rest h = ap (λ ms. ms ++ joined bs) (no_more b e) ∙ rest h

none_found : (bs : Blocks) → position has_more bs ≡ None → find has_more bs ≡ None
none_found bs e =
    let n = position_or_len has_more bs in
    ⊎_elim (λ (lt : n < length bs). absurd (none-some n (sym e ∙ ap (λ b. cond b (Some n) None) (lt-ltb n (length bs) lt))))
    (λ (ge : length bs ≤ n). find_at has_more bs ∙ slice_get_past bs n ge)
    (cases_lt n (length bs))

pub none_left : (bs : Blocks) → position has_more bs ≡ None → joined bs ≡ []
none_left bs e = without_any bs (none_found bs e)

-- ---- the blocks ahead of a place have none

abbrev AreEmpty : ℕ → Blocks → Type 0
AreEmpty i bs = (k : ℕ) (d : List Message) → k < i → has_more (get_or bs k d) ≡ false

later : (i : ℕ) (b : List Message) (bs : Blocks) → AreEmpty (suc i) (b ∷ bs) → AreEmpty i bs
later i b bs none k d h = none (suc k) d (omega arith)

first_empty : (i : ℕ) (b : List Message) (bs : Blocks) → AreEmpty (suc i) (b ∷ bs) → b ≡ []
first_empty i b bs none = no_more b (none 0 b (omega arith))

joined_at : (bs : Blocks) (i : ℕ) (d : List Message) → i < length bs → AreEmpty i bs → joined bs ≡ get_or bs i d ++ joined (drop (suc i) bs)
joined_at [] i d h none = absurd (omega arith)
joined_at (b ∷ bs) zero d h none = refl
joined_at (b ∷ bs) (suc i) d h none = ap (λ ms. ms ++ joined bs) (first_empty i b bs none) ∙ joined_at bs i d (omega arith) (later i b bs none)

joined-set : (bs : Blocks) (i : ℕ) (b : List Message) → i < length bs → AreEmpty i bs → joined (set bs i b) ≡ b ++ joined (drop (suc i) bs)
joined-set [] i b h none = absurd (omega arith)
joined-set (a ∷ bs) zero b h none = refl
joined-set (a ∷ bs) (suc i) b h none = ap (λ ms. ms ++ joined (set bs i b)) (first_empty i a bs none) ∙ joined-set bs i b (omega arith) (later i a bs none)

joined-remove : (bs : Blocks) (i : ℕ) (b : List Message) → i < length bs → AreEmpty i bs → joined (remove (set bs i b) i) ≡ joined (drop (suc i) bs)
joined-remove [] i b h none = absurd (omega arith)
joined-remove (a ∷ bs) zero b h none = refl
joined-remove (a ∷ bs) (suc i) b h none = ap (λ ms. ms ++ joined (remove (set bs i b) i)) (first_empty i a bs none) ∙ joined-remove bs i b (omega arith) (later i a bs none)

-- ---- the first block that has a message

module _ (bs : Blocks) (i : ℕ) (b : List Message) (at : position has_more bs ≡ Some i) (is : b ≡ get_or bs i b) where
  within : i < length bs
  within = (position-Some has_more bs i b at).0

  none : AreEmpty i bs
  none k d h = (position-Some has_more bs i d at).2 k h

  pub has_some : 0 < length b
  has_some = some_more b (ap has_more is ∙ (position-Some has_more bs i b at).1)

  parted : joined bs ≡ b ++ joined (drop (suc i) bs)
  parted = joined_at bs i b within none ∙ ap (λ ms. ms ++ joined (drop (suc i) bs)) (sym is)

  pub begins : (m : Message) (rest : List Message) → b ≡ m ∷ rest → joined bs ≡ m ∷ (rest ++ joined (drop (suc i) bs))
  begins m rest e = parted ∙ ap (λ ms. ms ++ joined (drop (suc i) bs)) e

  gone : drop 1 (joined bs) ≡ drop 1 b ++ joined (drop (suc i) bs)
  gone = let some = has_some in ap (drop 1) parted ∙ drop-append-le 1 b (joined (drop (suc i) bs)) (omega arith)

  pub goes : (c : List Message) → c ≡ drop 1 b → joined (set bs i c) ≡ drop 1 (joined bs)
  goes c e = joined-set bs i c within none ∙ ap (λ ms. ms ++ joined (drop (suc i) bs)) e ∙ sym gone

  pub goes_whole : (c : List Message) → c ≡ drop 1 b → (length c == 0) ≡ true → joined (remove (set bs i c) i) ≡ drop 1 (joined bs)
  goes_whole c e empty =
      let nothing : c ≡ [] = nil_from_length c (eqb-true (length c) 0 empty) in
      joined-remove bs i c within none ∙ ap (λ ms. ms ++ joined (drop (suc i) bs)) (sym nothing ∙ e) ∙ sym gone
