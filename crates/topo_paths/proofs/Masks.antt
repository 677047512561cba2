-- Masks of places, bit by bit.
use Rattle.std.proofs.Common.{◌≡◌, ℕ, ◌-◌, ◌*◌, ◌^◌, ◌%◌, ◌<◌, Bool, true, false, not, cond, eqb, ◌&&◌, ◌||◌, min, max, List, [], length, get_or, set, Option, Some, None, sym, ap, ◌∙◌, subst, ⊎_elim, arith}
use Rattle.std.specs.Prelude.{bit_and, bit_or}
use Rattle.std.specs.Int.{bit_at, bit_not, w64, trailing_zeros}
use Rattle.std.proofs.lemmas.Bool.{cases_eq, cases_lt, cases_Bool, both_ways, eq-eqb, eqb-true, ne_eqb, and_left, and_right}
use Rattle.std.proofs.lemmas.Bool.Decides.{nat_tests}
use Rattle.std.proofs.lemmas.Grind.{get_or-set_at}
use Rattle.std.proofs.lemmas.List.{length-set, get_or-set_same, get_or-set_other}
use Rattle.std.proofs.lemmas.Nat.{and_le_l}
use Rattle.std.proofs.lemmas.Nat.Bits.{bit_at_and, bit_at_or, bit_at_not, bit_at-lt, bit_at-zero, bit_at-trailing_zeros, bit_at_clear_same, bit_at_clear_other}
use Rattle.maple_base.specs.declared.cells.Place.{Place}
use Rattle.topo_paths.specs.declared.rows.Ends.{Ends}
use Rattle.topo_paths.specs.Rows.{cell_at}
use Rattle.topo_paths.specs.Levels.{has, reaches, IsJoined}
use Rattle.topo_paths.proofs.Levels.{or_none}

pub has_or : (a b k : ℕ) → has (bit_or a b) k ≡ (has a k || has b k)
has_or a b k = ap (λ x. eqb x 1) (bit_at_or a b k) ∙ go (bit_at a k) (bit_at b k) (bit_at-lt a k) (bit_at-lt b k)
  where
    go : (x y : ℕ) → x < 2 → y < 2 → eqb (max x y) 1 ≡ (eqb x 1 || eqb y 1)
    go x y lx ly = grind (arith, nat_tests)

pub has_and_not : (a b k : ℕ) → b < 2 ^ 64 → k < 64 → has (bit_and a (bit_not w64 b)) k ≡ (has a k && not (has b k))
has_and_not a b k lb lk = ap (λ x. eqb x 1) (bit_at_and a (bit_not w64 b) k ∙ ap (min (bit_at a k)) (bit_at_not w64 b k lb lk)) ∙ go (bit_at a k) (bit_at b k) (bit_at-lt a k) (bit_at-lt b k)
  where
    go : (x y : ℕ) → x < 2 → y < 2 → eqb (min x (1 - y)) 1 ≡ (eqb x 1 && not (eqb y 1))
    go x y lx ly = grind (arith, nat_tests)

pub has_none : (k : ℕ) → has 0 k ≡ false
has_none k = ap (λ x. eqb x 1) (bit_at-zero k)

-- the lowest place of a mask, and the mask without it
pub record IsTaken (left rest place : ℕ) : Type 0 where
  pub within : place < 64
  pub had : has left place ≡ true
  pub gone : has rest place ≡ false
  pub others : (k : ℕ) → k < 64 → (k ≡ place → ⊥) → has rest k ≡ has left k

pub taken : (left : ℕ) → 0 < left → left < 2 ^ 64 → IsTaken left (bit_and left (bit_not w64 (1 * 2 ^ trailing_zeros w64 left % 2 ^ 64))) (trailing_zeros w64 left)
taken left some fits =
    let (within, had, first) = bit_at-trailing_zeros w64 left some fits in
    record {
      within = within;
      had = ap (λ x. eqb x 1) had;
      gone = ap (λ x. eqb x 1) (bit_at_clear_same w64 left (trailing_zeros w64 left) within);
      others = λ k lk ne. ap (λ x. eqb x 1) (bit_at_clear_other w64 left (trailing_zeros w64 left) within k lk ne);
    }

pub taken_less : (left mask place : ℕ) → IsTaken left (bit_and left mask) place → bit_and left mask < left
taken_less left mask place t =
    ⊎_elim
    (λ less. less)
    (λ more.
    let same : bit_and left mask ≡ left = omega (arith, more, and_le_l left mask) in
    absurd (both_ways _ t.gone (ap (λ x. has x place) same ∙ t.had)))
    (cases_lt (bit_and left mask) left)

pub rows_set : (rows : List (List (Option Place))) (place from : ℕ) (o : Option Place) → ((i : ℕ) → i < length rows → length (get_or rows i []) ≡ 64) → (i : ℕ) → i < length (set rows place (set (get_or rows place []) from o)) → length (get_or (set rows place (set (get_or rows place []) from o)) i []) ≡ 64
rows_set rows place from o all i lt =
    let less : i < length rows = omega (arith, lt, length-set rows place (set (get_or rows place []) from o)) in
    ⊎_elim
    (λ e. ap length (get_or-set_at rows place i (set (get_or rows place []) from o) [] e (omega (arith, less, e))) ∙ length-set (get_or rows place []) from o ∙ ap (λ x. length (get_or rows x [])) (sym e) ∙ all i less)
    (λ ne. ap length (get_or-set_other rows place i (set (get_or rows place []) from o) [] ne) ∙ all i less)
    (cases_eq i place)

-- a hop was written to one more place
module _ (rows : List (List (Option Place))) (from : ℕ) (hop : Place) (left rest place : ℕ) (square : length rows ≡ 64) (row : length (get_or rows place []) ≡ 64) (lf : from < 64) (t : IsTaken left rest place) where
  abbrev written : List (List (Option Place))
  written = set rows place (set (get_or rows place []) from (Some hop))

  abbrev Same : ℕ → ℕ → Type 0
  Same to at = cond (eqb from at && has rest to) (Some hop) (cell_at written to at) ≡ cond (eqb from at && has left to) (Some hop) (cell_at rows to at)

  cell_set : (at : ℕ) → cell_at written place at ≡ cond (eqb from at) (Some hop) (cell_at rows place at)
  cell_set at =
      ap (λ r. get_or r at None) (get_or-set_same rows place (set (get_or rows place []) from (Some hop)) [] (omega (arith, t.within, square)))
      ∙ ⊎_elim
      (λ e. get_or-set_at (get_or rows place []) from at (Some hop) None e (omega (arith, lf, row)) ∙ sym (ap (λ b. cond b (Some hop) (cell_at rows place at)) (eq-eqb from at (sym e))))
      (λ ne. get_or-set_other (get_or rows place []) from at (Some hop) None ne ∙ sym (ap (λ b. cond b (Some hop) (cell_at rows place at)) (ne_eqb from at (λ e. ne (sym e)))))
      (cases_eq at from)

  here : (at : ℕ) → Same place at
  here at = (λ i. cond (eqb from at && t.gone i) (Some hop) (cell_set at i)) ∙ go (eqb from at) ∙ sym (λ i. cond (eqb from at && t.had i) (Some hop) (cell_at rows place at))
    where
      go : (b : Bool) → cond (b && false) (Some hop) (cond b (Some hop) (cell_at rows place at)) ≡ cond (b && true) (Some hop) (cell_at rows place at)
      go b = grind arith

  pub written_more : (to at : ℕ) → to < 64 → Same to at
  written_more to at lt =
      ⊎_elim
      (λ e. subst (λ x. Same x at) (sym e) (here at))
      (λ ne. λ i. cond (eqb from at && t.others to lt ne i) (Some hop) (ap (λ r. get_or r at None) (get_or-set_other rows place to (set (get_or rows place []) from (Some hop)) [] ne) i))
      (cases_eq to place)

-- a link was joined
module _ (e : Ends) (hop : Place) (before masks : List ℕ) (rows : List (List (Option Place))) (fresh : ℕ) (fresh_is : (to : ℕ) → to < 64 → has fresh to ≡ (reaches before e.to to && not (reaches masks e.from to))) where
  at_from : (from to : ℕ) → to < 64 → (eqb e.from from && has fresh to) ≡ (eqb e.from from && (reaches before e.to to && not (reaches masks from to)))
  at_from from to lt =
      ⊎_elim
      (λ same. ap (λ b. eqb e.from from && b) (fresh_is to lt ∙ ap (λ x. reaches before e.to to && not (reaches masks x to)) (eqb-true _ _ same)))
      (λ ne. and_left (eqb e.from from) (has fresh to) ne ∙ sym (and_left (eqb e.from from) (reaches before e.to to && not (reaches masks from to)) ne))
      (cases_Bool (eqb e.from from))

  pub joined_none : fresh ≡ 0 → IsJoined e hop before masks rows masks rows
  joined_none none =
      record {
        reached = λ from to lf lt. sym (absorb (eqb e.from from) (reaches before e.to to) (reaches masks from to) (nothing from to lt));
        hops = λ from to lf lt. sym (ap (λ b. cond b (Some hop) (cell_at rows to from)) (nothing from to lt));
      }
    where
      nothing : (from to : ℕ) → to < 64 → (eqb e.from from && (reaches before e.to to && not (reaches masks from to))) ≡ false
      nothing from to lt = sym (at_from from to lt) ∙ and_right (eqb e.from from) (has fresh to) (ap (λ x. has x to) none ∙ has_none to)

      absorb : (a b c : Bool) → (a && (b && not c)) ≡ false → (c || (a && b)) ≡ c
      absorb a b c h = grind arith

  pub joined_some : (rows' : List (List (Option Place))) → length masks ≡ 64 → e.from < 64 → ((to at : ℕ) → to < 64 → at < 64 → cell_at rows' to at ≡ cond (eqb e.from at && has fresh to) (Some hop) (cell_at rows to at)) → IsJoined e hop before masks rows (set masks e.from (bit_or (get_or masks e.from 0) fresh)) rows'
  joined_some rows' long within written' =
      record {
        reached = λ from to lf lt. ⊎_elim (λ same. here from to lt same) (λ ne. there from to ne) (cases_eq from e.from);
        hops = λ from to lf lt. written' to from lt lf ∙ ap (λ b. cond b (Some hop) (cell_at rows to from)) (at_from from to lt);
      }
    where
      grow : (m b : Bool) → (m || (b && not m)) ≡ (m || b)
      grow m b = grind arith

      here : (from to : ℕ) → to < 64 → from ≡ e.from → reaches (set masks e.from (bit_or (get_or masks e.from 0) fresh)) from to ≡ (reaches masks from to || (eqb e.from from && reaches before e.to to))
      here from to lt same =
          ap (λ x. has x to) (get_or-set_at masks e.from from (bit_or (get_or masks e.from 0) fresh) 0 same (omega (arith, within, long)))
          ∙ has_or (get_or masks e.from 0) fresh to
          ∙ ap (λ b. reaches masks e.from to || b) (fresh_is to lt)
          ∙ grow (reaches masks e.from to) (reaches before e.to to)
          ∙ sym (λ i. reaches masks (same i) to || (eq-eqb e.from from (sym same) i && reaches before e.to to))

      there : (from to : ℕ) → (from ≡ e.from → ⊥) → reaches (set masks e.from (bit_or (get_or masks e.from 0) fresh)) from to ≡ (reaches masks from to || (eqb e.from from && reaches before e.to to))
      there from to ne =
          ap (λ x. has x to) (get_or-set_other masks e.from from (bit_or (get_or masks e.from 0) fresh) 0 ne)
          ∙ or_none (reaches masks from to)
          ∙ ap (λ b. reaches masks from to || (b && reaches before e.to to)) (sym (ne_eqb e.from from (λ q. ne (sym q))))
