-- What a turn that is given leaves of the turns, and what is so of it.
use Rattle.std.proofs.Common.{◌≡◌, ◌≢◌, ℕ, ◌<◌, ◌≤◌, Bool, true, false, cond, List, [], ◌∷◌, ◌++◌, length, drop, min, Some, refl, sym, ap, subst, ◌∙◌, arith, length-drop}
use Rattle.std.proofs.lemmas.Bool.Decides.{nat_tests}
use Rattle.std.specs.Prelude.{◌==◌, ◌&&◌, not}
use Rattle.maple_io.specs.declared.board.Turn.{Turn}
use Rattle.maple_io.specs.declared.board.Turn.TheVariants as turns
use Rattle.maple_io.specs.declared.mem_board.MemTurn.{MemTurn}
use Rattle.maple_io.specs.declared.mem_board.MemTurn.TheVariants as coming
use Rattle.maple_io.specs.Turns.{TurnsWithin}
use Rattle.maple_io.specs.Schedules.{are_pieces, is_ready, left_behind, next_turn, open_once, opens_in}

pub and_left : (a b : Bool) → (a && b) ≡ true → a ≡ true
and_left true b e = refl
and_left false b e = e

pub and_right : (a b : Bool) → (a && b) ≡ true → b ≡ true
and_right true b e = e
and_right false b e = absurd (cc)

-- what is left may be given as well
pub record Fit (left : List MemTurn) : Type 0 where
  pub pieces : are_pieces left ≡ true
  pub once : open_once left ≡ true

has_more : (piece : List ℕ) (n : ℕ) → n ≤ length piece → (n == length piece) ≡ false → not (length (drop n piece) == 0) ≡ true
has_more piece n most e = let l = length-drop n piece in grind (arith, nat_tests)

pub shrinks : (left : List MemTurn) (room : ℕ) → are_pieces left ≡ true → open_once left ≡ true → Fit (left_behind (next_turn left room) left)
shrinks [] room p o = record { pieces = p; once = o }
shrinks (coming.Opened k ∷ ts) room p o = record { pieces = p; once = and_right (not (opens_in k ts)) (open_once ts) o }
shrinks (coming.Bytes k piece ∷ ts) room p o = go (min (length piece) room == length piece) refl
  where
    go : (b : Bool) → (min (length piece) room == length piece) ≡ b → Fit (cond b [] (coming.Bytes k (drop (min (length piece) room) piece) ∷ []) ++ ts)
    go true e = record { pieces = and_right (not (length piece == 0)) (are_pieces ts) p; once = o }
    go false e =
        let most : min (length piece) room ≤ length piece = omega arith in
        let more = has_more piece (min (length piece) room) most e in
        record { pieces = ap (λ b. b && are_pieces ts) more ∙ and_right (not (length piece == 0)) (are_pieces ts) p; once = o }
shrinks (coming.Closed k ∷ ts) room p o = record { pieces = p; once = o }
shrinks (coming.Broken k ∷ ts) room p o = record { pieces = p; once = o }
shrinks (coming.Control piece ∷ ts) room p o = go (min (length piece) room == length piece) refl
  where
    go : (b : Bool) → (min (length piece) room == length piece) ≡ b → Fit (cond b [] (coming.Control (drop (min (length piece) room) piece) ∷ []) ++ ts)
    go true e = record { pieces = and_right (not (length piece == 0)) (are_pieces ts) p; once = o }
    go false e =
        let most : min (length piece) room ≤ length piece = omega arith in
        let more = has_more piece (min (length piece) room) most e in
        record { pieces = ap (λ b. b && are_pieces ts) more ∙ and_right (not (length piece == 0)) (are_pieces ts) p; once = o }
shrinks (coming.Idle ∷ ts) room p o = record { pieces = p; once = o }
shrinks (coming.End ∷ ts) room p o = record { pieces = p; once = o }

within : (piece : List ℕ) (ts : List MemTurn) (room : ℕ) → 0 < room → (not (length piece == 0) && are_pieces ts) ≡ true → (1 ≤ min (length piece) room) × (min (length piece) room ≤ room)
within piece ts room some p =
    let has : not (length piece == 0) ≡ true = and_left (not (length piece == 0)) (are_pieces ts) p in
    let more : 0 < length piece = grind (arith, nat_tests) in
    (omega arith, omega arith)

fits_next : (left : List MemTurn) (room : ℕ) → 0 < room → are_pieces left ≡ true → TurnsWithin (next_turn left room) room
fits_next [] room some p = tt
fits_next (coming.Opened k ∷ ts) room some p = tt
fits_next (coming.Bytes k piece ∷ ts) room some p = within piece ts room some p
fits_next (coming.Closed k ∷ ts) room some p = tt
fits_next (coming.Broken k ∷ ts) room some p = tt
fits_next (coming.Control piece ∷ ts) room some p = within piece ts room some p
fits_next (coming.Idle ∷ ts) room some p = tt
fits_next (coming.End ∷ ts) room some p = tt

pub fits : (left : List MemTurn) (room : ℕ) (t : Turn) → t ≡ next_turn left room → 0 < room → are_pieces left ≡ true → TurnsWithin t room
fits left room t e some p = subst (λ u. TurnsWithin u room) (sym e) (fits_next left room some p)

pub rests : (left : List MemTurn) (room : ℕ) (t : Turn) → t ≡ next_turn left room → t ≡ turns.Idle → Some (is_ready left) ≢ Some true
rests [] room t e i = absurd (cc)
rests (coming.Opened k ∷ ts) room t e i = absurd (cc)
rests (coming.Bytes k piece ∷ ts) room t e i = absurd (cc)
rests (coming.Closed k ∷ ts) room t e i = absurd (cc)
rests (coming.Broken k ∷ ts) room t e i = absurd (cc)
rests (coming.Control piece ∷ ts) room t e i = absurd (cc)
rests (coming.Idle ∷ ts) room t e i = λ f. absurd (cc)
rests (coming.End ∷ ts) room t e i = absurd (cc)

pub never_fails : (left : List MemTurn) (room : ℕ) (t : Turn) → t ≡ next_turn left room → t ≢ turns.Failed
never_fails [] room t e i = cc
never_fails (coming.Opened k ∷ ts) room t e i = cc
never_fails (coming.Bytes k piece ∷ ts) room t e i = cc
never_fails (coming.Closed k ∷ ts) room t e i = cc
never_fails (coming.Broken k ∷ ts) room t e i = cc
never_fails (coming.Control piece ∷ ts) room t e i = cc
never_fails (coming.Idle ∷ ts) room t e i = cc
never_fails (coming.End ∷ ts) room t e i = cc
