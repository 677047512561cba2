-- Turns that are given from one of their bytes on.
use Rattle.std.proofs.Common.{◌≡◌, ℕ, ◌+◌, ◌<◌, ◌≤◌, Bool, true, false, cond, List, [], ◌∷◌, ◌++◌, length, get_or, drop, Some, None, refl, sym, ap, ◌∙◌, arith, length-drop}
use Rattle.std.proofs.lemmas.List.{drop-drop, drop_all, drop_more}
use Rattle.std.proofs.lemmas.Bool.Decides.{nat_tests}
use Rattle.std.specs.Prelude.{◌==◌, ◌||◌, not}
use Rattle.maple_io.specs.declared.board.Turn.{Turn}
use Rattle.maple_io.specs.declared.kept.Cursor.{Cursor}
use Rattle.maple_io.specs.declared.mem_board.MemTurn.{MemTurn}
use Rattle.maple_io.specs.declared.mem_board.MemTurn.TheVariants as coming
use Rattle.maple_io.specs.Schedules.{are_pieces, has_bytes, left_behind, opens, opens_in, rest_of}
use Rattle.maple_io.specs.Kept.{cut, cut_first, left_at, more_at}
use Rattle.maple_io.proofs.Giving.{and_left}

-- nothing is cut off
uncut : (t : MemTurn) → cut 0 t ≡ t
uncut (coming.Opened c) = refl
uncut (coming.Bytes c piece) = refl
uncut (coming.Closed c) = refl
uncut (coming.Broken c) = refl
uncut (coming.Control piece) = refl
uncut coming.Idle = refl
uncut coming.End = refl

pub uncut_first : (ts : List MemTurn) → cut_first 0 ts ≡ ts
uncut_first [] = refl
uncut_first (t ∷ ts) = ap (λ u. u ∷ ts) (uncut t)

opens_cut : (c n : ℕ) (t : MemTurn) → opens c (cut n t) ≡ opens c t
opens_cut c n (coming.Opened d) = refl
opens_cut c n (coming.Bytes d piece) = refl
opens_cut c n (coming.Closed d) = refl
opens_cut c n (coming.Broken d) = refl
opens_cut c n (coming.Control piece) = refl
opens_cut c n coming.Idle = refl
opens_cut c n coming.End = refl

-- what is cut off opens nothing
pub opens_first : (c n : ℕ) (ts : List MemTurn) → opens_in c (cut_first n ts) ≡ opens_in c ts
opens_first c n [] = refl
opens_first c n (t ∷ ts) = ap (λ b. b || opens_in c ts) (opens_cut c n t)

-- the turns from a place on
pub from_turn : (ts : List MemTurn) (i : ℕ) (t : MemTurn) → i < length ts → get_or ts i t ≡ t → drop i ts ≡ t ∷ drop (i + 1) ts
from_turn ts i t h e = drop_more ts i t h ∙ ap (λ u. u ∷ drop (i + 1) ts) e

pub left_from : (ts : List MemTurn) (from : Cursor) (t : MemTurn) → from.turn < length ts → get_or ts from.turn t ≡ t → left_at from ts ≡ cut from.byte t ∷ drop (from.turn + 1) ts
left_from ts from t h e = ap (cut_first from.byte) (from_turn ts from.turn t h e)

pub left_none : (ts : List MemTurn) (from : Cursor) → length ts ≤ from.turn → left_at from ts ≡ []
left_none ts from h = ap (cut_first from.byte) (drop_all from.turn ts h)

-- what opens a connection from here on
pub opens_from : (c : ℕ) (ts part : List MemTurn) (from : Cursor) → part ≡ drop from.turn ts → opens_in c part ≡ opens_in c (left_at from ts)
opens_from c ts part from e = ap (opens_in c) e ∙ sym (opens_first c from.byte (drop from.turn ts))

-- what is left behind a turn that was given
pub left_past : (ts : List MemTurn) (from : Cursor) (t : MemTurn) (given : Turn) → from.turn < length ts → get_or ts from.turn t ≡ t → [] ≡ rest_of given (cut from.byte t)
    → cut_first 0 (drop (from.turn + 1) ts) ≡ left_behind given (left_at from ts)
left_past ts from t given h e f = uncut_first (drop (from.turn + 1) ts) ∙ ap (λ r. r ++ drop (from.turn + 1) ts) f ∙ ap (left_behind given) (sym (left_from ts from t h e))

pub left_within : (ts : List MemTurn) (from : Cursor) (t : MemTurn) (given : Turn) (n : ℕ) → from.turn < length ts → get_or ts from.turn t ≡ t → cut n t ∷ [] ≡ rest_of given (cut from.byte t)
    → cut_first n (drop from.turn ts) ≡ left_behind given (left_at from ts)
left_within ts from t given n h e f = ap (cut_first n) (from_turn ts from.turn t h e) ∙ ap (λ r. r ++ drop (from.turn + 1) ts) f ∙ ap (left_behind given) (sym (left_from ts from t h e))

pub first_has : (ts : List MemTurn) (from : Cursor) (t : MemTurn) → from.turn < length ts → get_or ts from.turn t ≡ t → are_pieces (left_at from ts) ≡ true → has_bytes (cut from.byte t) ≡ true
first_has ts from t h e p = and_left (has_bytes (cut from.byte t)) (are_pieces (drop (from.turn + 1) ts)) (ap are_pieces (sym (left_from ts from t h e)) ∙ p)

-- ---- a piece

-- a piece of which there is more has the byte that is next
pub has_next : (byte : ℕ) (piece : List ℕ) → not (length (drop byte piece) == 0) ≡ true → byte ≤ length piece
has_next byte piece h = let l = length-drop byte piece in grind (arith, nat_tests)

more_if : (b : Bool) (n : ℕ) (t u : MemTurn) → cut n t ≡ u → more_at (cond b None (Some n)) t ≡ cond b [] (u ∷ [])
more_if true n t u e = refl
more_if false n t u e = ap (λ v. v ∷ []) e

pub bytes_more : (c byte n : ℕ) (piece : List ℕ) → more_at (cond (n == length (drop byte piece)) None (Some (byte + n))) (coming.Bytes c piece) ≡ cond (n == length (drop byte piece)) [] (coming.Bytes c (drop n (drop byte piece)) ∷ [])
bytes_more c byte n piece = more_if (n == length (drop byte piece)) (byte + n) (coming.Bytes c piece) (coming.Bytes c (drop n (drop byte piece))) (ap (λ p. coming.Bytes c p) (sym (drop-drop n byte piece)))

pub control_more : (byte n : ℕ) (piece : List ℕ) → more_at (cond (n == length (drop byte piece)) None (Some (byte + n))) (coming.Control piece) ≡ cond (n == length (drop byte piece)) [] (coming.Control (drop n (drop byte piece)) ∷ [])
control_more byte n piece = more_if (n == length (drop byte piece)) (byte + n) (coming.Control piece) (coming.Control (drop n (drop byte piece))) (ap (λ p. coming.Control p) (sym (drop-drop n byte piece)))
