-- What a board over memory keeps, and what of it is true of each.
use Rattle.std.specs.Prelude.{◌≡◌, ℕ, ◌==◌, ◌&&◌, ◌||◌, Bool, true, false, if◌then◌else◌, List, [], ◌∷◌, drop, Option, Some, None}
use Rattle.std.specs.List.{flat_map, list_any}
use Rattle.maple_io.specs.declared.act.Act.{Act}
use Rattle.maple_io.specs.declared.kept.Cursor.{Cursor}
use Rattle.maple_io.specs.declared.kept.Link.{Link}
use Rattle.maple_io.specs.declared.kept.Taken.{Taken}
use Rattle.maple_io.specs.declared.mem_board.MemBoard.TheInside.{Inside}
use Rattle.maple_io.specs.declared.mem_board.MemTurn.{MemTurn}
use Rattle.maple_io.specs.declared.mem_board.MemTurn.TheVariants as coming
use Rattle.maple_io.specs.Boards.{sent, was_closed, was_opened}
use Rattle.maple_io.specs.Schedules.{Schedule, are_pieces, open_once, opens_in}

-- ---- the turns

-- a turn without so many bytes of its front
abbrev pub cut : ℕ → MemTurn → MemTurn
cut n (coming.Bytes c piece) = coming.Bytes c (drop n piece)
cut n (coming.Control piece) = coming.Control (drop n piece)
cut n t = t

abbrev pub cut_first : ℕ → List MemTurn → List MemTurn
cut_first n [] = []
cut_first n (t ∷ ts) = cut n t ∷ ts

-- the turns that are left from here on
abbrev pub left_at : Cursor → List MemTurn → List MemTurn
left_at from ts = cut_first from.byte (drop from.turn ts)

-- what clauses see of it
abbrev pub schedule_of : Inside → Schedule
schedule_of b = record {
  log = b.log.value;
  left = left_at b.cursor b.turns.items;
  fails = b.fails.items;
  calls = b.calls;
  failed = b.faults;
  broken = b.breaks;
}

-- what is left of a turn: nothing, or all from one of its bytes on
abbrev pub more_at : Option ℕ → MemTurn → List MemTurn
more_at None t = []
more_at (Some n) t = cut n t ∷ []

-- ---- what was taken, and what was closed

-- what was taken for this connection
abbrev pub taken_for : ℕ → Taken → List ℕ
taken_for c t = if t.connection == c then t.bytes else []

-- a connection has a link; one of its links is closed
abbrev pub has_link : ℕ → List Link → Bool
has_link c links = list_any (λ (l : Link). l.connection == c) links

abbrev pub is_closed : ℕ → List Link → Bool
is_closed c links = list_any (λ (l : Link). l.connection == c && l.closed) links

-- a link, closed where it is this connection's
abbrev pub marked : ℕ → Link → Link
marked c l = if l.connection == c then record l { closed = true } else l

-- where the links of one connection are closed as well
abbrev pub is_closed_behind : ℕ → ℕ → List Link → Bool
is_closed_behind closed c links = is_closed c links || (closed == c && has_link c links)

-- what is left may be given, the bytes and the links are those of the log, and just the connections that were or will be opened have a link
pub record IsSound (left : List MemTurn) (taken : List Taken) (links : List Link) (log : List Act) : Type 0 where
  pub pieces : are_pieces left ≡ true
  pub once : open_once left ≡ true
  pub anew : (c : ℕ) → opens_in c left ≡ true → was_opened c log ≡ false
  pub sent_is : (c : ℕ) → sent c log ≡ flat_map (taken_for c) taken
  pub closed_is : (c : ℕ) → was_closed c log ≡ is_closed c links
  pub linked : (c : ℕ) → has_link c links ≡ (was_opened c log || opens_in c left)
