-- What clauses see of a board over memory, and what comes of the turns that it was handed.
use Rattle.std.specs.Prelude.{◌≡◌, ℕ, ◌==◌, ◌&&◌, Bool, true, false, not, min, if◌then◌else◌, List, [], ◌∷◌, ◌++◌, length, drop, Some, ⊤}
use Rattle.std.specs.List.{list_all, list_any}
use Rattle.maple_base.specs.Counts.{next_count}
use Rattle.maple_io.specs.declared.act.Act.{Act}
use Rattle.maple_io.specs.declared.board.Turn.{Turn}
use Rattle.maple_io.specs.declared.board.Turn.TheVariants as turns
use Rattle.maple_io.specs.declared.board.Sent.{Sent}
use Rattle.maple_io.specs.declared.board.Sent.TheVariants as sends
use Rattle.maple_io.specs.declared.mem_board.MemTurn.{MemTurn}
use Rattle.maple_io.specs.declared.mem_board.MemTurn.TheVariants as coming
use Rattle.maple_io.specs.Boards.{BoardView}

-- what it did; the turns that are left, of a piece that was given in part the rest; which of its calls fail, and how many were made; how many failed, and
-- how many connections broke
pub record Schedule : Type 0 where
  pub log : List Act
  pub left : List MemTurn
  pub fails : List ℕ
  pub calls : ℕ
  pub failed : ℕ
  pub broken : ℕ

-- one that did nothing yet
abbrev pub begun : List MemTurn → List ℕ → Schedule
begun left fails = record { log = []; left = left; fails = fails; calls = 0; failed = 0; broken = 0 }

-- a turn is ready, also the end behind the last
abbrev pub is_ready : List MemTurn → Bool
is_ready [] = true
is_ready (coming.Idle ∷ ts) = false
is_ready (t ∷ ts) = true

-- what any board tells: this one tells also whether a turn is ready, and there is always room to send to each connection
abbrev pub told : Schedule → BoardView
told s = record { log = s.log; failed = s.failed; broken = s.broken; ready = Some (is_ready s.left); roomy = λ c. Some true }

-- ---- what it may be handed

-- a piece has a byte
abbrev pub has_bytes : MemTurn → Bool
has_bytes (coming.Bytes c piece) = not (length piece == 0)
has_bytes (coming.Control piece) = not (length piece == 0)
has_bytes t = true

abbrev pub are_pieces : List MemTurn → Bool
are_pieces ts = list_all has_bytes ts

-- a turn opens a connection
abbrev pub opens : ℕ → MemTurn → Bool
opens c (coming.Opened d) = d == c
opens c t = false

abbrev pub opens_in : ℕ → List MemTurn → Bool
opens_in c ts = list_any (opens c) ts

-- a turn opens what one of the others opens
abbrev pub is_opened_in : MemTurn → List MemTurn → Bool
is_opened_in (coming.Opened c) ts = opens_in c ts
is_opened_in t ts = false

-- none is opened twice
abbrev pub open_once : List MemTurn → Bool
open_once [] = true
open_once (t ∷ ts) = not (is_opened_in t ts) && open_once ts

-- ---- what comes of it

-- a turn that comes, with as many of its bytes as there is room for
abbrev pub turn_of : MemTurn → ℕ → Turn
turn_of (coming.Opened c) room = turns.Opened c
turn_of (coming.Bytes c piece) room = turns.Bytes c (min (length piece) room)
turn_of (coming.Closed c) room = turns.Closed c
turn_of (coming.Broken c) room = turns.Broken c
turn_of (coming.Control piece) room = turns.Control (min (length piece) room)
turn_of coming.Idle room = turns.Idle
turn_of coming.End room = turns.End

-- its bytes
abbrev pub bytes_of : MemTurn → List ℕ
bytes_of (coming.Bytes c piece) = piece
bytes_of (coming.Control piece) = piece
bytes_of t = []

-- what is left of it behind what was given: of a piece that was given in part, the rest
abbrev pub rest_of : Turn → MemTurn → List MemTurn
rest_of (turns.Bytes c n) (coming.Bytes d piece) = if n == length piece then [] else coming.Bytes d (drop n piece) ∷ []
rest_of (turns.Control n) (coming.Control piece) = if n == length piece then [] else coming.Control (drop n piece) ∷ []
rest_of turns.Failed t = t ∷ []
rest_of turns.NoMemory t = t ∷ []
rest_of turn t = []

-- the same of all turns that are left; behind the last the end comes
abbrev pub next_turn : List MemTurn → ℕ → Turn
next_turn [] room = turns.End
next_turn (t ∷ ts) room = turn_of t room

abbrev pub next_bytes : List MemTurn → List ℕ
next_bytes [] = []
next_bytes (t ∷ ts) = bytes_of t

abbrev pub left_behind : Turn → List MemTurn → List MemTurn
left_behind turn [] = []
left_behind turn (t ∷ ts) = rest_of turn t ++ ts

-- a send takes the whole piece, unless it fails or memory runs out
abbrev pub TakesWhole : Sent → ℕ → Type 0
TakesWhole (sends.Took n) len = n ≡ len
TakesWhole sends.NotYet len = ⊥
TakesWhole sends.Failed len = ⊤
TakesWhole sends.NoMemory len = ⊤

-- ---- one more call

-- how many calls were made; a send for which memory runs out has no number
abbrev pub calls_sent : ℕ → Sent → ℕ
calls_sent calls sends.NoMemory = calls
calls_sent calls sent = next_count calls
