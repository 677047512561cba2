-- What each call of a board adds to its log, and what is counted where a failure or a break counts as one.
use Rattle.std.specs.Prelude.{◌≡◌, ℕ, ◌≤◌, false, List, [], ◌∷◌, take, ⊤}
use Rattle.maple_base.specs.Counts.{next_count}
use Rattle.maple_io.specs.declared.act.Act.{Act}
use Rattle.maple_io.specs.declared.act.Act.TheVariants.{Starts, Gives, Takes}
use Rattle.maple_io.specs.declared.board.Started.{Started}
use Rattle.maple_io.specs.declared.board.Started.TheVariants as started
use Rattle.maple_io.specs.declared.board.Turn.{Turn}
use Rattle.maple_io.specs.declared.board.Turn.TheVariants as turns
use Rattle.maple_io.specs.declared.board.Sent.{Sent}
use Rattle.maple_io.specs.declared.board.Sent.TheVariants as sends
use Rattle.maple_io.specs.Boards.{was_opened}

-- ---- acts

-- a start that failed is none
abbrev pub started_acts : ℕ → ℕ → Started → List Act
started_acts listen control started.Ready = Starts listen control ∷ []
started_acts listen control started.Failed = []

-- a turn's bytes are at the front of the slice; a turn that failed, or found no memory, is none
abbrev pub given_acts : Turn → List ℕ → List Act
given_acts (turns.Bytes c n) into = Gives (turns.Bytes c n) (take n into) ∷ []
given_acts (turns.Control n) into = Gives (turns.Control n) (take n into) ∷ []
given_acts turns.Failed into = []
given_acts turns.NoMemory into = []
given_acts turn into = Gives turn [] ∷ []

-- a send that found no memory is none
abbrev pub sent_acts : ℕ → Sent → List ℕ → List Act
sent_acts c (sends.Took n) piece = Takes c (take n piece) (sends.Took n) ∷ []
sent_acts c sends.NotYet piece = Takes c [] sends.NotYet ∷ []
sent_acts c sends.Failed piece = Takes c [] sends.Failed ∷ []
sent_acts c sends.NoMemory piece = []

-- ---- bounds

-- a turn that gives bytes gives one at least, and no more than there is room for
abbrev pub TurnsWithin : Turn → ℕ → Type 0
TurnsWithin (turns.Bytes c n) room = (1 ≤ n) × (n ≤ room)
TurnsWithin (turns.Control n) room = (1 ≤ n) × (n ≤ room)
TurnsWithin turn room = ⊤

-- a send that takes bytes takes one at least, and no more than the piece has
abbrev pub SendsWithin : Sent → ℕ → Type 0
SendsWithin (sends.Took n) len = (1 ≤ n) × (n ≤ len)
SendsWithin sent len = ⊤

-- ---- turns

-- a number is given to a connection once
abbrev pub OpensAnew : Turn → List Act → Type 0
OpensAnew (turns.Opened c) log = was_opened c log ≡ false
OpensAnew turn log = ⊤

-- a connection broke
abbrev pub IsBreak : Turn → Type 0
IsBreak (turns.Broken c) = ⊤
IsBreak turn = ⊥

-- ---- counts

-- how many calls failed, behind a start
abbrev pub failed_starts : ℕ → Started → ℕ
failed_starts failed started.Ready = failed
failed_starts failed started.Failed = next_count failed

-- how many calls failed, behind a turn
abbrev pub failed_turns : ℕ → Turn → ℕ
failed_turns failed turns.Failed = next_count failed
failed_turns failed turn = failed

-- how many connections broke, behind a turn
abbrev pub broken_turns : ℕ → Turn → ℕ
broken_turns broken (turns.Broken c) = next_count broken
broken_turns broken turn = broken

-- how many connections broke, behind a send
abbrev pub broken_sends : ℕ → Sent → ℕ
broken_sends broken sends.Failed = next_count broken
broken_sends broken sent = broken
