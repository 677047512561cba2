-- What clauses see of a board, and what of its log is what.
use Rattle.std.specs.Prelude.{◌≡◌, ◌≢◌, ℕ, ◌==◌, Bool, true, false, if◌then◌else◌, List, [], Option, Some}
use Rattle.std.specs.List.{flat_map, list_any}
use Rattle.maple_base.specs.Counts.{HasRisen}
use Rattle.maple_io.specs.declared.act.Act.{Act}
use Rattle.maple_io.specs.declared.act.Act.TheVariants.{Gives, Takes, Closes}
use Rattle.maple_io.specs.declared.board.Turn.TheVariants.{Opened, Bytes, Control}

-- what it did, in order; how many of its calls failed, and how many connections broke; where the board tells it, whether a turn is ready, and of each
-- connection whether there is room to send to it
pub record BoardView : Type 0 where
  pub log : List Act
  pub failed : ℕ
  pub broken : ℕ
  pub ready : Option Bool
  pub roomy : ℕ → Option Bool

-- ---- the counts

-- a start or a turn failed
abbrev pub BoardFailed : BoardView → BoardView → Type 0
BoardFailed old new = HasRisen old.failed new.failed

abbrev pub NoBoardFailed : BoardView → BoardView → Type 0
NoBoardFailed old new = new.failed ≡ old.failed

-- a connection broke
abbrev pub LinkBroke : BoardView → BoardView → Type 0
LinkBroke old new = HasRisen old.broken new.broken

abbrev pub NoLinkBroke : BoardView → BoardView → Type 0
NoLinkBroke old new = new.broken ≡ old.broken

-- ---- what may be answered

-- no turn is ready, or that isn't told
abbrev pub MayRest : BoardView → Type 0
MayRest b = b.ready ≢ Some true

-- there is no room to send to this connection, or that isn't told
abbrev pub MayBeFull : ℕ → BoardView → Type 0
MayBeFull c b = b.roomy c ≢ Some true

-- ---- what the log has

-- the bytes that came on a connection
abbrev pub heard_in : ℕ → Act → List ℕ
heard_in c (Gives (Bytes d n) bytes) = if d == c then bytes else []
heard_in c act = []

abbrev pub heard : ℕ → List Act → List ℕ
heard c log = flat_map (heard_in c) log

-- the bytes that were taken for a connection
abbrev pub sent_in : ℕ → Act → List ℕ
sent_in c (Takes d bytes answer) = if d == c then bytes else []
sent_in c act = []

abbrev pub sent : ℕ → List Act → List ℕ
sent c log = flat_map (sent_in c) log

-- the control text
abbrev pub control_in : Act → List ℕ
control_in (Gives (Control n) bytes) = bytes
control_in act = []

abbrev pub control_text : List Act → List ℕ
control_text log = flat_map control_in log

-- a connection was opened
abbrev pub is_opening : ℕ → Act → Bool
is_opening c (Gives (Opened d) bytes) = d == c
is_opening c act = false

abbrev pub was_opened : ℕ → List Act → Bool
was_opened c log = list_any (is_opening c) log

-- a connection was closed by `close`
abbrev pub is_closing : ℕ → Act → Bool
is_closing c (Closes d) = d == c
is_closing c act = false

abbrev pub was_closed : ℕ → List Act → Bool
was_closed c log = list_any (is_closing c) log
