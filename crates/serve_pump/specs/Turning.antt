-- What is done in a turn, from one function to the next.
use Rattle.std.specs.Prelude.{◌≡◌, ◌⊎◌, ℕ, Bool, true, false, not, List, [], ◌∷◌, ◌++◌, length, Option, Some}
use Rattle.std.specs.Option.{option_to_list}
use Rattle.maple_io.specs.declared.act.Act.{Act}
use Rattle.maple_io.specs.declared.board.Sent.{Sent}
use Rattle.maple_io.specs.declared.board.Sent.TheVariants as sends
use Rattle.maple_io.specs.declared.board.Turn.{Turn as BoardTurn}
use Rattle.maple_io.specs.declared.board.Turn.TheVariants as turn
use Rattle.maple_io.specs.Boards.{BoardView, NoBoardFailed, sent, was_closed}
use Rattle.maple_io.specs.Turns.{TurnsWithin}
use Rattle.board_lines.specs.Laws.{given_by}
use Rattle.board_lines.specs.Readings.{Reading, last_item}
use Rattle.machine_desk.specs.declared.report.ReportStop.{ReportStop}
use Rattle.machine_desk.specs.declared.report.ReportStop.TheVariants as reports
use Rattle.machine_moves.specs.MoveLaws.{StatesGrow}
use Rattle.machine_steps.specs.declared.entry.Entry.{Entry}
use Rattle.machine_steps.specs.declared.entry.Entry.TheVariants as entries
use Rattle.serve_steps.specs.Deeds.{Past, acts_of, is_open, is_over, last_answer, was_cut}
use Rattle.serve_steps.specs.Laws.{EndedIsGiven, LastAsks, LinesGoOn, ReportIsTold, StatesAreTold}
use Rattle.serve_steps.specs.Parts.{Given, is_taken, IsSentUnless}
use Rattle.serve_steps.specs.Runs.{taken_report}
use Rattle.serve_steps.specs.Texts.{AreEntriesOf, asks_of}
use Rattle.machine_desk.specs.declared.hearing.Came.TheVariants.{Nothing}
use Rattle.serve_channels.specs.declared.server.Server.{Server}
use Rattle.serve_channels.specs.Controlling.{ReadsOn}
use Rattle.serve_channels.specs.Delivering.{IsNew, Receives, bytes_in}
use Rattle.serve_channels.specs.Hearing.{Hears}
use Rattle.serve_channels.specs.Keeping.{GoesFrom, IsKept}
use Rattle.serve_channels.specs.Servers.{IsUnknown}
use Rattle.serve_channels.specs.Stretches.{IsAside, Stretch}
use Rattle.serve_pump.specs.declared.pump.Pump.{Pump}
use Rattle.serve_pump.specs.declared.pump.TurnStop.{TurnStop}
use Rattle.serve_pump.specs.declared.pump.TurnStop.TheVariants as stops

-- ---- a turn came

-- it is one that the log has
abbrev pub Comes : BoardTurn → Type 0
Comes turn.Failed = ⊥
Comes turn.NoMemory = ⊥
Comes t = Unit {0}

-- it was received, with its bytes at the front of the room
pub record IsReceived (t : BoardTurn) (old : Pump) (old_board : BoardView) (new : Pump) (new_board : BoardView) : Type 0 where
  pub comes : Comes t
  pub receives : Receives t (bytes_in t new.room.items) old.server old_board.log new.server new_board.log
  pub within : TurnsWithin t (length new.room.items)
  pub spared : NoBoardFailed old_board new_board
  pub reader : new.reader ≡ old.reader

-- some deeds were done so far, the turn too; a connection that it opened has a number with which nothing else was done
pub record IsTurned (t : BoardTurn) (log : List Act) (s : Server) : Type 0 where
  pub given : Given
  pub before : List Act
  pub past : Past
  pub kept : IsKept given before past log s
  pub new : IsNew t past s

abbrev pub IsSomeTurned : BoardTurn → Server → Type 0
IsSomeTurned t s = (log : List Act) × IsTurned t log s

-- whatever was done before, and the turn
abbrev pub GoesBehind : BoardTurn → (Past → List Entry → Past → Type 0) → Server → List Act → Server → List Act → Type 0
GoesBehind t So old old_log new new_log = GoesFrom (λ past. IsNew t past old) So old old_log new new_log

-- a stretch of deeds was done, of which this holds, and all is kept; the report wasn't taken
pub record Acted (g : Given) (before : List Act) (So : List Entry → Past → Type 0) (past : Past) (log : List Act) (s : Server) : Type 0 where
  pub done : Past
  pub own : List Entry
  pub stretch : Stretch own done past
  pub so : So own done
  pub kept : IsKept g before (done ++ past) log s
  pub unread : taken_report done ≡ []

-- whatever was done before
abbrev pub Acts : (Past → List Entry → Past → Type 0) → Server → List Act → Server → List Act → Type 0
Acts So old old_log new new_log =
    (g : Given) (before : List Act) (past : Past) → IsKept g before past old_log old → Acted g before (So past) past new_log new

-- and the turn
abbrev pub ActsBehind : BoardTurn → (Past → List Entry → Past → Type 0) → Server → List Act → Server → List Act → Type 0
ActsBehind t So old old_log new new_log =
    (g : Given) (before : List Act) (past : Past) → IsKept g before past old_log old → IsNew t past old → Acted g before (So past) past new_log new

-- ---- what it asks for

-- the entries are those that it asks for, where the reader of the control text held this
abbrev pub Entered : BoardTurn → List ℕ → Reading → Past → List Entry → Past → Type 0
Entered (turn.Opened c) bytes r past own done = own ≡ entries.Open c ∷ []
Entered (turn.Bytes c n) bytes r past own done = Hears c Nothing past own done
Entered (turn.Closed c) bytes r past own done = own ≡ entries.Gone c false ∷ []
Entered (turn.Broken c) bytes r past own done = own ≡ entries.Gone c true ∷ []
Entered (turn.Control n) bytes r past own done = AreEntriesOf (asks_of (given_by r bytes)) own
Entered turn.Idle bytes r past own done = own ≡ []
Entered turn.End bytes r past own done = AreEntriesOf (asks_of (option_to_list (last_item r))) own
Entered turn.Failed bytes r past own done = ⊥
Entered turn.NoMemory bytes r past own done = ⊥

-- whether it is the last turn, and what the reader holds then
abbrev pub ReadsBy : BoardTurn → List ℕ → Bool → Reading → Reading → Type 0
ReadsBy (turn.Control n) bytes ended old new = ReadsOn bytes ended old new
ReadsBy turn.End bytes ended old new = ended ≡ true
ReadsBy t bytes ended old new = (ended ≡ false) × (new ≡ old)

-- by one call
abbrev pub EntersBy : BoardTurn → Pump → Pump → Type 0
EntersBy t old new = (log : List Act) → GoesBehind t (Entered t (bytes_in t old.room.items) old.reader) old.server log new.server log

abbrev pub ReadsFor : BoardTurn → Bool → Pump → Pump → Type 0
ReadsFor t ended old new = ReadsBy t (bytes_in t old.room.items) ended old.reader new.reader

-- ---- what is delivered

-- nothing was done with a connection, whose session isn't open
pub record IsPassedBy (c : ℕ) (past done : Past) : Type 0 where
  pub aside : IsAside c done
  pub shut : is_open c (done ++ past) ≡ false

-- all that was taken out for a connection was sent; or a send failed, or its session ended by its link, or the last send, with this answer, found no room
abbrev pub AllSent : ℕ → Past → Option Sent → Type 0
AllSent c past answer = IsSentUnless (answer ≡ Some sends.NotYet) c past

-- what the machine had for a connection that wasn't closed before was taken out, behind the last entry that was asked for, and sent
pub record IsReached (c : ℕ) (past done : Past) : Type 0 where
  pub unclosed : was_closed c (acts_of past) ≡ false
  pub over : is_over c (done ++ past) ≡ not (is_open c (done ++ past))
  pub taken : was_cut c (done ++ past) ≡ false → is_taken c done ≡ true
  pub all_sent : AllSent c (done ++ past) (last_answer c done)

-- each connection that is there was reached, and with the others nothing was done
abbrev pub Delivers : Server → Past → List Entry → Past → Type 0
Delivers s past own done = (own ≡ []) × ((c : ℕ) → (IsUnknown c s.connections.items × IsPassedBy c past done) ⊎ IsReached c past done)

abbrev pub DeliversBy : Pump → List Act → Pump → List Act → Type 0
DeliversBy old old_log new new_log = Acts (Delivers old.server) old.server old_log new.server new_log

-- what the turn asks for was entered, and then all was delivered
abbrev pub Follows : BoardTurn → List ℕ → Reading → Past → List Entry → Past → Type 0
Follows t bytes r past own done = Entered t bytes r past own done × ((c : ℕ) → IsPassedBy c past done ⊎ IsReached c past done)

abbrev pub FollowsBy : BoardTurn → Pump → List Act → Pump → List Act → Type 0
FollowsBy t old old_log new new_log = ActsBehind t (Follows t (bytes_in t old.room.items) old.reader) old.server old_log new.server new_log

-- ---- the report

-- why the run breaks off where it wasn't written
abbrev pub stop_of : ReportStop → TurnStop
stop_of reports.Failed = stops.Write
stop_of reports.NoMemory = stops.Stopped
stop_of reports.Worn = stops.Stopped

-- ---- the laws that a turn rests on

pub record TurnLaws : Type 0 where
  pub given : EndedIsGiven
  pub on : LinesGoOn
  pub last : LastAsks
  pub told : StatesAreTold
  pub report : ReportIsTold
  pub grow : StatesGrow
