-- How a run begins: the start script, its report, and the board's start.
use Rattle.std.specs.Prelude.{◌≡◌, ℕ, true, false, List, [], ◌++◌, Result, Ok, Err, Some, None}
use Rattle.maple_io.specs.declared.act.Act.{Act}
use Rattle.maple_io.specs.declared.board.Started.TheVariants as started
use Rattle.maple_io.specs.Boards.{BoardFailed, BoardView, NoBoardFailed}
use Rattle.maple_io.specs.Fronts.{IsFront}
use Rattle.maple_io.specs.Views.{SinkView, Wrote}
use Rattle.report_text.specs.declared.line.ScriptRefusal.{ScriptRefusal}
use Rattle.machine_moves.specs.MoveLaws.{StatesGrow}
use Rattle.machine_steps.specs.Machine.{State}
use Rattle.serve_steps.specs.Deeds.{Past, acts_of, turns_of}
use Rattle.serve_steps.specs.Laws.{ReportIsTold, StatesAreTold}
use Rattle.serve_steps.specs.Parts.{AreCutAtTurns, Given, given, has_ended}
use Rattle.serve_steps.specs.Runs.{IsAtRest, report, taken_report, IsScriptOnly}
use Rattle.serve_steps.specs.Texts.{first_refused, script_asks}
use Rattle.serve_channels.specs.declared.scripting.ScriptEnd.{ScriptEnd}
use Rattle.serve_channels.specs.declared.scripting.ScriptEnd.TheVariants as scripts
use Rattle.serve_channels.specs.declared.server.Server.{Server}
use Rattle.serve_channels.specs.Keeping.{IsKept}
use Rattle.serve_channels.specs.Starting.{FreshIsKept, Starts}
use Rattle.serve_pump.specs.declared.pump.Pump.{Pump}
use Rattle.serve_pump.specs.declared.pump.TurnStop.{TurnStop}
use Rattle.serve_pump.specs.declared.pump.TurnStop.TheVariants as stops
use Rattle.serve_pump.specs.declared.startup.Begun.{Begun}
use Rattle.serve_pump.specs.declared.startup.Begun.TheVariants as begun
use Rattle.serve_pump.specs.declared.startup.Startup.{Startup}
use Rattle.serve_pump.specs.Running.{GoesOn, IsRunning}

-- ---- what is given

-- over a machine that is so at first
abbrev pub given_by : State → Startup → Given
given_by start s = given start.policy start.settings s.script.now s.first_line s.listen s.control

abbrev pub given_at : Server → Startup → Given
given_at s startup = given_by s.desk.footing.start startup

-- ---- how it has begun

-- only the start script was carried out; no packet waits, and its report was taken
pub record IsCarriedOut (g : Given) (before : List Act) (first : Past) (log : List Act) (s : Server) : Type 0 where
  pub kept : IsKept g before first log s
  pub only : IsScriptOnly g first []
  pub cut : AreCutAtTurns first []
  pub told : s.desk.now.lines ≡ []
  pub none : s.desk.now.jobs ≡ []

-- a line of it was `quit`: the run has come to its end
pub record HasQuit (g : Given) (before : List Act) (first : Past) (log : List Act) (s : Server) : Type 0 where
  pub running : IsRunning g before first [] log s
  pub ended : has_ended g first [] ≡ true
  pub rest : IsAtRest g first

-- a line of it was refused
pub record IsRefusedAt (line : ℕ) (kind : ScriptRefusal) (g : Given) (before : List Act) (first : Past) (log : List Act) (s : Server) : Type 0 where
  pub carried : IsCarriedOut g before first log s
  pub refused : first_refused (script_asks g.first_line g.script) ≡ Some (line, kind)

abbrev pub BegunBy : Begun → Given → List Act → Past → List Act → Pump → Type 0
BegunBy begun.Listening g before first log p = GoesOn g before first [] log p
BegunBy begun.Quit g before first log p = HasQuit g before first log p.server
BegunBy (begun.Refused line kind) g before first log p = IsRefusedAt line kind g before first log p.server

-- and the report of what was done was written
pub record HasBegun (how : Begun) (g : Given) (before log : List Act) (p : Pump) (old new : SinkView) : Type 0 where
  pub first : Past
  pub is : BegunBy how g before first log p
  pub wrote : Wrote old new (taken_report first)

-- ---- where it hasn't

-- the board wasn't started, since it failed; the report was written before
pub record FailsAtStart (g : Given) (old_board new_board : BoardView) (p : Pump) (old new : SinkView) : Type 0 where
  pub failed : BoardFailed old_board new_board
  pub first : Past
  pub carried : IsCarriedOut g old_board.log first new_board.log p.server
  pub none_refused : first_refused (script_asks g.first_line g.script) ≡ None
  pub goes_on : has_ended g first [] ≡ false
  pub wrote : Wrote old new (taken_report first)

-- the run broke off ahead of its first turn: its turns and acts are those of a first part, of whose report a front was written
pub record BreaksAtFirst (g : Given) (before log : List Act) (p : Pump) (old new : SinkView) : Type 0 where
  pub first : Past
  pub turns : p.server.desk.past ≡ turns_of first
  pub acts : log ≡ before ++ acts_of first
  pub cut : AreCutAtTurns first []
  pub text : List ℕ
  pub wrote : Wrote old new text
  pub front : IsFront text (report first)

-- ---- with what is given

abbrev pub BeginsWith : Startup → Begun → Server → BoardView → Pump → BoardView → SinkView → SinkView → Type 0
BeginsWith startup how s old_board p new_board old new = HasBegun how (given_at s startup) old_board.log new_board.log p old new

abbrev pub BreaksWith : Startup → Server → BoardView → Pump → BoardView → SinkView → SinkView → Type 0
BreaksWith startup s old_board p new_board old new = BreaksAtFirst (given_at s startup) old_board.log new_board.log p old new

abbrev pub FailsWith : Startup → Server → BoardView → Pump → BoardView → SinkView → SinkView → Type 0
FailsWith startup s old_board p new_board old new = FailsAtStart (given_at s startup) old_board new_board p old new

-- ---- the board's start

-- by how the script ended: where it came to its end the board is started, or fails; else it isn't asked
abbrev pub ListensBy : Result Begun TurnStop → ScriptEnd → Startup → Server → BoardView → BoardView → Type 0
ListensBy (Ok begun.Listening) end startup s old new =
    (end ≡ scripts.Whole) × Starts startup.listen startup.control started.Ready s old.log new.log × NoBoardFailed old new
ListensBy (Ok begun.Quit) end startup s old new = (end ≡ scripts.Quit) × (new ≡ old)
ListensBy (Ok (begun.Refused line kind)) end startup s old new = (end ≡ scripts.Refused line kind) × (new ≡ old)
ListensBy (Err stops.Board) end startup s old new =
    (end ≡ scripts.Whole) × Starts startup.listen startup.control started.Failed s old.log new.log × BoardFailed old new
ListensBy (Err stop) end startup s old new = ⊥

-- ---- the laws that it rests on

pub record BeginLaws : Type 0 where
  pub fresh : FreshIsKept
  pub told : StatesAreTold
  pub report : ReportIsTold
  pub grow : StatesGrow
