-- How a run ends, as who drove it knows: what others do behind the driver's last call is still to come.
use Rattle.std.specs.Prelude.{◌≡◌, ◌≢◌, ℕ, Bool, true, false, List, [], ◌++◌, Result, Ok, Err}
use Rattle.maple_io.specs.declared.act.Act.{Act}
use Rattle.maple_io.specs.Boards.{BoardFailed, BoardView, NoBoardFailed}
use Rattle.maple_io.specs.Views.{SinkView, Wrote}
use Rattle.machine_desk.specs.declared.report.ReportStop.{ReportStop}
use Rattle.machine_desk.specs.Desks.{DeskView}
use Rattle.machine_steps.specs.Histories.{Turn}
use Rattle.machine_steps.specs.Machine.{State}
use Rattle.packet_workers.specs.Adding.{PassView}
use Rattle.worker_crew.specs.Tasks.{Worked}
use Rattle.machine_desk.specs.Crews.{EndsOf, joined as joined_by, unwritten, with_memory as memory_by}
use Rattle.machine_desk.specs.Runs.{AtDesk, ByPass, IsSmoothFor}
use Rattle.sim_steps.specs.Ends.{IsFaultOf}
use Rattle.serve_steps.specs.declared.end.ServeEnd.{ServeEnd}
use Rattle.serve_steps.specs.declared.end.ServeEnd.TheVariants as ends
use Rattle.serve_steps.specs.declared.end.ServeEnd.TheVariants.{BoardFault, WriteFault}
use Rattle.serve_steps.specs.Deeds.{Past, acts_of, turns_of}
use Rattle.serve_steps.specs.Parts.{AreCutAtTurns, AreOpenedOnce, Given, Part, deeds_of, state_of}
use Rattle.serve_steps.specs.Runs.{IsBrokenOff, IsFull, report, is_whole, taken_report, IsDone, IsRefused, StopsAtBoard}
use Rattle.serve_pump.specs.declared.pump.Pump.{Pump}
use Rattle.serve_pump.specs.declared.pump.TurnStop.{TurnStop}
use Rattle.serve_pump.specs.declared.pump.TurnStop.TheVariants as stops
use Rattle.serve_pump.specs.Running.{GoesOn}

-- ---- turn after turn

-- some parts are whole, what was taken of the report since the run began was written, and the run goes on
pub record IsUnderWay (g : Given) (before : List Act) (from : SinkView) (log : List Act) (p : Pump) (to : SinkView) : Type 0 where
  pub first : Past
  pub parts : List Part
  pub goes_on : GoesOn g before first parts log p
  pub wrote : Wrote from to (taken_report (deeds_of first parts))

-- ---- ends

-- the board failed; all lines of the report were taken, and written
pub record IsFailedSoFar (g : Given) (first : Past) (parts : List Part) (text : List ℕ) : Type 0 where
  pub stops : StopsAtBoard g first parts
  pub told : (state_of g (deeds_of first parts)).lines ≡ []
  pub text_is : text ≡ taken_report (deeds_of first parts)

-- where the driver's last call read that so many entries were made; behind a refused line no packet waits
abbrev pub EndsSoFar : ServeEnd → Given → ℕ → Past → List Part → List ℕ → Type 0
EndsSoFar ends.Done g number first parts text = IsDone g first parts text
EndsSoFar (ends.Script line kind) g number first parts text = IsRefused g line kind first parts text × ((state_of g (deeds_of first parts)).jobs ≡ [])
EndsSoFar WriteFault g number first parts text = IsBrokenOff g first parts text
EndsSoFar BoardFault g number first parts text = IsFailedSoFar g first parts text
EndsSoFar ends.Worn g number first parts text = IsBrokenOff g first parts text × IsFull number
EndsSoFar ends.NoMemory g number first parts text = IsBrokenOff g first parts text

-- the history and the board's log are cut into these parts, and it ended so
pub record Ran (end : ServeEnd) (g : Given) (number : ℕ) (history : List Turn) (before log : List Act) (old new : SinkView) : Type 0 where
  pub first : Past
  pub parts : List Part
  pub turns : history ≡ turns_of (deeds_of first parts)
  pub acts : log ≡ before ++ acts_of (deeds_of first parts)
  pub cut : AreCutAtTurns first parts
  pub opened : AreOpenedOnce first parts
  pub text : List ℕ
  pub ends : EndsSoFar end g number first parts text
  pub wrote : Wrote old new text

-- at the desk
abbrev pub RanAt : ServeEnd → Given → List Act → List Act → DeskView → SinkView → SinkView → Type 0
RanAt end g before log desk old new = Ran end g desk.number desk.past before log old new

-- whatever was done before, where it went on
abbrev pub GoesToEnd : ServeEnd → Pump → List Act → Pump → List Act → SinkView → SinkView → Type 0
GoesToEnd end old old_log new new_log to_old to_new =
    (g : Given) (before : List Act) (from : SinkView)
    → IsUnderWay g before from old_log old to_old → RanAt end g before new_log new.server.desk from to_new

-- ---- causes

-- a call of the board failed just where it ends so, and a write
pub record IsCaused (end : ServeEnd) (old_board new_board : BoardView) (old new : SinkView) : Type 0 where
  pub board : end ≡ BoardFault → BoardFailed old_board new_board
  pub spared : end ≢ BoardFault → NoBoardFailed old_board new_board
  pub writes : IsFaultOf (end ≡ WriteFault) old new

-- ---- who drove it

-- what is known of a run by who drove it, who made the calls at these positions of the history
pub record Drove (end : ServeEnd) (g : Given) (number : ℕ) (history : List Turn) (own : List ℕ) (old_board new_board : BoardView) (old new : SinkView)
    : Type 0 where
  pub ran : Ran end g number history old_board.log new_board.log old new
  pub smooth : IsSmoothFor (is_whole end) history own
  pub caused : IsCaused end old_board new_board old new

-- by what the desk knows
abbrev pub DroveAt : ServeEnd → Given → DeskView → BoardView → BoardView → SinkView → SinkView → Type 0
DroveAt end g desk old_board new_board old new =
    AtDesk (λ (number : ℕ) (history : List Turn) (own : List ℕ). Drove end g number history own old_board new_board old new) desk

-- by what its pass has seen of the hall, whose machine was so at first
abbrev pub DroveBy : ServeEnd → Given → State → PassView → BoardView → BoardView → SinkView → SinkView → Type 0
DroveBy end g start k old_board new_board old new =
    ByPass (λ (number : ℕ) (history : List Turn) (own : List ℕ). Drove end g number history own old_board new_board old new) start k

-- ---- one end from another

-- where a run broke off, by whether the hall was found worn
abbrev pub stopped_end : Bool → ServeEnd
stopped_end true = ends.Worn
stopped_end false = ends.NoMemory

abbrev pub end_of : TurnStop → Bool → ServeEnd
end_of stops.Board worn = BoardFault
end_of stops.Write worn = WriteFault
end_of stops.Stopped worn = stopped_end worn

-- how a run may end, for who gave up
abbrev pub serve_ends : EndsOf ServeEnd
serve_ends = record { write_fault = WriteFault; no_memory = ends.NoMemory; worn = ends.Worn; is_whole = is_whole }

-- by how its workers ended: where it came to its end, as the first of them that gave up
abbrev pub joined : ServeEnd → Worked → ServeEnd
joined end outcome = joined_by serve_ends end outcome

-- by whether memory sufficed for the calls of who drove it
abbrev pub with_memory : ServeEnd → Bool → ServeEnd
with_memory end had = memory_by serve_ends end had

-- by how the rest of the report was written, behind a fault of the board
abbrev pub told_as : Result (Unit {0}) ReportStop → ServeEnd
told_as (Ok done) = BoardFault
told_as (Err stop) = unwritten serve_ends stop
