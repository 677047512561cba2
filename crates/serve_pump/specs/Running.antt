-- A run under way: the parts so far, and one more.
use Rattle.std.specs.Prelude.{◌≡◌, ◌⊎◌, ℕ, Bool, true, false, List, [], ◌∷◌, ◌++◌}
use Rattle.maple_io.specs.declared.act.Act.{Act}
use Rattle.maple_io.specs.Boards.{BoardFailed, BoardView, control_text, sent}
use Rattle.maple_io.specs.Fronts.{IsFront}
use Rattle.maple_io.specs.Views.{SinkView, Wrote}
use Rattle.board_lines.specs.Laws.{held_behind}
use Rattle.board_lines.specs.Readings.{Reading, beginning}
use Rattle.serve_steps.specs.Deeds.{Past, acts_of, turns_of}
use Rattle.serve_steps.specs.Parts.{AreCutAtTurns, AreOpenedOnce, Given, Part, deeds_of, has_ended, was_held, IsSentUnless}
use Rattle.serve_steps.specs.Runs.{AreParts, IsAtRest, report, taken_report}
use Rattle.serve_channels.specs.declared.server.Server.{Server}
use Rattle.serve_channels.specs.Delivering.{AllLive}
use Rattle.serve_channels.specs.Keeping.{IsKept}
use Rattle.serve_channels.specs.Servers.{IsUnknown}
use Rattle.serve_pump.specs.declared.pump.Pump.{Pump}

-- ---- between two turns

-- of a connection that isn't there all that was taken out was sent; or a send failed, or its session ended by its link, or the last send found no room, in the
-- part in which its session ended
abbrev pub IsSettled : ℕ → Past → List Part → Type 0
IsSettled c first parts = IsSentUnless (was_held c parts ≡ true) c (deeds_of first parts)

-- these parts are whole, each line of the report was taken, and all is kept: so it is between two turns
pub record IsRunning (g : Given) (before : List Act) (first : Past) (parts : List Part) (log : List Act) (s : Server) : Type 0 where
  pub kept : IsKept g before (deeds_of first parts) log s
  pub parts_are : AreParts g first parts
  pub cut : AreCutAtTurns first parts
  pub opened : AreOpenedOnce first parts
  pub told : s.desk.now.lines ≡ []
  pub live : AllLive s
  pub settled : (c : ℕ) → IsUnknown c s.connections.items → IsSettled c first parts

-- what the reader of the control text holds, where it read all that came
abbrev pub HasRead : Reading → Past → Type 0
HasRead reading past = reading ≡ held_behind beginning (control_text (acts_of past))

-- so it goes on: the text hasn't come to its end, and its reader has read all that came
pub record GoesOn (g : Given) (before : List Act) (first : Past) (parts : List Part) (log : List Act) (p : Pump) : Type 0 where
  pub running : IsRunning g before first parts log p.server
  pub goes_on : has_ended g first parts ≡ false
  pub read : HasRead p.reader (deeds_of first parts)

-- ---- a turn

-- one more part is whole, and its report was written; it was the last one, behind which nothing is left to do, or the run goes on
pub record RunsOn (g : Given) (before : List Act) (first : Past) (parts : List Part) (ended : Bool) (log : List Act) (p : Pump) (old new : SinkView)
    : Type 0 where
  pub part : Part
  pub running : IsRunning g before first (part ∷ parts) log p.server
  pub ended_is : has_ended g first (part ∷ parts) ≡ ended
  pub wrote : Wrote old new (taken_report part.done)
  pub read : ended ≡ false → HasRead p.reader (deeds_of first (part ∷ parts))
  pub rest : ended ≡ true → IsAtRest g (deeds_of first (part ∷ parts))

-- whatever was done before, where the run went on
abbrev pub TurnsBy : Bool → Pump → List Act → Pump → List Act → SinkView → SinkView → Type 0
TurnsBy ended old old_log new new_log to_old to_new =
    (g : Given) (before : List Act) (first : Past) (parts : List Part)
    → GoesOn g before first parts old_log old → RunsOn g before first parts ended new_log new to_old to_new

-- ---- where the board fails

-- it failed, and nothing was done or written: the run is where it was
pub record FailsAtBoard (old : Pump) (old_board : BoardView) (new : Pump) (new_board : BoardView) (to_old to_new : SinkView) : Type 0 where
  pub failed : BoardFailed old_board new_board
  pub log : new_board.log ≡ old_board.log
  pub desk : new.server.desk ≡ old.server.desk
  pub silent : to_new ≡ to_old
  pub goes_on :
      (g : Given) (before : List Act) (first : Past) (parts : List Part)
      → GoesOn g before first parts old_board.log old → GoesOn g before first parts new_board.log new

-- ---- a run that breaks off in a turn

-- these parts, or one more that isn't whole
abbrev pub AreMore : List Part → List Part → Type 0
AreMore all parts = (all ≡ parts) ⊎ ((last : Part) × (all ≡ last ∷ parts))

-- the run broke off: the machine's turns and the board's acts are cut into the parts so far and at most one more, and what was written now, behind what was
-- taken of the report before, is a front of the report
pub record BreaksOff (g : Given) (before : List Act) (first : Past) (parts : List Part) (log : List Act) (p : Pump) (old new : SinkView) : Type 0 where
  pub all : List Part
  pub more : AreMore all parts
  pub turns : p.server.desk.past ≡ turns_of (deeds_of first all)
  pub acts : log ≡ before ++ acts_of (deeds_of first all)
  pub cut : AreCutAtTurns first all
  pub opened : AreOpenedOnce first all
  pub text : List ℕ
  pub wrote : Wrote old new text
  pub front : IsFront (taken_report (deeds_of first parts) ++ text) (report (deeds_of first all))

abbrev pub BreaksOffBy : Pump → List Act → Pump → List Act → SinkView → SinkView → Type 0
BreaksOffBy old old_log new new_log to_old to_new =
    (g : Given) (before : List Act) (first : Past) (parts : List Part)
    → GoesOn g before first parts old_log old → BreaksOff g before first parts new_log new to_old to_new
