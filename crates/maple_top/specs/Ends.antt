-- How a part of a run ends, with what it wrote.
use Rattle.std.specs.Prelude.{◌≡◌, ◌⊎◌, ℕ, true, List, ◌++◌}
use Rattle.maple_io.specs.Fronts.{IsFront}
use Rattle.maple_io.specs.Answers.{fails}
use Rattle.maple_io.specs.Views.{Heard, NoReadFailed, SinkView, SourceView, WriteFailed, Wrote}
use Rattle.serve_steps.specs.declared.end.ServeEnd.{ServeEnd}
use Rattle.sim_steps.specs.Ends.{Writes}
use Rattle.serve_steps.specs.declared.end.ServeEnd.TheVariants as ends
use Rattle.maple_top.specs.declared.status.Status.{Status}
use Rattle.maple_top.specs.declared.status.Status.TheVariants as status
use Rattle.report_text.specs.declared.line.Line.TheVariants.{RefusedScript}
use Rattle.report_text.specs.Report.{spelled}
use Rattle.maple_top.specs.Statuses.{last_line}

-- ---- texts

-- a text of this kind was written
abbrev pub WroteSome : SinkView → SinkView → (List ℕ → Type 0) → Type 0
WroteSome old new Told = Writes Told old new

-- a front of this text was
abbrev pub WroteFront : SinkView → SinkView → List ℕ → Type 0
WroteFront old new text = (front : List ℕ) × IsFront front text × Wrote old new front

-- where a failed read was counted, a front of the line that tells it was written, and nothing else
abbrev pub StopsAtRead : SourceView → SourceView → SinkView → SinkView → Type 0
StopsAtRead before after old new = ¬ (NoReadFailed before after) → WroteFront old new (last_line status.ReadFault)

-- where the last answer was a failure, the same
abbrev pub StopsAtFailure : SourceView → SourceView → SinkView → SinkView → Type 0
StopsAtFailure before after old new = Heard before after (λ heard. fails heard ≡ true → WroteFront old new (last_line status.ReadFault))

-- ---- statuses

-- a status that a run comes to by itself, no fault of the sink and no want of memory
abbrev pub IsGiven : Status → Type 0
IsGiven status.WriteFault = ⊥
IsGiven status.NoMemory = ⊥
IsGiven result = Unit {0}

-- the status by which a run ends that is cut short as it writes
abbrev pub IsCutting : Status → Type 0
IsCutting result = ¬ (IsGiven result)

-- a run that comes to this status has written one text as it went, and has another one to write last. It ends so, having written both, or it is cut short,
-- having written the first and a front of the other
abbrev pub IsOrCut : Status → Status → List ℕ → List ℕ → List ℕ → Type 0
IsOrCut due result kept last text =
    ((result ≡ due) × (text ≡ kept ++ last)) ⊎ (IsGiven due × IsCutting result × (front : List ℕ) × IsFront front last × (text ≡ kept ++ front))

-- it ends with the status that is due, having written this text, or else with a fault of the sink or for want of memory, having written a front of it
abbrev pub Ends : SinkView → SinkView → Status → List ℕ → Status → Type 0
Ends old new due text status.WriteFault = WriteFailed old new × WroteFront old new text
Ends old new due text status.NoMemory = WroteFront old new text
Ends old new due text result = (result ≡ due) × Wrote old new text

-- a status of a run that met no fault of a stream and had memory enough
abbrev pub IsUnhindered : Status → Type 0
IsUnhindered status.ReadFault = ⊥
IsUnhindered result = IsGiven result

-- a status of a run that leaves the devices and the board as they were
abbrev pub IsAside : Status → Type 0
IsAside status.Usage = Unit {0}
IsAside status.Policy = Unit {0}
IsAside status.ReadFault = Unit {0}
IsAside status.TooLong = Unit {0}
IsAside result = ⊥

-- a status of a run in which no call of the board failed. Behind one that failed the report is still written, and that may fail, or memory may run out
abbrev pub IsBoardSpared : Status → Type 0
IsBoardSpared status.BoardFault = ⊥
IsBoardSpared status.Worn = ⊥
IsBoardSpared result = IsGiven result

-- ---- ends of a script, or of serving

abbrev pub status_of : ServeEnd → Status
status_of ends.Done = status.Done
status_of (ends.Script line kind) = status.Script
status_of ends.WriteFault = status.WriteFault
status_of ends.BoardFault = status.BoardFault
status_of ends.Worn = status.Worn
status_of ends.NoMemory = status.NoMemory

-- the line that it writes last
abbrev pub closing : ServeEnd → List ℕ
closing (ends.Script line kind) = spelled (RefusedScript line kind)
closing end = last_line (status_of end)

-- it is closed by that line; where a write failed or memory ran out, by none
abbrev pub ClosesBy : ServeEnd → SinkView → SinkView → Status → Type 0
ClosesBy ends.WriteFault old new result = (result ≡ status.WriteFault) × (new ≡ old)
ClosesBy ends.NoMemory old new result = (result ≡ status.NoMemory) × (new ≡ old)
ClosesBy end old new result = Ends old new (status_of end) (closing end) result
