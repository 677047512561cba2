-- How the report is written.
use Rattle.std.specs.Prelude.{◌≡◌, ◌⊎◌, ℕ, List, Result, Ok, Err}
use Rattle.maple_io.specs.Fronts.{IsFront}
use Rattle.maple_io.specs.Views.{SinkView, WriteFailed, Wrote}
use Rattle.machine_steps.specs.declared.entry.Entry.TheVariants.{TakeReport}
use Rattle.machine_steps.specs.declared.reply.Reply.TheVariants.{Lines, NoMemory as LacksMemory}
use Rattle.machine_desk.specs.Desks.{DeskView, Enters, WearsOut}
use Rattle.machine_desk.specs.declared.report.ReportStop.{ReportStop}
use Rattle.machine_desk.specs.declared.report.ReportStop.TheVariants.{Failed, NoMemory, Worn}

-- what waited of the report was taken, and all of it was written
pub record Reports (a b : DeskView) (old new : SinkView) : Type 0 where
  pub text : List ℕ
  pub enters : Enters a TakeReport (Lines text) b
  pub wrote : Wrote old new text

-- it was taken, and a front of it was written
pub record ReportsInPart (a b : DeskView) (old new : SinkView) : Type 0 where
  pub text : List ℕ
  pub enters : Enters a TakeReport (Lines text) b
  pub front : List ℕ
  pub is_front : IsFront front text
  pub wrote : Wrote old new front

-- nothing was taken for want of memory, and nothing written; or the sink's memory ran out
abbrev pub EndsReport : ReportStop → DeskView → DeskView → SinkView → SinkView → Type 0
EndsReport Failed a b old new = ReportsInPart a b old new × WriteFailed old new
EndsReport NoMemory a b old new = (Enters a TakeReport LacksMemory b × (new ≡ old)) ⊎ ReportsInPart a b old new
EndsReport Worn a b old new = WearsOut a b × (new ≡ old)

abbrev pub ReportsBy : Result (Unit {0}) ReportStop → DeskView → DeskView → SinkView → SinkView → Type 0
ReportsBy (Ok done) a b old new = Reports a b old new
ReportsBy (Err stop) a b old new = EndsReport stop a b old new
