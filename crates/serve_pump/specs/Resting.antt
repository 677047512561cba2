-- The rest of the report, behind all workers.
use Rattle.std.specs.Prelude.{◌≡◌, Result, Err}
use Rattle.history_lock.specs.Histories.{StartsWith}
use Rattle.maple_io.specs.Views.{SinkView}
use Rattle.machine_desk.specs.declared.report.ReportStop.{ReportStop}
use Rattle.machine_desk.specs.declared.report.ReportStop.TheVariants as reports
use Rattle.machine_desk.specs.Resting.{RestBy}
use Rattle.packet_workers.specs.Adding.{PassView}
use Rattle.sim_steps.specs.Ends.{IsFaultOf}
use Rattle.serve_steps.specs.declared.end.ServeEnd.{ServeEnd}
use Rattle.serve_steps.specs.declared.end.ServeEnd.TheVariants.{BoardFault}
use Rattle.serve_pump.specs.Ending.{told_as}

-- it was taken and written, or not whole, and by that the run ends
pub record RestsSo (end : ServeEnd) (k l : PassView) (old new : SinkView) : Type 0 where
  pub told : Result (Unit {0}) ReportStop
  pub later : StartsWith l.seen k.seen
  pub rest : RestBy told k l old new
  pub end_is : end ≡ told_as told
  pub writes : IsFaultOf (told ≡ Err reports.Failed) old new

-- where the board failed; else nothing was done
abbrev pub RestsBy : ServeEnd → ServeEnd → PassView → PassView → SinkView → SinkView → Type 0
RestsBy BoardFault end k l old new = RestsSo end k l old new
RestsBy was end k l old new = (end ≡ was) × (l ≡ k) × (new ≡ old)
