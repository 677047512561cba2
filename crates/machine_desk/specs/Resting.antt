-- The rest of the report is taken by a pass, where there is no desk any more.
use Rattle.std.specs.Prelude.{◌≡◌, Bool, true, false, Result, Err, Some}
use Rattle.atomic_table.specs.Seated.{TableId}
use Rattle.maple_io.specs.Views.{SinkView}
use Rattle.machine_steps.specs.Machine.{State}
use Rattle.machine_steps.specs.Sound.{IsSound}
use Rattle.packet_workers.specs.Adding.{PassView}
use Rattle.machine_desk.specs.declared.report.ReportStop.{ReportStop}
use Rattle.machine_desk.specs.declared.report.ReportStop.TheVariants.{Worn}
use Rattle.machine_desk.specs.Desks.{view_by}
use Rattle.machine_desk.specs.Reports.{ReportsBy}

-- the hall was found worn
abbrev pub finds_worn : Result (Unit {0}) ReportStop → Bool
finds_worn (Err Worn) = true
finds_worn result = false

-- as a desk would do it that knows what the pass knows, of a hall that was opened with a sound machine
abbrev pub RestBy : Result (Unit {0}) ReportStop → PassView → PassView → SinkView → SinkView → Type 0
RestBy result k l old new =
    (place : TableId) (start : State) → k.opening ≡ Some start → IsSound start
    → ReportsBy result (view_by place 0 k k start false) (view_by place 0 l k start (finds_worn result)) old new
