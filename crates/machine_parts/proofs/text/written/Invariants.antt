use Rattle.std.proofs.Common.{◌≡◌, take}
use Rattle.std.specs.List.{flat_map}
use Rattle.report_text.specs.Report.{spelled}
use Rattle.machine_parts.proofs.text.written.Given as goal

abbrev pub invariant-loop-line : goal.invariant-loop-line
invariant-loop-line l = l.text.items ≡ flat_map spelled (take l.line-index l.lines)
