use Rattle.std.proofs.Common.{map, drop, decimal, codes}
use Rattle.report_text.specs.Report.{behind}
use Rattle.report_text.proofs.spelling.further_ports.Given as goal

-- what is spelled of the rest comes behind what was spelled
abbrev pub invariant-loop-port : goal.invariant-loop-port
invariant-loop-port g l =
    (u : g.row.S.Denot) → g.S.Sheet.takes l.sheet (behind (codes ",") (map decimal (drop l.port-index l.ports))) u
    → g.S.Sheet.takes l.fn.sheet (behind (codes ",") (map decimal l.ports)) u
