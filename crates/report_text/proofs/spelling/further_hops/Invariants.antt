use Rattle.std.proofs.Common.{map, drop, codes}
use Rattle.report_text.specs.Report.{behind, spelled_hop}
use Rattle.report_text.proofs.spelling.further_hops.Given as goal

-- what is spelled of the rest comes behind what was spelled
abbrev pub invariant-loop-hop : goal.invariant-loop-hop
invariant-loop-hop g l =
    (u : g.row.S.Denot) → g.S.Sheet.takes l.sheet (behind (codes ",") (map spelled_hop (drop l.hop-index l.hops))) u
    → g.S.Sheet.takes l.fn.sheet (behind (codes ",") (map spelled_hop l.hops)) u
