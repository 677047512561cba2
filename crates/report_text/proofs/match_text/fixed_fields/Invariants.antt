use Rattle.std.proofs.Common.{drop, codes}
use Rattle.report_text.specs.Report.{joined, fixed_texts}
use Rattle.report_text.proofs.Flat.{going_on}
use Rattle.report_text.proofs.match_text.fixed_fields.Given as goal

-- what is spelled of the rest comes behind what was spelled
abbrev pub invariant-loop-field : goal.invariant-loop-field
invariant-loop-field g l =
    (u : g.row.S.Denot) → g.S.Sheet.takes l.sheet (going_on l.is_first (fixed_texts l.of (drop l.field-index l.fields))) u
    → g.S.Sheet.takes l.fn.sheet (joined (codes ",") (fixed_texts l.of l.fields)) u
