use Rattle.std.proofs.Common.{◌≡◌, drop}
use Rattle.report_text.specs.Report.{is_free, fixed_texts}
use Rattle.report_text.proofs.match_text.fixes_none.Given as goal

-- none of the fields so far is fixed
abbrev pub invariant-loop-field : goal.invariant-loop-field
invariant-loop-field l = is_free (fixed_texts l.of (drop l.field-index l.fields)) ≡ is_free (fixed_texts l.of l.fields)
