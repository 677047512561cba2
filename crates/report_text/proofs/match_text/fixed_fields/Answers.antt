use Rattle.std.proofs.Common.{◌∙◌, sym}
use Rattle.report_text.proofs.Flat.{going_further, next_text, no_text}
use Rattle.report_text.proofs.match_text.fixed_fields.Goals.{in-Some, in-None}
use Rattle.report_text.proofs.match_text.fixed_fields.Goals as goal

pub loop-field-preserved : goal.loop-field-preserved
loop-field-preserved g c =
    elim c.match-fixed.branch [
      | in-Some w ↦ λ u h.
          let joined = g.met.S.Sheet.joined in
          let rest = rw (w.sheet-is, w.is_first-is) at h in
          let all = joined _ _ _ _ _ w.comma_unless.ensures (joined _ _ _ _ _ w.field_text.ensures rest) in
          let text = next_text c.args.of.now c.args.fields.now c.loop-field.field-index w.in-Some.value c.loop-field-test.true (sym c.fixed.ensures ∙ w.in-Some.is) in
          c.loop-field.invariant u (rw (text, ← going_further c.loop-field.is_first _ _) all)
      | in-None w ↦ λ u h.
          let text = no_text c.args.of.now c.args.fields.now c.loop-field.field-index c.loop-field-test.true (sym c.fixed.ensures ∙ w.in-None.is) in
          c.loop-field.invariant u (rw (text, ← w.sheet-is, ← w.is_first-is) h)
    ]
