use Rattle.std.proofs.Common.{rules, arith}
use Rattle.std.proofs.lemmas.List.{take_rest}
use Rattle.script_text.proofs.Marks.{further, ahead_is, behind_is, passed_is}
use Rattle.script_text.proofs.lines.split_at_mark.Goals as goal

pub loop-at-preserved : goal.loop-at-preserved
loop-at-preserved c =
    let i = c.loop-at.invariant in
    let parts = rw (take_rest c.args.text.now c.loop-at.at) at c.cut_line.ensures.whole in
    let lines = rw (take_rest c.args.text.now c.loop-at.at) at c.cut_line.ensures.lines in
    record {
      within = further c.args.text.now c.cut_line.result.0.now c.cut_line.result.1.now c.loop-at.at i.within parts;
      few = omega (arith, i.few, c.cut_line.ensures.some);
      ahead = ahead_is c.args.text.now c.cut_line.result.0.now c.cut_line.result.1.now c.loop-at.at i.within parts lines (search rules) _ i.ahead;
      behind = behind_is c.args.text.now c.cut_line.result.0.now c.cut_line.result.1.now c.loop-at.at i.within parts lines (search rules) _ i.behind;
      passed = passed_is c.args.text.now c.cut_line.result.0.now c.cut_line.result.1.now c.loop-at.at i.within parts lines (search rules) _ c.loop-at.lines i.passed;
    }
