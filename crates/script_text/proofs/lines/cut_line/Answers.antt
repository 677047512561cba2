use Rattle.script_text.proofs.FirstLines.{first_ended, first_line, line_len_some}
use Rattle.std.proofs.Common.{arith}
use Rattle.script_text.proofs.lines.cut_line.Goals as goal

pub returns-clause-lines : goal.returns-clause-lines
returns-clause-lines c = rw (c.split_at.ensures.front, c.split_at.ensures.back, c.line_len.ensures.length) (first_line c.args.text.now c.requires)

pub returns-clause-some : goal.returns-clause-some
returns-clause-some c = let h = line_len_some c.args.text.now c.requires in omega (arith, h, c.split_at.ensures.front_len, c.line_len.ensures.length)

pub returns-clause-first : goal.returns-clause-first
returns-clause-first c = rw (c.split_at.ensures.front, c.line_len.ensures.length) (first_ended c.args.text.now)
