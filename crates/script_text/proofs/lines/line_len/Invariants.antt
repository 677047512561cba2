use Rattle.std.proofs.Common.{◌≡◌, ◌+◌, drop}
use Rattle.script_text.specs.Lines.{line_len}
use Rattle.script_text.proofs.lines.line_len.Given as goal

-- the line goes on with the rest
abbrev pub invariant-loop-at : goal.invariant-loop-at
invariant-loop-at l = line_len l.text ≡ l.at + line_len (drop l.at l.text)
