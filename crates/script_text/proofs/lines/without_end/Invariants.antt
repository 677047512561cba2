use Rattle.std.proofs.Common.{◌≡◌, ◌++◌, take, drop}
use Rattle.script_text.specs.Lines.{without_end}
use Rattle.script_text.proofs.lines.without_end.Given as goal

-- the line goes on with the rest
abbrev pub invariant-loop-at : goal.invariant-loop-at
invariant-loop-at l = without_end l.line ≡ take l.at l.line ++ without_end (drop l.at l.line)
