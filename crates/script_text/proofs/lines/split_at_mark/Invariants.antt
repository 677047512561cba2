use Rattle.std.proofs.Common.{◌≡◌, ◌+◌, ◌++◌, ◌-◌, ◌≤◌, take, drop, length}
use Rattle.std.specs.List.{concat}
use Rattle.script_text.specs.Lines.{ended_lines}
use Rattle.script_text.specs.Marks.{ahead_of_mark, behind_mark, lines_to_mark}
use Rattle.script_text.proofs.lines.split_at_mark.Given as goal

-- no mark so far
abbrev pub invariant-loop-at : goal.invariant-loop-at
invariant-loop-at l = record {
  within : l.at ≤ length l.text;
  few : l.lines ≤ l.at;
  ahead : concat (ahead_of_mark (ended_lines l.text)) ≡ take l.at l.text ++ concat (ahead_of_mark (ended_lines (drop l.at l.text)));
  behind : behind_mark (ended_lines l.text) ≡ behind_mark (ended_lines (drop l.at l.text));
  passed : lines_to_mark (ended_lines l.text) ≡ l.lines + lines_to_mark (ended_lines (drop l.at l.text));
}

abbrev pub decreases-loop-at : goal.decreases-loop-at
decreases-loop-at l = length l.text - l.at
