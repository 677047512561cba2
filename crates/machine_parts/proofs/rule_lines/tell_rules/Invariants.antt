use Rattle.std.proofs.Common.{◌≡◌, ◌+◌, ◌++◌, take, map, vec_len}
use Rattle.std.specs.Vec.{vec_capacity}
use Rattle.machine_steps.specs.Steps.{rule_line}
use Rattle.machine_parts.proofs.rule_lines.tell_rules.Given as goal

abbrev pub invariant-loop-rule : goal.invariant-loop-rule
invariant-loop-rule l = record {
  told : l.lines.items ≡ l.fn.lines.items ++ map (rule_line l.switch) (take l.rule-index l.rules);
  len : vec_len l.lines ≡ vec_len l.fn.lines + l.rule-index;
  capacity : vec_capacity l.lines ≡ vec_capacity l.fn.lines;
}
