use Rattle.std.proofs.Common.{◌≡◌, ◌++◌, ◌-◌}
use Rattle.policy_text.specs.Printed.{indent}
use Rattle.policy_text.proofs.statements.push_indent.Given as goal

-- what is written of the rest comes behind what was written
abbrev pub invariant-loop : goal.invariant-loop
invariant-loop l = l.text.items ++ indent (l.blocks - l.counter) ≡ l.fn.text.items ++ indent l.blocks
