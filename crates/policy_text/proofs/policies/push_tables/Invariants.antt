use Rattle.std.proofs.Common.{◌≡◌, ◌++◌, drop}
use Rattle.std.specs.List.{flat_map}
use Rattle.policy_text.specs.Printed.{table_text}
use Rattle.policy_text.proofs.policies.push_tables.Given as goal

-- what is written of the rest comes behind what was written
abbrev pub invariant-loop-table : goal.invariant-loop-table
invariant-loop-table l = l.text.items ++ flat_map table_text (drop l.table-index l.tables) ≡ l.fn.text.items ++ flat_map table_text l.tables
