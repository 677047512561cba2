use Rattle.std.proofs.Common.{◌≡◌, [], take, drop}
use Rattle.policy_outline.specs.FileNodes.{repeated_table}
use Rattle.policy_outline.proofs.site.repeated_table.Given as goal

-- none of the tables so far is named like an earlier one
abbrev pub invariant-loop-index : goal.invariant-loop-index
invariant-loop-index l = repeated_table (take l.index l.tables) (drop l.index l.tables) ≡ repeated_table [] l.tables
