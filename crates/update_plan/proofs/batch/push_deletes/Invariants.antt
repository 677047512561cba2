use Rattle.std.proofs.Common.{◌≡◌, ◌++◌, take, map}
use Rattle.update_plan.specs.Batches.{deletion}
use Rattle.update_plan.proofs.batch.push_deletes.Given as goal

abbrev pub invariant-loop-rule : goal.invariant-loop-rule
invariant-loop-rule l = l.mods.items ≡ l.initial.mods.items ++ map deletion (take l.rule-index l.rules)
