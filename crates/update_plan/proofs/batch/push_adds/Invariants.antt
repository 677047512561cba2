use Rattle.std.proofs.Common.{◌≡◌, ◌++◌, take, map}
use Rattle.maple_base.specs.declared.decision.TableMod.TheVariants.{Add}
use Rattle.update_plan.proofs.batch.push_adds.Given as goal

abbrev pub invariant-loop-rule : goal.invariant-loop-rule
invariant-loop-rule l = l.mods.items ≡ l.initial.mods.items ++ map Add (take l.rule-index l.rules)
