use Rattle.std.proofs.Common.{sym, ◌∙◌}
use Rattle.machine_cases.proofs.RuleTests.{target_is}
use Rattle.machine_cases.proofs.lists.list_of.Goals as goal

pub returns-then-branch : goal.returns-then-branch
returns-then-branch c = target_is c.args.capacity c.new-list.result (sym c.in_ok-is_target.ensures ∙ c.if-branch.true)
