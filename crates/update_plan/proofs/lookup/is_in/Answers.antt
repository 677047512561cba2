use Rattle.std.proofs.Common.{sym, ◌∙◌}
use Rattle.update_plan.proofs.Found.{nothing_in, found_in}
use Rattle.update_plan.proofs.lookup.is_in.Goals as goal

pub returns-in-Some : goal.returns-in-Some
returns-in-Some c = c.same_rule.ensures ∙ found_in c.args.index.now c.args.rule.now c.in-Some.other.now c.requires c.in-Some.ensures.found c.in-Some.ensures.at

pub returns-in-None : goal.returns-in-None
returns-in-None c = sym (nothing_in c.args.index.now c.args.rule.now c.in-None.ensures.at)
