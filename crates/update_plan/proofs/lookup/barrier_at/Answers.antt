use Rattle.std.proofs.Common.{sym, ◌∙◌}
use Rattle.update_plan.proofs.Found.{no_barrier_at, found_barrier}
use Rattle.update_plan.proofs.lookup.barrier_at.Goals as goal

pub returns-in-Some : goal.returns-in-Some
returns-in-Some c = c.is_barrier.ensures ∙ found_barrier c.args.index.now c.args.rule.now c.in-Some.other.now c.requires c.in-Some.ensures.found c.in-Some.ensures.at

pub returns-in-None : goal.returns-in-None
returns-in-None c = sym (no_barrier_at c.args.index.now c.args.rule.now c.in-None.ensures.at)
