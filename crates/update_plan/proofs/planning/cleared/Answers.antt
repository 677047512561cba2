use Rattle.std.proofs.Common.{[], sym, ◌∙◌, subst}
use Rattle.update_plan.specs.Batches.{IsSent}
use Rattle.update_plan.proofs.Lists.{all_lacking}
use Rattle.update_plan.proofs.planning.cleared.Goals as goal

pub returns-clause-first : goal.returns-clause-first
returns-clause-first c = subst (λ l. IsSent l [] c.in_ok-first.first) (c.barriers.ensures ∙ sym (all_lacking c.args.b.now.barriers)) c.in_ok-first.ensures

pub returns-clause-second : goal.returns-clause-second
returns-clause-second c = subst (λ l. IsSent l [] c.in_ok-second.second) (c.facts.ensures ∙ sym (all_lacking c.args.b.now.facts)) c.in_ok-second.ensures
