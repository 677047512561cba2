use Rattle.std.proofs.Common.{rules}
use Rattle.tree_prune.specs.Current.{is_current}
use Rattle.tree_prune.proofs.pruning.prune.Goals as goal

pub returns-clause-kept : goal.returns-clause-kept
returns-clause-kept g c = c.retain.ensures.kept (is_current (g.E.EnvNow.has c.args.env.now)) (λ l b k. search rules)

pub returns-clause-stands : goal.returns-clause-stands
returns-clause-stands g c = c.retain.ensures.stands (is_current (g.E.EnvNow.has c.args.env.now)) (λ l b k. search rules)
