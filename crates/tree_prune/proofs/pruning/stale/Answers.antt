use Rattle.std.proofs.Common.{is_none, ap, ◌∙◌}
use Rattle.tree_prune.specs.Current.{are_current}
use Rattle.tree_prune.proofs.Values.{none_differs}
use Rattle.tree_prune.proofs.pruning.stale.Goals as goal

pub returns-clause-none : goal.returns-clause-none
returns-clause-none g c =
    let env = g.E.EnvNow.has c.args.env.now in
    ap is_none c.stale_in.ensures ∙ none_differs env c.items.result.now ∙ ap (are_current env) c.items.ensures
