use Rattle.std.proofs.Common.{sym, subst}
use Rattle.trace_tree.specs.Stands.{StandsFor}
use Rattle.tree_prune.specs.Live.{live}
use Rattle.tree_prune.proofs.Values.{same_equal, equal_same}
use Rattle.tree_prune.proofs.Live.{none_before, none_in_first, learned_last, not_learned, retired_goes, all_go, current_stay, old_policy_goes, filter_none, of_now, own_numbers}
use Rattle.tree_prune.proofs.laws.live_laws.Goals as goal

pub returns-clause-same : goal.returns-clause-same
returns-clause-same c = λ v w. (same_equal v w, equal_same v w)

pub returns-clause-before : goal.returns-clause-before
returns-clause-before c = λ es s h. (none_before es h, none_in_first es s h)

pub returns-clause-learned : goal.returns-clause-learned
returns-clause-learned c = learned_last

pub returns-clause-others : goal.returns-clause-others
returns-clause-others c = not_learned

pub returns-clause-retired : goal.returns-clause-retired
returns-clause-retired c = retired_goes

pub returns-clause-all_retired : goal.returns-clause-all_retired
returns-clause-all_retired c = all_go

pub returns-clause-current : goal.returns-clause-current
returns-clause-current c = current_stay

pub returns-clause-old_policy : goal.returns-clause-old_policy
returns-clause-old_policy c = old_policy_goes

pub returns-clause-pruned : goal.returns-clause-pruned
returns-clause-pruned c = λ es s t before after h same stands rest. subst (StandsFor after) (sym (current_stay es s t h same)) (rest (live es) stands)

pub returns-clause-emptied : goal.returns-clause-emptied
returns-clause-emptied c = λ es s t before after h other stands rest.
    subst (StandsFor after) (sym (old_policy_goes es s t h other)) (subst (StandsFor after) (filter_none (live es)) (rest (live es) stands))

pub returns-clause-numbers : goal.returns-clause-numbers
returns-clause-numbers c = own_numbers

pub returns-clause-of_now : goal.returns-clause-of_now
returns-clause-of_now c = of_now
