use Rattle.policy_eval.proofs.ways.+way.Given as goal

abbrev pub decreases-way : goal.decreases-way
decreases-way g l = l.more
