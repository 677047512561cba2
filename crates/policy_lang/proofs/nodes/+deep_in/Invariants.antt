use Rattle.policy_lang.specs.TreeOf.{term_of}
use Rattle.policy_lang.specs.Sizes.{size_of}
use Rattle.policy_lang.proofs.nodes.+deep_in.Given as goal

abbrev pub decreases-deep_in : goal.decreases-deep_in
decreases-deep_in l = size_of (term_of l.expr.now)
