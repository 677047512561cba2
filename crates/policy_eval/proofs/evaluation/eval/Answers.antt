use Rattle.policy_lang.specs.TreeOf.{tree_of}
use Rattle.policy_meaning.specs.Meaning.{meaning}
use Rattle.policy_eval.proofs.Evaluations.{evaluated}
use Rattle.policy_eval.proofs.evaluation.eval.Goals as goal

pub returns-in-Ok : goal.returns-in-Ok
returns-in-Ok g c =
    evaluated (λ s. s.key.now) (λ s. s.env.now) g.E.EnvNow.has (record { env = c.args.env; key = c.args.key }) c.run-outcome.result.1
    (meaning (tree_of c.args.policy.now.body) c.args.budget c.args.switch) c.in-Ok.outcome (rw c.in-Ok.is at c.run-outcome.ensures.outcome)
