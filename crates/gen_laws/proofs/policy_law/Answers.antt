use Rattle.gen_laws.proofs.Policies.{is_policy}
use Rattle.gen_laws.proofs.policy_law.Goals as goal

pub returns : goal.returns
returns c = is_policy
