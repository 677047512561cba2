use Rattle.policy_text.proofs.OneText.{one_policy}
use Rattle.policy_text.proofs.text_laws.one_policy.Goals as goal

pub returns : goal.returns
returns c = one_policy c.one_file.ensures
