use Rattle.policy_text.proofs.TextDepths.{nodes_agree}
use Rattle.policy_text.proofs.text_laws.nodes_law.Goals as goal

pub returns : goal.returns
returns c = nodes_agree
