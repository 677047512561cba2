use Rattle.policy_text.proofs.Declared.{names_stand_there}
use Rattle.policy_text.proofs.text_laws.names_law.Goals as goal

pub returns : goal.returns
returns c = names_stand_there
