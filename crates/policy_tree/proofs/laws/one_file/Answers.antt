use Rattle.policy_tree.proofs.OneFile.{one_file}
use Rattle.policy_tree.proofs.laws.one_file.Goals as goal

pub returns : goal.returns
returns c = one_file
