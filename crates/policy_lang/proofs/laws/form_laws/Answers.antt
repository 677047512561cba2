use Rattle.policy_lang.proofs.Lawful.{few_nodes, counts_nodes}
use Rattle.policy_lang.proofs.laws.form_laws.Goals as goal

pub returns : goal.returns
returns c = record { few = few_nodes; counts = counts_nodes }
