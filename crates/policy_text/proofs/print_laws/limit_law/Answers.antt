use Rattle.policy_text.proofs.Lawful.{has_nodes, passes_none}
use Rattle.policy_text.proofs.print_laws.limit_law.Goals as goal

pub returns : goal.returns
returns c = record { nodes = has_nodes; limits = passes_none }
