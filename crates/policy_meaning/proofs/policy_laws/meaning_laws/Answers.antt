use Rattle.policy_meaning.proofs.PoliciesLawful.{begins_here, decides_its_ports, asks_within_budget, keeps_decisions}
use Rattle.policy_meaning.proofs.policy_laws.meaning_laws.Goals as goal

pub returns : goal.returns
returns c = record { begins = begins_here; ports = decides_its_ports; few = asks_within_budget; budget = keeps_decisions }
