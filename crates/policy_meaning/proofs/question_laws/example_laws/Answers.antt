use Rattle.std.proofs.Common.{refl}
use Rattle.policy_meaning.proofs.question_laws.example_laws.Goals as goal

pub returns : goal.returns
returns c = record { web = refl; tcp = refl; other = refl; arp = refl; cells = refl }
