use Rattle.policy_text.proofs.Lawful.{spelled_as_written}
use Rattle.policy_text.proofs.print_laws.spelling_law.Goals as goal

pub returns : goal.returns
returns c = record { spelled = spelled_as_written }
