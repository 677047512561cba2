use Rattle.policy_meaning.proofs.Walks.{true_answers}
use Rattle.policy_meaning.proofs.Recorded.{notes_trace}
use Rattle.policy_meaning.proofs.question_laws.answer_laws.Goals as goal

pub returns : goal.returns
returns c = record { outcome = true_answers; trace = notes_trace }
