use Rattle.policy_meaning.proofs.QuestionsLawful.{as_evaluated, asks_few, traces_end_so, values_within, law_of_traces}
use Rattle.policy_meaning.proofs.question_laws.reading_laws.Goals as goal

pub returns : goal.returns
returns c = record { evaluated = as_evaluated; traces = law_of_traces; few = asks_few; ends = traces_end_so; values = values_within }
