use Rattle.rule_builder.proofs.Choice.{choice_law, table_law}
use Rattle.rule_builder.proofs.laws.choice_law.Goals as goal

pub returns-clause-choice : goal.returns-clause-choice
returns-clause-choice c = choice_law

pub returns-clause-table : goal.returns-clause-table
returns-clause-table c = table_law
