use Rattle.command_words.proofs.Grammar.{each_is_read, no_other_is_read}
use Rattle.command_words.proofs.laws.grammar_law.Goals as goal

pub returns-clause-read : goal.returns-clause-read
returns-clause-read c = each_is_read

pub returns-clause-only : goal.returns-clause-only
returns-clause-only c = no_other_is_read
