use Rattle.script_text.proofs.Said.{one_command, reads_lines}
use Rattle.script_text.proofs.laws.grammar_laws.Goals as goal

pub returns-clause-one : goal.returns-clause-one
returns-clause-one c = one_command

pub returns-clause-read : goal.returns-clause-read
returns-clause-read c = reads_lines
