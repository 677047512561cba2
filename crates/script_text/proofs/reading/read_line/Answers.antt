use Rattle.script_text.proofs.Said.{said_by, none_said, none_back, frame_said}
use Rattle.script_text.proofs.reading.read_line.Goals as goal

pub returns-else-line-gt-MOST_BYTES-clause-command : goal.returns-else-line-gt-MOST_BYTES-clause-command
returns-else-line-gt-MOST_BYTES-clause-command c = said_by c.args.line.now c.line_command.result c.line_command.ensures.command

pub returns-else-line-gt-MOST_BYTES-clause-grammar : goal.returns-else-line-gt-MOST_BYTES-clause-grammar
returns-else-line-gt-MOST_BYTES-clause-grammar c =
    let g = c.line_command.ensures.grammar in
    ((λ e. (c.if-line-gt-MOST_BYTES.false, none_said c.args.line.now (g.0 e))), (λ h. g.1 (none_back c.args.line.now h.1)))

pub returns-else-line-gt-MOST_BYTES-clause-memory : goal.returns-else-line-gt-MOST_BYTES-clause-memory
returns-else-line-gt-MOST_BYTES-clause-memory c = λ e. frame_said c.args.line.now (c.line_command.ensures.memory e)
