use Rattle.std.proofs.Common.{◌≡◌, ◌≤◌, length, Some, None, ap, ◌∙◌, arith}
use Rattle.std.proofs.lemmas.Grind.{common_steps}
use Rattle.script_text.specs.Grammar.{most_bytes}
use Rattle.script_text.specs.Reading.{line_command}
use Rattle.script_text.proofs.Said.{line_back, none_back}
use Rattle.script_text.specs.Steps.{has_frame_read}
use Rattle.script_text.proofs.Sizes.{short_of}
use Rattle.script_text.proofs.step.step_of.Goals as goal

pub step_by-requires : goal.step_by-requires
step_by-requires c =
    let short : length c.args.line.now ≤ most_bytes = grind (arith, common_steps, c.in-Ok.is, c.read_line.ensures.too_long) in
    short_of c.args.line.now c.in-Ok.command short c.in-Ok.ensures.command

pub returns-in-Ok-clause-step : goal.returns-in-Ok-clause-step
returns-in-Ok-clause-step c = let h : line_command c.args.line.now ≡ Some c.in-Ok.command = line_back c.in-Ok.ensures.command in grind (arith, common_steps, h)

pub returns-in-Ok-clause-stop : goal.returns-in-Ok-clause-stop
returns-in-Ok-clause-stop c = let h : line_command c.args.line.now ≡ Some c.in-Ok.command = line_back c.in-Ok.ensures.command in grind (arith, common_steps, h)

pub returns-in-Err-Grammar-clause-stop : goal.returns-in-Err-Grammar-clause-stop
returns-in-Err-Grammar-clause-stop c =
    let g = c.read_line.ensures.grammar.0 (rw c.in-Err-Grammar.field-0-is at c.in-Err-Grammar.is) in
    let h : line_command c.args.line.now ≡ None = none_back c.args.line.now g.1 in
    grind (arith, common_steps, h, g.0)

pub returns-in-Ok-clause-memory : goal.returns-in-Ok-clause-memory
returns-in-Ok-clause-memory c = λ e. ap has_frame_read (line_back c.in-Ok.ensures.command) ∙ c.step_by.ensures.memory e

pub returns-in-Err-NoMemory-clause-memory : goal.returns-in-Err-NoMemory-clause-memory
returns-in-Err-NoMemory-clause-memory c = λ e.
    let (device, port, bytes, says) = c.read_line.ensures.memory (rw c.in-Err-NoMemory.field-0-is at c.in-Err-NoMemory.is) in ap has_frame_read (line_back says)
