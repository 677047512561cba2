use Rattle.std.proofs.Common.{Err, ap, ◌∙◌}
use Rattle.core_machine.proofs.Hearing.{on_err}
use Rattle.serve_channels.proofs.Items.{memory_goes_on, step_goes_on}
use Rattle.serve_channels.proofs.server.Server.carry_out_line.Goals as goal

pub returns-in-Ok-clause-stopped : goal.returns-in-Ok-clause-stopped
returns-in-Ok-clause-stopped g c = on_err c.carry_out_step.result _ (step_goes_on c.args.text.now c.in-Ok.step c.in-Ok.ensures.step)

pub returns-in-Err-NoMemory-clause-stopped : goal.returns-in-Err-NoMemory-clause-stopped
returns-in-Err-NoMemory-clause-stopped g c = memory_goes_on c.args.text.now (c.step_of.ensures.memory (c.in-Err-NoMemory.is ∙ ap Err c.in-Err-NoMemory.field-0-is))
