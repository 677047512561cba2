use Rattle.std.proofs.Common.{refl}
use Rattle.maple_io.proofs.Pieces.{wrote_nothing}
use Rattle.maple_top.specs.Running.{lacked_memory, ran, read_texts, refused}
use Rattle.maple_top.proofs.Commands.{none_of}
use Rattle.maple_top.proofs.running.run_texts.Goals as goal

pub returns-in-Ok-clause-run : goal.returns-in-Ok-clause-run
returns-in-Ok-clause-run g c = ran c.in-Ok.policy c.in-Ok.ensures.policy c.run_policy.ensures.run

pub returns-in-Err-Refused-clause-run : goal.returns-in-Err-Refused-clause-run
returns-in-Err-Refused-clause-run g c =
    let refusal = rw c.in-Err-Refused.field-0-is at c.in-Err-Refused.ensures.refused in
    refused refl (none_of (read_texts c.args.texts.now) _ refusal) c.in-Err-Refused.line refusal (rw c.in-Err-Refused.line-is at c.refuse_policy.ensures.ends)

pub returns-in-Err-NoMemory-clause-run : goal.returns-in-Err-NoMemory-clause-run
returns-in-Err-NoMemory-clause-run g c = lacked_memory refl refl (wrote_nothing (g.O.Sink.tells c.args.to.now))
