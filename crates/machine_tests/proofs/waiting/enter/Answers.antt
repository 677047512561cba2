use Rattle.machine_tests.proofs.waiting.enter.Goals as goal

pub call-requires-clause-admitted : goal.call-requires-clause-admitted
call-requires-clause-admitted g c opening m log opens later run led alone = c.requires.plain m
