use Rattle.std.proofs.Common.{◌++◌}
use Rattle.maple_io.specs.Writes.{taken_of}
use Rattle.maple_io.proofs.answer.took.Given as goal

abbrev pub ghost-picked : goal.ghost-picked
ghost-picked a = a.shown.now.0.now.value ++ taken_of a.shown.now.1 a.shown.now.2.now
