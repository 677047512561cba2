use Rattle.std.proofs.Common.{◌++◌}
use Rattle.maple_io.specs.Turns.{given_acts}
use Rattle.maple_io.proofs.act.giving.Given as goal

abbrev pub ghost-picked : goal.ghost-picked
ghost-picked a = a.shown.now.0.now.value ++ given_acts a.shown.now.1 a.shown.now.2.now
