use Rattle.std.proofs.Common.{◌++◌}
use Rattle.maple_io.specs.Turns.{started_acts}
use Rattle.maple_io.proofs.act.starting.Given as goal

abbrev pub ghost-picked : goal.ghost-picked
ghost-picked a = a.shown.now.0.now.value ++ started_acts a.shown.now.1 a.shown.now.2 a.shown.now.3
