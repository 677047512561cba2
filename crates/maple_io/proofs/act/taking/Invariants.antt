use Rattle.std.proofs.Common.{◌++◌}
use Rattle.maple_io.specs.Turns.{sent_acts}
use Rattle.maple_io.proofs.act.taking.Given as goal

abbrev pub ghost-picked : goal.ghost-picked
ghost-picked a = a.shown.now.0.now.value ++ sent_acts a.shown.now.1 a.shown.now.2 a.shown.now.3.now
