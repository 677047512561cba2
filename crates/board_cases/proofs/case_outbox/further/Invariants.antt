use Rattle.std.proofs.Common.{◌++◌}
use Rattle.board_cases.proofs.case_outbox.further.Given as goal

abbrev pub ghost-picked : goal.ghost-picked
ghost-picked a = a.shown.now.0.now.value ++ a.shown.now.1.now
