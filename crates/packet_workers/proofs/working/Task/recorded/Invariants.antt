use Rattle.std.specs.Prelude.{◌∷◌, []}
use Rattle.history_lock.specs.Passes.{hall, known}
use Rattle.packet_workers.proofs.working.Task.recorded.Given as goal

abbrev pub ghosts-recorded_over : goal.ghosts-recorded_over
ghosts-recorded_over g a = record { start = known a.pass.now; halls = hall a.pass.now ∷ []; name = a.pass.ghost_name }
