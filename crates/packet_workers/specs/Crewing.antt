-- What a crew's worker makes of a packet.
use Rattle.std.specs.Prelude.{◌≡◌, ℕ, List, Ok, Err}
use Rattle.machine_steps.specs.Waiting.{Waiting}
use Rattle.machine_sharing.specs.Sharing.{Call}
use Rattle.worker_crew.specs.declared.gave_up.GaveUp.TheVariants as gave_up
use Rattle.worker_crew.specs.Tasks.{Worked as Told}
use Rattle.packet_workers.specs.declared.worked.Worked.{Worked}
use Rattle.packet_workers.specs.declared.worked.Worked.TheVariants as how
use Rattle.packet_workers.specs.Rounds.{Rounds}

-- it gives up for want of memory and at a worn hall, and else goes on
abbrev pub told_as : Worked → Told
told_as how.NoMemory = Err gave_up.NoMemory
told_as how.Worn = Err gave_up.Worn
told_as worked = Ok tt

-- the calls are three rounds at most for the packet, and this is told of how they end
abbrev pub Makes : ℕ → Waiting → Told → List Call → Type 0
Makes budget item told calls = (worked : Worked) × Rounds item budget 3 calls worked × (told ≡ told_as worked)
