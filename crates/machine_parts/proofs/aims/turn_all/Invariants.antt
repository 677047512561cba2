use Rattle.std.proofs.Common.{◌≡◌, ◌++◌, drop, map, take}
use Rattle.machine_parts.specs.Aiming.{turns}
use Rattle.machine_parts.proofs.aims.turn_all.Given as goal

abbrev pub invariant-loop-connection : goal.invariant-loop-connection
invariant-loop-connection l = l.sessions ≡ map turns (take l.connection-index l.fn.sessions) ++ drop l.connection-index l.fn.sessions
