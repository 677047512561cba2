use Rattle.std.proofs.Common.{◌≡◌, ◌++◌, drop, map, take}
use Rattle.machine_parts.specs.Aiming.{gives_up}
use Rattle.machine_parts.proofs.aims.give_up_all.Given as goal

abbrev pub invariant-loop-connection : goal.invariant-loop-connection
invariant-loop-connection l = l.sessions ≡ map gives_up (take l.connection-index l.fn.sessions) ++ drop l.connection-index l.fn.sessions
