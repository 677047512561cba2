use Rattle.std.proofs.Common.{◌≡◌, drop}
use Rattle.maple_io.specs.Schedules.{open_once}
use Rattle.maple_io.proofs.mem_board.open_once.Given as goal

-- of what is left as of all
abbrev pub invariant-loop-index : goal.invariant-loop-index
invariant-loop-index l = open_once (drop l.index l.turns) ≡ open_once l.turns
