use Rattle.std.proofs.Common.{◌≡◌, drop}
use Rattle.machine_steps.specs.Machine.{traces_in}
use Rattle.machine_parts.proofs.lists.traces_of.Given as goal

abbrev pub invariant-loop-traces : goal.invariant-loop-traces
invariant-loop-traces l = traces_in (drop l.traces-index l.learned) l.switch ≡ traces_in l.learned l.switch
