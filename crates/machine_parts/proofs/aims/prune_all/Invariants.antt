use Rattle.std.proofs.Common.{◌≡◌, ◌++◌, drop, take}
use Rattle.topo_paths.specs.Scenes.{cell_in}
use Rattle.tree_prune.specs.Current.{is_current}
use Rattle.machine_steps.specs.Machine.{kept_of}
use Rattle.machine_parts.proofs.aims.prune_all.Given as goal

abbrev pub invariant-loop-traces : goal.invariant-loop-traces
invariant-loop-traces l = l.learned ≡ kept_of (is_current (cell_in l.scene)) (take l.traces-index l.fn.learned) ++ drop l.traces-index l.fn.learned
