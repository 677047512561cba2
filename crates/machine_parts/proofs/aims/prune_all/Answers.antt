use Rattle.topo_paths.specs.Scenes.{cell_in}
use Rattle.tree_prune.specs.Current.{is_current}
use Rattle.switch_traces.specs.Traces.{Learnings, those, with_those}
use Rattle.machine_parts.proofs.Aiming.{walked}
use Rattle.machine_parts.proofs.aims.prune_all.Goals as goal

pub loop-traces-preserved : goal.loop-traces-preserved
loop-traces-preserved c =
    walked (λ (l : Learnings). with_those (those (is_current (cell_in c.args.scene.now)) l.traces) l) c.args.learned.now c.loop-traces.learned c.loop-traces.traces-index c.traces-item.result c.prune.new.self c.loop-traces-test.true c.loop-traces.invariant c.traces-item.is c.prune.ensures
