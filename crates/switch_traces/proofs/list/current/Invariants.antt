use Rattle.topo_paths.specs.Scenes.{cell_in}
use Rattle.tree_prune.specs.Current.{is_current}
use Rattle.switch_traces.specs.Traces.{those}
use Rattle.switch_traces.proofs.list.current.Given as goal

abbrev pub ghost-picked : goal.ghost-picked
ghost-picked a = those (is_current (cell_in a.shown.now.1.now)) a.shown.now.0.now.value
