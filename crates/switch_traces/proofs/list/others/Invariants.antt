use Rattle.trace_tree.specs.Stands.{has_other_number}
use Rattle.switch_traces.specs.Traces.{those}
use Rattle.switch_traces.proofs.list.others.Given as goal

abbrev pub ghost-picked : goal.ghost-picked
ghost-picked a = those (has_other_number a.shown.now.1) a.shown.now.0.now.value
