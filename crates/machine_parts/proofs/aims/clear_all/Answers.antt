use Rattle.std.proofs.Common.{false, List, get_or, sym, ap, ◌∙◌}
use Rattle.trace_tree.specs.declared.node.Trace.{Trace}
use Rattle.trace_tree.specs.declared.node.Leaf.{Leaf}
use Rattle.switch_traces.specs.Traces.{Learnings, those, with_those}
use Rattle.machine_parts.proofs.Aiming.{none_kept, walked}
use Rattle.machine_parts.proofs.aims.clear_all.Goals as goal

pub loop-traces-preserved : goal.loop-traces-preserved
loop-traces-preserved c =
    let item = get_or c.loop-traces.learned c.loop-traces.traces-index c.traces-item.result in
    walked (λ (l : Learnings). with_those (those (λ (x : Leaf). false) l.traces) l) c.args.learned.now c.loop-traces.learned c.loop-traces.traces-index c.traces-item.result c.clear.new.self c.loop-traces-test.true c.loop-traces.invariant c.traces-item.is (c.clear.ensures ∙ ap (λ (ts : List Trace). with_those ts item) (sym (none_kept item.traces)))
