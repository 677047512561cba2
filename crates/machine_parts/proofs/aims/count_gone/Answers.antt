use Rattle.std.proofs.Common.{◌≡◌, ◌+◌, List, ◌∷◌, length, drop, sym, ap, ◌∙◌, arith}
use Rattle.std.proofs.lemmas.List.{at_drop_more}
use Rattle.trace_tree.specs.Stands.{of_leaf}
use Rattle.switch_traces.specs.Traces.{Learnings, those}
use Rattle.machine_steps.specs.Machine.{kept_of, trace_total}
use Rattle.machine_parts.specs.Aiming.{keeps}
use Rattle.machine_parts.proofs.Aiming.{few}
use Rattle.machine_parts.proofs.aims.count_gone.Goals as goal

pub overflow_sub-len : goal.overflow_sub-len
overflow_sub-len c =
    omega (arith, few (of_leaf (keeps c.args.left.now)) c.traces-item.result.traces, c.count.ensures, c.len.ensures)

pub loop-traces-preserved : goal.loop-traces-preserved
loop-traces-preserved c =
    let xs = c.args.learned.now in
    let i = c.loop-traces.traces-index in
    let p = keeps c.args.left.now in
    let x = c.traces-item.result in
    let is = sym c.traces-item.is in
    let all : trace_total (drop i xs) ≡ length x.traces + trace_total (drop (i + 1) xs) = at_drop_more trace_total xs i x c.loop-traces-test.true ∙ ap (λ (y : Learnings). trace_total (y ∷ drop (i + 1) xs)) is in
    let left : trace_total (kept_of p (drop i xs)) ≡ length (those p x.traces) + trace_total (kept_of p (drop (i + 1) xs)) = at_drop_more (λ (ls : List Learnings). trace_total (kept_of p ls)) xs i x c.loop-traces-test.true ∙ ap (λ (y : Learnings). trace_total (kept_of p (y ∷ drop (i + 1) xs))) is in
    omega (arith, few (of_leaf p) x.traces, c.count.ensures, c.len.ensures, c.in-Some.ensures, all, left, c.loop-traces.invariant)
