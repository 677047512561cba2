use Rattle.std.proofs.Common.{◌≡◌, sym, ap, ◌∙◌, arith}
use Rattle.trace_tree.specs.TreeOf.{tree_of, branches, child_trees}
use Rattle.trace_tree.proofs.Rolls.{tree_of-Values}
use Rattle.priority_plan.specs.Counts.{count_of, count_in, capped}
use Rattle.priority_plan.specs.Emptied.{emptied, emptied_in}
use Rattle.priority_plan.proofs.counting.+counts.Goals as goal

pub node_counts-returns-then-all-eq0-clause-rules : goal.node_counts-returns-then-all-eq0-clause-rules
node_counts-returns-then-all-eq0-clause-rules g t c =
    let p = g.W.WhichLeaves.counted c.args.which.now in
    let rolled = ap tree_of c.in-Values.is ∙ tree_of-Values c.in-Values.field c.in-Values.children in
    let left : capped (count_of (emptied p (tree_of c.loop-node.node.now))) ≡ c.all_counts-all.result.rules = ap (λ x. capped (count_of (emptied p x))) rolled ∙ ap (λ cs. capped (count_in (emptied_in p (branches (child_trees cs))))) (sym c.deref.ensures.value) ∙ sym c.all_counts-all.ensures.rules in
    let none = c.all_counts-all.ensures.none (omega arith) in
    c.loop-node.invariant.done_rules (omega (arith, left, none))

pub node_counts-returns-else-all-eq0-clause-rules : goal.node_counts-returns-else-all-eq0-clause-rules
node_counts-returns-else-all-eq0-clause-rules g t c =
    let p = g.W.WhichLeaves.counted c.args.which.now in
    let rolled = ap tree_of c.in-Values.is ∙ tree_of-Values c.in-Values.field c.in-Values.children in
    let left : capped (count_of (emptied p (tree_of c.loop-node.node.now))) ≡ c.all_counts-all.result.rules = ap (λ x. capped (count_of (emptied p x))) rolled ∙ ap (λ cs. capped (count_in (emptied_in p (branches (child_trees cs))))) (sym c.deref.ensures.value) ∙ sym c.all_counts-all.ensures.rules in
    let all = c.loop-node.invariant.more_rules (omega (arith, left, c.all_counts-all.ensures.few)) in
    omega (arith, all, left, c.with_part-else-all-eq0.ensures.rules)
