use Rattle.std.proofs.Common.{◌≡◌, ◌+◌, ◌-◌, ◌++◌, sym, ap, ◌∙◌, arith, subst}
use Rattle.maple_base.specs.Keys.{fix}
use Rattle.trace_tree.specs.TreeOf.{tree_of, branches, child_trees}
use Rattle.trace_tree.specs.Bounds.{IsWithin}
use Rattle.trace_tree.specs.Growth.{nodes_of}
use Rattle.trace_tree.specs.Shape.{Tests, Reads}
use Rattle.trace_tree.proofs.Puts.{OnOk_map}
use Rattle.trace_tree.proofs.Rolls.{tree_of-Values, tree_of-Test}
use Rattle.priority_plan.specs.Rules.{levels_of, with_barrier, barrier_behind}
use Rattle.priority_plan.specs.Highest.{chain_of, chain_in}
use Rattle.priority_plan.proofs.Spans.{barrier_least}
use Rattle.priority_plan.proofs.Left.{below_is, side_left}
use Rattle.priority_plan.proofs.chaining.+chain.Goals as goal

pub push_chain-returns-in-Values : goal.push_chain-returns-in-Values
push_chain-returns-in-Values t c =
    let done = c.loop-node.rules.items in
    let f = c.in-Values.field in
    let bs = branches (child_trees c.deref.result.now) in
    let m = c.args.of.now in
    let b = c.args.base in
    let whole : tree_of c.loop-node.node.now ≡ Reads f bs = ap tree_of c.in-Values.is ∙ tree_of-Values f c.in-Values.children ∙ ap (λ cs. Reads f (branches (child_trees cs))) (sym c.deref.ensures.value) in
    let left = c.loop-node.invariant.levels ∙ ap levels_of whole in
    OnOk_map _ _ c.push_highest.result
    (λ p. p ∙ ap (λ k. done ++ chain_in bs k f m b) left ∙ ap (λ x. done ++ chain_of x m b) (sym whole) ∙ c.loop-node.invariant.rules)
    c.push_highest.ensures

pub push_chain-loop-node-preserved : goal.push_chain-loop-node-preserved
push_chain-loop-node-preserved t c =
    let here = tree_of c.loop-node.node.now in
    let n = tree_of c.deref-node.result.now in
    let y = tree_of c.deref-in-Test-2.result.now in
    let f = c.in-Test.field in
    let v = c.in-Test.value in
    let whole : here ≡ Tests f v n y =
    ap tree_of c.in-Test.is ∙ tree_of-Test f v c.in-Test.no c.in-Test.yes
    ∙ ap (λ x. Tests f v (tree_of x) (tree_of c.in-Test.yes.value)) (sym c.deref-node.ensures)
    ∙ ap (λ x. Tests f v n (tree_of x)) (sym c.deref-in-Test-2.ensures) in
    let above : c.node_levels-above.result ≡ levels_of y = c.node_levels-above.ensures ∙ ap (λ x. levels_of (tree_of x)) (c.deref-in-Test.ensures ∙ sym c.deref-in-Test-2.ensures) in
    let left : c.loop-node.left ≡ with_barrier (levels_of n) + levels_of y = c.loop-node.invariant.levels ∙ ap levels_of whole in
    let behind : c.loop-node.left - c.node_levels-above.result ≡ with_barrier (levels_of n) = omega (arith, left, above) in
    let below : c.saturating_sub-below.result ≡ levels_of n = omega (arith, left, above, below_is (levels_of n) (levels_of y), c.saturating_sub-below.ensures) in
    record {
      levels = below;
      fewer = omega (arith, left, c.loop-node.invariant.levels, barrier_least (levels_of n), c.loop-node.invariant.fewer);
      nodes = omega (arith, ap nodes_of whole, c.loop-node.invariant.nodes);
      values = (subst IsWithin whole c.loop-node.invariant.values).1;
      rules = side_left (λ w d. chain_of y w d) (λ k w. barrier_behind k w c.args.base) (chain_of n c.args.of.now c.args.base) _ c.loop-node.rules.items _ _ _ _ _ c.args.base (fix f v c.args.of.now) c.fixing-within.result c.fixing-within.ensures below behind
          (ap (λ x. c.loop-node.rules.items ++ chain_of x c.args.of.now c.args.base) (sym whole) ∙ c.loop-node.invariant.rules)
          c.in_ok-push_chain-in-Test.ensures c.in_ok-push_barrier-in-Test.ensures;
    }
