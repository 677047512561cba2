use Rattle.std.proofs.Common.{◌≡◌, ◌+◌, ◌-◌, ◌++◌, sym, ap, ◌∙◌, arith, subst}
use Rattle.maple_base.specs.Keys.{fix}
use Rattle.trace_tree.specs.TreeOf.{tree_of, branches, child_trees}
use Rattle.trace_tree.specs.Bounds.{IsWithin}
use Rattle.trace_tree.specs.Growth.{nodes_of}
use Rattle.trace_tree.specs.Shape.{Shape, Tests, Reads}
use Rattle.trace_tree.proofs.Puts.{OnOk_map}
use Rattle.trace_tree.proofs.Rolls.{tree_of-Values, tree_of-Test}
use Rattle.std.specs.Prelude.{map}
use Rattle.priority_plan.specs.declared.rows.Row.TheVariants.{Barrier}
use Rattle.priority_plan.specs.Rules.{barrier_behind}
use Rattle.priority_plan.specs.Rules.{levels_of, with_barrier}
use Rattle.priority_plan.specs.Emptied.{emptied}
use Rattle.priority_plan.specs.Rules.{rows_of}
use Rattle.priority_plan.proofs.Spans.{barrier_least}
use Rattle.priority_plan.proofs.Left.{below_is, side_left}
use Rattle.rule_builder.proofs.building.+rows.Goals as goal

pub push_rows-returns-in-Values : goal.push_rows-returns-in-Values
push_rows-returns-in-Values g t c =
    let p = g.W.WhichLeaves.counted c.args.which.now in
    let whole = ap tree_of c.in-Values.is ∙ tree_of-Values c.in-Values.field c.in-Values.children ∙ ap (λ cs. Reads c.in-Values.field (branches (child_trees cs))) (sym c.deref.ensures.value) in
    OnOk_map _ _ c.push_all.result (λ e. e ∙ ap (λ x. c.loop-node.rows.items ++ rows_of (emptied p x) c.args.of.now c.args.base) (sym whole) ∙ c.loop-node.invariant.rows) c.push_all.ensures

pub push_rows-loop-node-preserved : goal.push_rows-loop-node-preserved
push_rows-loop-node-preserved g t c =
    let p = g.W.WhichLeaves.counted c.args.which.now in
    let n = tree_of c.deref-node.result.now in
    let y = tree_of c.deref-in-Test-2.result.now in
    let f = c.in-Test.field in
    let v = c.in-Test.value in
    let whole : tree_of c.loop-node.node.now ≡ Tests f v n y =
    ap tree_of c.in-Test.is ∙ tree_of-Test f v c.in-Test.no c.in-Test.yes
    ∙ ap (λ x. Tests f v (tree_of x) (tree_of c.in-Test.yes.value)) (sym c.deref-node.ensures)
    ∙ ap (λ x. Tests f v n (tree_of x)) (sym c.deref-in-Test-2.ensures) in
    let levels = λ (x : Shape). levels_of (emptied p x) in
    let above : c.node_levels_where-above.result ≡ levels y = c.node_levels_where-above.ensures ∙ ap (λ x. levels (tree_of x)) (c.deref-in-Test.ensures ∙ sym c.deref-in-Test-2.ensures) in
    let left : c.loop-node.left ≡ with_barrier (levels n) + levels y = c.loop-node.invariant.levels ∙ ap levels whole in
    let behind : c.loop-node.left - c.node_levels_where-above.result ≡ with_barrier (levels n) = omega (arith, left, above) in
    let below : c.saturating_sub-below.result ≡ levels n = omega (arith, left, above, below_is (levels n) (levels y), c.saturating_sub-below.ensures) in
    record {
      levels = below;
      fewer = omega (arith, left, below, barrier_least (levels n), c.loop-node.invariant.fewer);
      nodes = omega (arith, ap nodes_of whole, c.loop-node.invariant.nodes);
      values = (subst IsWithin whole c.loop-node.invariant.values).1;
      rows = side_left (λ w d. rows_of (emptied p y) w d) (λ k w. map Barrier (barrier_behind k w c.args.base)) (rows_of (emptied p n) c.args.of.now c.args.base) _ c.loop-node.rows.items _ _ _ _ _ c.args.base (fix f v c.args.of.now) c.fixing-within.result c.fixing-within.ensures below behind
          (ap (λ x. c.loop-node.rows.items ++ rows_of (emptied p x) c.args.of.now c.args.base) (sym whole) ∙ c.loop-node.invariant.rows)
          c.in_ok-push_rows-in-Test.ensures c.in_ok-push_barrier-in-Test.ensures;
    }
