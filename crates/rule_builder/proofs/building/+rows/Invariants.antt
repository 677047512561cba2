use Rattle.std.proofs.Common.{◌≡◌, ◌≤◌, ◌+◌, ◌*◌, ◌++◌, drop}
use Rattle.trace_tree.specs.TreeOf.{tree_of, branches, child_trees}
use Rattle.trace_tree.specs.Bounds.{IsWithin, AreWithin}
use Rattle.trace_tree.specs.Growth.{nodes_of, nodes_in}
use Rattle.priority_plan.specs.Rules.{levels_of, most_levels}
use Rattle.priority_plan.specs.Emptied.{emptied, emptied_in}
use Rattle.priority_plan.specs.Rules.{rows_of, rows_in}
use Rattle.rule_builder.proofs.building.+rows.Given as goal

-- what is there and what is left are all of it
abbrev pub invariant-push_rows-loop-node : goal.invariant-push_rows-loop-node
invariant-push_rows-loop-node g l =
    let p = g.W.WhichLeaves.counted l.which in
    let here = tree_of l.node in
    let whole = tree_of l.fn.node in
    record {
      levels : l.left ≡ levels_of (emptied p here);
      fewer : l.left ≤ l.fn.levels;
      nodes : nodes_of here ≤ nodes_of whole;
      values : IsWithin here;
      rows : l.rows.items ++ rows_of (emptied p here) l.of l.base ≡ l.fn.rows.items ++ rows_of (emptied p whole) l.of l.base;
    }

abbrev pub invariant-push_all-loop-child : goal.invariant-push_all-loop-child
invariant-push_all-loop-child g l =
    let p = g.W.WhichLeaves.counted l.which in
    let left = branches (child_trees (drop l.child-index l.children)) in
    let all = branches (child_trees l.children) in
    record {
      most : most_levels (emptied_in p left) ≤ most_levels (emptied_in p all);
      nodes : nodes_in left ≤ nodes_in all;
      values : AreWithin l.field left;
      rows : l.rows.items ++ rows_in (emptied_in p left) l.field l.of l.base ≡ l.fn.rows.items ++ rows_in (emptied_in p all) l.field l.of l.base;
    }

abbrev pub decreases-push_rows : goal.decreases-push_rows
decreases-push_rows g l = 2 * nodes_of (tree_of l.node.now)

abbrev pub decreases-push_all : goal.decreases-push_all
decreases-push_all g l = 2 * nodes_in (branches (child_trees l.children.now)) + 1
