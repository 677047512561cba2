use Rattle.std.proofs.Common.{◌≡◌, ◌≤◌, ◌+◌, ◌*◌, drop}
use Rattle.trace_tree.specs.TreeOf.{tree_of, branches_of}
use Rattle.trace_tree.specs.Growth.{nodes_of, nodes_in}
use Rattle.tree_prune.specs.Counts.{leaves_with, leaves_with_in}
use Rattle.tree_prune.specs.Current.{is_current}
use Rattle.tree_prune.proofs.counting.+counts.Given as goal

-- the count so far, and that of what is left
abbrev pub invariant-node_current-loop-node : goal.invariant-node_current-loop-node
invariant-node_current-loop-node g l =
    let p = is_current (g.E.EnvNow.has l.env) in
    record {
      count : l.count + leaves_with p (tree_of l.node) ≡ leaves_with p (tree_of l.fn.node);
      nodes : nodes_of (tree_of l.node) ≤ nodes_of (tree_of l.fn.node);
    }

abbrev pub invariant-all_current-loop-child : goal.invariant-all_current-loop-child
invariant-all_current-loop-child g l =
    let p = is_current (g.E.EnvNow.has l.env) in
    let left = branches_of (drop l.child-index l.children) in
    record {
      count : l.count + leaves_with_in p left ≡ leaves_with_in p (branches_of l.children);
      nodes : nodes_in left ≤ nodes_in (branches_of l.children);
    }

abbrev pub decreases-node_current : goal.decreases-node_current
decreases-node_current g l = 2 * nodes_of (tree_of l.node.now)

abbrev pub decreases-all_current : goal.decreases-all_current
decreases-all_current g l = 2 * nodes_in (branches_of l.children.now) + 1
