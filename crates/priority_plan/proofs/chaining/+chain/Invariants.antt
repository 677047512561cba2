use Rattle.std.proofs.Common.{◌≡◌, ◌≤◌, ◌+◌, ◌*◌, ◌++◌, drop}
use Rattle.trace_tree.specs.TreeOf.{tree_of, branches, child_trees}
use Rattle.trace_tree.specs.Bounds.{IsWithin, AreWithin}
use Rattle.trace_tree.specs.Growth.{nodes_of, nodes_in}
use Rattle.priority_plan.specs.Rules.{levels_of, most_levels}
use Rattle.priority_plan.specs.Highest.{chain_of, chain_in}
use Rattle.priority_plan.proofs.chaining.+chain.Given as goal

-- what is there and what is left are all of it
abbrev pub invariant-push_chain-loop-node : goal.invariant-push_chain-loop-node
invariant-push_chain-loop-node l =
    let here = tree_of l.node in
    let whole = tree_of l.fn.node in
    record {
      levels : l.left ≡ levels_of here;
      fewer : levels_of here ≤ levels_of whole;
      nodes : nodes_of here ≤ nodes_of whole;
      values : IsWithin here;
      rules : l.rules.items ++ chain_of here l.of l.base ≡ l.fn.rules.items ++ chain_of whole l.of l.base;
    }

-- it is none of those that were passed
abbrev pub invariant-push_highest-loop-child : goal.invariant-push_highest-loop-child
invariant-push_highest-loop-child l =
    let left = branches (child_trees (drop l.child-index l.children)) in
    let all = branches (child_trees l.children) in
    record {
      most : most_levels left ≤ most_levels all;
      nodes : nodes_in left ≤ nodes_in all;
      values : AreWithin l.field left;
      rules : chain_in left l.most l.field l.of l.base ≡ chain_in all l.most l.field l.of l.base;
      same : l.rules.items ≡ l.fn.rules.items;
    }

abbrev pub decreases-push_chain : goal.decreases-push_chain
decreases-push_chain l = 2 * nodes_of (tree_of l.node.now)

abbrev pub decreases-push_highest : goal.decreases-push_highest
decreases-push_highest l = 2 * nodes_in (branches (child_trees l.children.now)) + 1
