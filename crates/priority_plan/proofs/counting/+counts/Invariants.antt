use Rattle.std.proofs.Common.{◌≡◌, ◌<◌, ◌≤◌, ◌+◌, ◌*◌, drop}
use Rattle.std.specs.Prelude.{max}
use Rattle.trace_tree.specs.TreeOf.{tree_of, branches, child_trees}
use Rattle.trace_tree.specs.Growth.{nodes_of, nodes_in}
use Rattle.priority_plan.specs.Rules.{levels_of, most_levels}
use Rattle.priority_plan.specs.Counts.{count_of, count_in, capped}
use Rattle.priority_plan.specs.Emptied.{emptied, emptied_in}
use Rattle.priority_plan.proofs.counting.+counts.Given as goal

-- the levels and rules so far, and those of what is left
abbrev pub invariant-node_counts-loop-node : goal.invariant-node_counts-loop-node
invariant-node_counts-loop-node g l =
    let p = g.W.WhichLeaves.counted l.which in
    let left = emptied p (tree_of l.node) in
    let all = emptied p (tree_of l.fn.node) in
    record {
      done : levels_of left ≡ 0 → l.counts.levels ≡ levels_of all;
      more : 0 < levels_of left → l.counts.levels + (l.waiting + levels_of left) ≡ levels_of all;
      done_rules : count_of left ≡ 0 → l.counts.rules ≡ capped (count_of all);
      more_rules : 0 < count_of left → capped (l.counts.rules + (l.waiting + count_of left)) ≡ capped (count_of all);
      nodes : nodes_of (tree_of l.node) ≤ nodes_of (tree_of l.fn.node);
    }

-- the levels and rules so far, and what is left
abbrev pub invariant-all_counts-loop-child : goal.invariant-all_counts-loop-child
invariant-all_counts-loop-child g l =
    let p = g.W.WhichLeaves.counted l.which in
    let rest = branches (child_trees (drop l.child-index l.children)) in
    let left = emptied_in p rest in
    let all = emptied_in p (branches (child_trees l.children)) in
    record {
      most : max l.levels (most_levels left) ≡ most_levels all;
      rules : capped (l.rules + count_in left) ≡ capped (count_in all);
      small : l.rules ≤ 18446744073709551615;
      few : l.levels ≤ l.rules;
      none : l.levels ≡ 0 → l.rules ≡ 0;
      nodes : nodes_in rest ≤ nodes_in (branches (child_trees l.children));
    }

abbrev pub decreases-node_counts : goal.decreases-node_counts
decreases-node_counts g l = 3 * nodes_of (tree_of l.node.now)

abbrev pub decreases-part_counts : goal.decreases-part_counts
decreases-part_counts g l = 3 * nodes_of (tree_of l.node.now) + 1

abbrev pub decreases-all_counts : goal.decreases-all_counts
decreases-all_counts g l = 3 * nodes_in (branches (child_trees l.children.now)) + 2
