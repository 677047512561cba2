use Rattle.std.proofs.Common.{◌≡◌, ◌≤◌, ◌+◌, ◌-◌, ◌*◌, length}
use Rattle.std.specs.Fn.{FnReturnsAt}
use Rattle.trace_tree.specs.TreeOf.{tree_of, branches_of}
use Rattle.trace_tree.specs.Growth.{leaves_in, nodes_of, nodes_in}
use Rattle.trace_tree.proofs.Retains.{SoFar, IsDescent}
use Rattle.trace_tree.proofs.retain.+retain.Given as goal

abbrev pub decreases-retain : goal.decreases-retain
decreases-retain g l = 2 * nodes_of (tree_of l.node.now)

abbrev pub decreases-retain_values : goal.decreases-retain_values
decreases-retain_values g l = 2 * nodes_in (branches_of l.children.items) + 1

abbrev pub invariant-retain-loop-node : goal.invariant-retain-loop-node
invariant-retain-loop-node g l = IsDescent (FnReturnsAt g.F.Fn l.keep) (tree_of l.fn.node) (tree_of l.waiting) (tree_of l.node) l.gone

abbrev pub decreases-retain-loop-node : goal.decreases-retain-loop-node
decreases-retain-loop-node g l = nodes_of (tree_of l.node)

abbrev pub invariant-retain_values-loop-at : goal.invariant-retain_values-loop-at
invariant-retain_values-loop-at g l = record {
  within : l.at ≤ length l.children.items;
  done : SoFar (FnReturnsAt g.F.Fn l.keep) l.at l.fn.children.items l.children.items;
  counted : leaves_in (branches_of l.children.items) + l.gone ≡ leaves_in (branches_of l.fn.children.items);
}

abbrev pub decreases-retain_values-loop-at : goal.decreases-retain_values-loop-at
decreases-retain_values-loop-at g l = length l.children.items - l.at
