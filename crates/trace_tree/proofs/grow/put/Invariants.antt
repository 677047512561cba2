use Rattle.std.proofs.Common.{◌-◌, length}
use Rattle.trace_tree.specs.TreeOf.{tree_of}
use Rattle.trace_tree.proofs.Walks.{joined, IsDown, IsUp}
use Rattle.trace_tree.proofs.grow.put.Given as goal

abbrev pub invariant-loop-depth : goal.invariant-loop-depth
invariant-loop-depth l = IsDown l.items l.leaf (tree_of l.initial.node) l.depth (tree_of l.above) (tree_of l.node)

abbrev pub decreases-loop-depth : goal.decreases-loop-depth
decreases-loop-depth l = length l.items - l.depth

abbrev pub invariant-loop-depth-2 : goal.invariant-loop-depth-2
invariant-loop-depth-2 l = IsUp l.items (joined l.items l.initial.depth (tree_of l.initial.above) (tree_of l.initial.node)) l.depth (tree_of l.above) (tree_of l.node)

abbrev pub decreases-loop-depth-2 : goal.decreases-loop-depth-2
decreases-loop-depth-2 l = l.depth
