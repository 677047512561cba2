use Rattle.std.proofs.Common.{◌≡◌, ◌≤◌, length, drop}
use Rattle.trace_tree.specs.Shape.{Empty}
use Rattle.trace_tree.specs.TreeOf.{tree_of}
use Rattle.trace_tree.specs.Growth.{insert}
use Rattle.trace_tree.proofs.grow.chain.Given as goal

-- the node is the path of the items that are done
abbrev pub invariant-loop-left : goal.invariant-loop-left
invariant-loop-left l = record { within : l.left ≤ length l.items; path : tree_of l.node ≡ insert (drop l.left l.items) l.fn.leaf Empty }

abbrev pub decreases-loop-left : goal.decreases-loop-left
decreases-loop-left l = l.left
