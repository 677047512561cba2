use Rattle.std.proofs.Common.{◌+◌}
use Rattle.trace_tree.specs.TreeOf.{tree_of}
use Rattle.trace_tree.specs.Clears.{load_of, held_of}
use Rattle.trace_tree.proofs.clear.clear.Given as goal

abbrev pub decreases-loop-node : goal.decreases-loop-node
decreases-loop-node l = load_of (tree_of l.node) + held_of (tree_of l.waiting)
