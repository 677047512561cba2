use Rattle.trace_tree.specs.declared.node.Leaf.{Leaf}
use Rattle.trace_tree.specs.TreeOf.{tree_of}
use Rattle.trace_tree.specs.Walks.{EndsIn}
use Rattle.trace_tree.proofs.grow.leaf_at_end.Given as goal

-- the leaf is still at the end
abbrev pub invariant-loop-node : goal.invariant-loop-node
invariant-loop-node l = (leaf : Leaf) → EndsIn leaf (tree_of l.initial.node) → EndsIn leaf (tree_of l.node)
