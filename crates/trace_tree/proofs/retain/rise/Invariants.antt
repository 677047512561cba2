use Rattle.std.proofs.Common.{◌≡◌}
use Rattle.trace_tree.specs.TreeOf.{tree_of}
use Rattle.trace_tree.specs.Kept.{unwound}
use Rattle.trace_tree.proofs.retain.rise.Given as goal

abbrev pub invariant-loop-waiting : goal.invariant-loop-waiting
invariant-loop-waiting l = unwound (tree_of l.waiting) (tree_of l.node) ≡ unwound (tree_of l.initial.waiting) (tree_of l.initial.node)
