use Rattle.std.proofs.Common.{ap, ◌∙◌, subst}
use Rattle.trace_tree.specs.TreeOf.{tree_of}
use Rattle.trace_tree.specs.Walks.{EndsIn}
use Rattle.trace_tree.proofs.Rolls.{tree_of-Values}
use Rattle.trace_tree.proofs.Branching.{ends_last}
use Rattle.trace_tree.proofs.grow.leaf_at_end.Goals as goal

pub loop-node-preserved-in-Values : goal.loop-node-preserved-in-Values
loop-node-preserved-in-Values c leaf ends =
    let rolled = ap tree_of c.in-Values.is ∙ tree_of-Values c.in-Values.field c.in-Values.children in
    ends_last tree_of leaf c.in-Values.field c.in-Values.children.items _ _ c.in_ok-child-in-Values.ensures.items (subst (EndsIn leaf) rolled (c.loop-node.invariant leaf ends))
