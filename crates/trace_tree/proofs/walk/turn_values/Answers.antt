use Rattle.std.proofs.Common.{sym, ap, ◌∙◌}
use Rattle.maple_base.specs.declared.items.Item.TheVariants.{Read}
use Rattle.trace_tree.specs.Shape.{Reads}
use Rattle.trace_tree.specs.TreeOf.{tree_of}
use Rattle.trace_tree.specs.Walks.{put_behind}
use Rattle.trace_tree.proofs.Rolls.{tree_of-Values}
use Rattle.trace_tree.proofs.walk.turn_values.Goals as goal

pub returns-then-turned-clause-other : goal.returns-then-turned-clause-other
returns-then-turned-clause-other c =
    let was = sym (tree_of-Values c.in-Values.field c.in-Values.children) ∙ ap tree_of c.in-Values.ensures.value in
    rw c.if-turned.true (ap tree_of c.swap.ensures.y_after ∙ tree_of-Values c.in-Values.field c.swap_child-turned.new.children ∙ ap (Reads c.in-Values.field) c.if-turned.ensures.children
    ∙ ap (put_behind (Read c.args.field c.args.value) (tree_of c.args.other.now)) was)
