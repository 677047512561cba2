use Rattle.std.proofs.Common.{refl, sym, ap, ◌∙◌}
use Rattle.std.specs.Prelude.{insert as insert_at}
use Rattle.trace_tree.specs.TreeOf.{tree_of, branches, child_trees, values_of}
use Rattle.trace_tree.specs.Growth.{insert, place_of}
use Rattle.trace_tree.proofs.Children.{change_missing}
use Rattle.trace_tree.proofs.Branching.{has_found}
use Rattle.trace_tree.proofs.grow.add_child.Goals as goal

pub unreachable-requires : goal.unreachable-requires
unreachable-requires c =
    let placed = ap (λ cs. place_of c.args.value (values_of cs)) (sym c.deref.ensures.value) ∙ sym c.in_default.ensures.place in
    let found = has_found tree_of c.args.children.now.items c.args.value c.in_default.field-0 placed in
    cc (c.requires.new, found)

pub returns-clause-ok : goal.returns-clause-ok
returns-clause-ok c =
    let items = c.args.children.now.items in
    let placed = ap (λ cs. place_of c.args.value (values_of cs)) (sym c.deref.ensures.value) ∙ sym c.in-Err.ensures.place in
    ap (λ cs. branches (child_trees cs)) (c.in-Ok.ensures.items ∙ ap (λ cs. insert_at cs c.in-Err.at (c.args.value, c.in_ok-node.node)) c.reserve.ensures.items)
    ∙ change_missing tree_of items c.args.value c.in-Err.at (insert c.args.rest.now c.args.leaf) (c.args.value, c.in_ok-node.node) placed refl c.in_ok-node.ensures.ok
