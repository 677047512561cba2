use Rattle.std.proofs.Common.{sym, ap, ◌∙◌, refl}
use Rattle.trace_tree.specs.TreeOf.{tree_of, values_of}
use Rattle.trace_tree.specs.Growth.{place_of}
use Rattle.trace_tree.proofs.Children.{change_found, child_found}
use Rattle.trace_tree.proofs.Branching.{has_found, has_missing}
use Rattle.trace_tree.proofs.walk.swap_child.Goals as goal

pub returns-in-Ok-clause-has : goal.returns-in-Ok-clause-has
returns-in-Ok-clause-has c =
    let placed = ap (λ cs. place_of c.args.value (values_of cs)) (sym c.deref.ensures.value) ∙ sym c.in-Ok.ensures.place in
    sym (has_found tree_of c.args.children.now.items c.args.value c.in-Ok.at placed)

pub returns-in-Ok-clause-child : goal.returns-in-Ok-clause-child
returns-in-Ok-clause-child c =
    let placed = ap (λ cs. place_of c.args.value (values_of cs)) (sym c.deref.ensures.value) ∙ sym c.in-Ok.ensures.place in
    ap tree_of c.swap.ensures.y_after ∙ sym (child_found tree_of c.args.children.now.items c.args.value c.in-Ok.at c.index_mut.result.now placed c.index_mut.ensures.value)

pub returns-in-Ok-clause-children : goal.returns-in-Ok-clause-children
returns-in-Ok-clause-children c =
    let placed = ap (λ cs. place_of c.args.value (values_of cs)) (sym c.deref.ensures.value) ∙ sym c.in-Ok.ensures.place in
    change_found tree_of c.args.children.now.items c.args.value c.in-Ok.at (λ _. tree_of c.args.other.now) c.index_mut.result.now (c.index_mut.result.now.0, c.swap.new.x) placed c.index_mut.ensures.value refl (ap tree_of c.swap.ensures.x_after)

pub returns-in-Err-clause-has : goal.returns-in-Err-clause-has
returns-in-Err-clause-has c =
    let placed = ap (λ cs. place_of c.args.value (values_of cs)) (sym c.deref.ensures.value) ∙ sym c.in-Err.ensures.place in
    sym (has_missing tree_of c.args.children.now.items c.args.value c.in-Err.field-0 c.requires placed)
