use Rattle.std.proofs.Common.{◌-◌, ◌∷◌, length, take, drop, sym, ap, ◌∙◌}
use Rattle.maple_base.specs.declared.items.Item.TheVariants.{Read}
use Rattle.trace_tree.specs.Shape.{Reads}
use Rattle.trace_tree.specs.TreeOf.{tree_of}
use Rattle.trace_tree.specs.Growth.{insert}
use Rattle.trace_tree.proofs.Puts.{OnOk_map, item_first}
use Rattle.trace_tree.proofs.Rolls.{tree_of-Values}
use Rattle.trace_tree.proofs.grow.grow.Goals as goal

pub returns-in-Read-clause-ok : goal.returns-in-Read-clause-ok
returns-in-Read-clause-ok c =
    let items = c.args.items.now in
    let first = item_first items _ _ c.in-len1-up.len_at_least c.in-Read.is in
    let rest = take (length items - 1) (drop 1 items) in
    let rolled = sym (tree_of-Values c.in-Values.field c.in-Values.children) ∙ ap tree_of c.in-Values.ensures.value in
    OnOk_map _ _ c.add_child-done.result
    (λ h. tree_of-Values c.in-Values.field c.add_child-done.new.children ∙ ap (Reads c.in-Values.field) h
    ∙ ap (insert (Read c.in-Read.field c.in-Read.value ∷ rest) c.args.leaf) rolled
    ∙ ap (λ is. insert is c.args.leaf (tree_of c.args.node.now)) (sym first))
    c.add_child-done.ensures.ok
