use Rattle.std.proofs.Common.{rules}
use Rattle.std.proofs.lemmas.List.Sorted.{answers_always}
use Rattle.trace_tree.specs.declared.node.Node.TheVariants.{Empty}
use Rattle.trace_tree.specs.TreeOf.{tree_of}
use Rattle.trace_tree.proofs.Places.{searched}
use Rattle.trace_tree.proofs.Children.{ordered_rise}
use Rattle.net_cases.proofs.admission.place.Goals as goal

-- the closure gives a child's value
pub returns-clause-place : goal.returns-clause-place
returns-clause-place c =
    let facts = c.binary_search_by_key.ensures in
    let by_value = facts.position (λ child. child.0) (answers_always _ _ _ (λ f a r g called. search rules)) in
    searched c.args.children.now c.args.value (0, Empty) _ (ordered_rise tree_of c.args.children.now c.requires) facts.bound by_value
