use Rattle.std.proofs.Common.{ap, ◌∙◌, arith}
use Rattle.trace_tree.specs.TreeOf.{tree_of}
use Rattle.trace_tree.specs.Clears.{held_of}
use Rattle.trace_tree.proofs.Clears.{load_push, held_push}
use Rattle.trace_tree.proofs.Rolls.{tree_of-Values}
use Rattle.trace_tree.proofs.clear.next.Goals as goal

pub returns-in-Values : goal.returns-in-Values
returns-in-Values c =
    let before = ap held_of (ap tree_of c.in-Values.is ∙ tree_of-Values c.in-Values.field c.in-Values.children) in
    let all = held_push tree_of _ _ _ c.in_ok-value-in-Values.ensures.items in
    let front = load_push tree_of _ _ _ c.in-Some.ensures.items in
    let after = ap held_of (tree_of-Values c.in-Values.field c.push_reserved.new.self) in
    let pushed = held_push tree_of _ _ _ c.push_reserved.ensures.items in
    omega (arith, before, all, front, after, pushed)
