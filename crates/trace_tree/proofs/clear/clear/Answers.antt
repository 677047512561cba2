use Rattle.std.proofs.Common.{ap, ◌∙◌, arith}
use Rattle.std.specs.Box.{with_value}
use Rattle.trace_tree.specs.TreeOf.{tree_of}
use Rattle.trace_tree.specs.Clears.{load_of, held_of}
use Rattle.trace_tree.proofs.Clears.{load_push, held_push}
use Rattle.trace_tree.proofs.Rolls.{tree_of-Values, tree_of-Test}
use Rattle.trace_tree.proofs.clear.clear.Goals as goal

pub loop-node-smaller-in-Some-pop : goal.loop-node-smaller-in-Some-pop
loop-node-smaller-in-Some-pop c =
    let before = ap load_of (ap tree_of c.in-Values.is ∙ tree_of-Values c.in-Values.field c.in-Values.children) in
    let all = load_push tree_of _ _ _ c.in-Some-pop.ensures.items in
    let after = ap held_of (tree_of-Values c.in-Values.field c.push_reserved.new.self) in
    let pushed = held_push tree_of _ _ _ c.push_reserved.ensures.items in
    omega (arith, before, all, after, pushed)

pub loop-node-smaller : goal.loop-node-smaller
loop-node-smaller c =
    let before = ap load_of (ap tree_of c.in-Test.is ∙ tree_of-Test c.in-Test.field c.in-Test.value c.in-Test.no c.in-Test.yes) in
    let after = ap held_of (tree_of-Test c.in-Test.field c.in-Test.value (with_value c.in-Test.no c.replace-node.new.dest) c.in-Test.yes) in
    let down = ap (λ n. load_of (tree_of n)) c.replace-node.ensures.value in
    let side = ap (λ n. load_of (tree_of n)) c.deref_mut.ensures.value in
    let up = ap (λ n. held_of (tree_of n)) c.replace-node.ensures.after in
    omega (arith, before, after, down, side, up)
