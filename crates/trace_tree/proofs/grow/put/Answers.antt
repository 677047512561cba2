use Rattle.std.proofs.Common.{◌≡◌, suc, ◌-◌, ◌∙◌, sym, subst, arith, add-one}
use Rattle.std.proofs.lemmas.Bool.{OnTrue_at}
use Rattle.trace_tree.specs.TreeOf.{tree_of}
use Rattle.trace_tree.proofs.Walks.{joined, IsUp, down_step, up_step}
use Rattle.trace_tree.proofs.grow.put.Goals as goal

pub loop-depth-preserved : goal.loop-depth-preserved
loop-depth-preserved c =
    let leads = sym c.if-turn.ensures.leads in
    let step = down_step c.args.items.now c.args.leaf (tree_of c.args.node.now) c.loop-depth.depth (tree_of c.loop-depth.above) (tree_of c.loop-depth.node) c.loop-depth-test.true leads c.loop-depth.invariant in
    rw (add-one, c.if-turn.ensures.other, c.if-turn.ensures.node) step

pub loop-depth-2-preserved : goal.loop-depth-2-preserved
loop-depth-2-preserved c =
    let items = c.args.items.now in
    let whole = joined items c.loop-depth.depth (tree_of c.loop-depth-test.above) (tree_of c.grow-done.new.node) in
    let up = tree_of c.loop-depth-2.above in
    let here = tree_of c.loop-depth-2.node in
    let more : c.loop-depth-2.depth ≡ suc (c.loop-depth-2.depth - 1) = omega arith in
    let was = subst (λ n. IsUp items whole n up here) more c.loop-depth-2.invariant in
    let turned = c.turn-in-loop-depth-2.ensures.leads ∙ was.ladder.0 in
    rw (OnTrue_at turned c.turn-in-loop-depth-2.ensures.node, OnTrue_at turned c.turn-in-loop-depth-2.ensures.other) (up_step items whole (c.loop-depth-2.depth - 1) up here was)
