use Rattle.std.proofs.Common.{◌≡◌, Some, drop, sym, ap, ◌∙◌, subst}
use Rattle.trace_tree.specs.TreeOf.{tree_of}
use Rattle.trace_tree.specs.Walks.{EndsIn}
use Rattle.trace_tree.proofs.Walks.{path_ends}
use Rattle.trace_tree.proofs.grow.chain.Goals as goal

pub unreachable-requires : goal.unreachable-requires
unreachable-requires c =
    let ends = path_ends (drop c.loop-left.left c.args.items.now) c.args.leaf in
    let there = subst (EndsIn c.args.leaf) (sym (ap tree_of c.in-Err.ensures.err ∙ c.loop-left.invariant.path)) ends in
    c.in_default.not-Some c.args.leaf (c.leaf_at_end.ensures c.args.leaf there)

pub returns-in-Err-clause-err : goal.returns-in-Err-clause-err
returns-in-Err-clause-err c =
    let ends = path_ends (drop c.loop-left.left c.args.items.now) c.args.leaf in
    let there = subst (EndsIn c.args.leaf) (sym (ap tree_of c.in-Err.ensures.err ∙ c.loop-left.invariant.path)) ends in
    let found : c.leaf_at_end.result ≡ Some c.args.leaf = c.leaf_at_end.ensures c.args.leaf there in
    cc (found, c.in-Some.is)
