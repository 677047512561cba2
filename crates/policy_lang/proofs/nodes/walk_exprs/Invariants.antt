use Rattle.std.proofs.Common.{drop}
use Rattle.policy_lang.proofs.NodeLoops.{Left, exprs}
use Rattle.policy_lang.proofs.nodes.walk_exprs.Given as goal

abbrev pub invariant-loop-expr : goal.invariant-loop-expr
invariant-loop-expr l = Left (exprs l.depth) l.exprs l.first l.initial.out.items (drop l.expr-index l.exprs) l.out.items l.next
