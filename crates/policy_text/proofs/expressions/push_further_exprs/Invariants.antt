use Rattle.std.proofs.Common.{◌≡◌, ◌++◌, drop}
use Rattle.policy_lang.specs.TreeOf.{terms_of}
use Rattle.policy_text.specs.Printed.{more_text}
use Rattle.policy_text.proofs.expressions.push_further_exprs.Given as goal

-- what is written of the rest comes behind what was written
abbrev pub invariant-loop-expr : goal.invariant-loop-expr
invariant-loop-expr l = l.text.items ++ more_text (terms_of (drop l.expr-index l.exprs)) ≡ l.fn.text.items ++ more_text (terms_of l.exprs)
