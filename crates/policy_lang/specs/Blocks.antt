-- The expressions of an `out`.
use Rattle.std.specs.Prelude.{◌≤◌, List, length}
use Rattle.policy_lang.specs.declared.Expr.{Expr}

-- an `out` has 1 to 16 expressions
pub record IsOutList (es : List Expr) : Type 0 where
  pub some : 1 ≤ length es
  pub few : length es ≤ 16
