-- The parts that stand round an operator.
use Rattle.std.specs.Prelude.{ℕ, List}
use Rattle.maple_base.specs.declared.operator.Operator.{Operator}
use Rattle.policy_lang.specs.Tree.{Term}
use Rattle.policy_lang.specs.Nodes.{level_of}
use Rattle.policy_text.specs.Printed.{in_place, expr_text, joined}

-- a part where one of at least this level needs no parentheses
abbrev pub part_text : ℕ → Term → List ℕ
part_text least e = in_place least (level_of e) (expr_text e)

abbrev pub operation_text : Operator → Term → Term → List ℕ
operation_text o l r = joined o (level_of l) (expr_text l) (level_of r) (expr_text r)
