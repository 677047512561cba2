-- Which traces have in each recorded cell the value that an environment has there.
use Rattle.std.specs.Prelude.{Bool, true, false, ◌&&◌, ◌==◌, List, [], ◌∷◌}
use Rattle.maple_base.specs.declared.cells.Cell.{Cell}
use Rattle.maple_base.specs.declared.cells.Value.{Value}
use Rattle.maple_base.specs.declared.cells.Value.TheVariants.{Nothing, At, Number, Flag}
use Rattle.maple_base.specs.Questions.{same_bool}
use Rattle.trace_tree.specs.declared.node.Leaf.{Leaf}

abbrev pub same_value : Value → Value → Bool
same_value Nothing Nothing = true
same_value (At p) (At q) = p.switch == q.switch && p.port == q.port
same_value (Number m) (Number n) = m == n
same_value (Flag a) (Flag b) = same_bool a b
same_value v w = false

-- each recorded cell has its recorded value
abbrev pub are_current : (Cell → Value) → List (Cell × Value) → Bool
are_current env [] = true
are_current env (c ∷ cs) = same_value (env c.0) c.1 && are_current env cs

abbrev pub is_current : (Cell → Value) → Leaf → Bool
is_current env l = are_current env l.cells
