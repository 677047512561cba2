-- How closely the operators of policies bind. An expression stands at a level: 0 is a chain of `or`, 1 of `and`, 2 a negation, 3 a comparison or a test of a field, 4 a chain of `+` and `-`, 5 a single thing or parentheses.
use Rattle.std.specs.Prelude.{ℕ}
use Rattle.maple_base.specs.declared.operator.Operator.{Operator}
use Rattle.maple_base.specs.declared.operator.Operator.TheVariants.{Or, And, Equal, NotEqual, Less, LessEqual, Add, Sub}

-- what an operator makes is of this level
abbrev pub level_of : Operator → ℕ
level_of Or = 0
level_of And = 1
level_of Equal = 3
level_of NotEqual = 3
level_of Less = 3
level_of LessEqual = 3
level_of Add = 4
level_of Sub = 4

-- its left part is of at least this level: a chain groups to the left, and comparisons make no chain
abbrev pub left_level : Operator → ℕ
left_level Or = 0
left_level And = 1
left_level Equal = 4
left_level NotEqual = 4
left_level Less = 4
left_level LessEqual = 4
left_level Add = 4
left_level Sub = 4

-- its right part is of at least this level
abbrev pub right_level : Operator → ℕ
right_level Or = 1
right_level And = 2
right_level Equal = 4
right_level NotEqual = 4
right_level Less = 4
right_level LessEqual = 4
right_level Add = 5
right_level Sub = 5
