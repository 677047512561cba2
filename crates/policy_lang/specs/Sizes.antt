-- How many nodes there are.
use Rattle.std.specs.Prelude.{ℕ, ◌+◌, List, [], ◌∷◌, Option, Some, None}
use Rattle.policy_lang.specs.Tree.{Term, Single, Call, Is, Not, Pair, Ask, Binds, Holds, Act, Acts, Drop, Flood, Out, Route, Let, Assign, If, IfElse, While, Done, Then}

abbrev pub size_of : Term → ℕ
size_of (Single a) = 1
size_of (Call c l r) = 1 + size_of l + size_of r
size_of (Is f e) = 1 + size_of e
size_of (Not e) = 1 + size_of e
size_of (Pair o l r) = 1 + size_of l + size_of r

abbrev pub sizes_of : List Term → ℕ
sizes_of [] = 0
sizes_of (e ∷ es) = size_of e + sizes_of es

abbrev pub ask_size : Ask → ℕ
ask_size (Binds s e x) = 1 + size_of e
ask_size (Holds e) = size_of e

abbrev mutual
  pub act_size : Act → ℕ
  act_size Drop = 1
  act_size Flood = 1
  act_size (Out es) = 1 + sizes_of es
  act_size (Route e) = 1 + size_of e
  act_size (Let x e) = 1 + size_of e
  act_size (Assign x e) = 1 + size_of e
  act_size (If q first) = 1 + ask_size q + acts_size first
  act_size (IfElse q first second) = 1 + ask_size q + acts_size first + acts_size second
  act_size (While e body) = 1 + size_of e + acts_size body

  pub acts_size : Acts → ℕ
  acts_size Done = 0
  acts_size (Then s rest) = act_size s + acts_size rest

abbrev pub else_size : Option Acts → ℕ
else_size None = 0
else_size (Some b) = acts_size b
