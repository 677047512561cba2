-- The nodes of a policy in the order of its printed form, and the limits that they pass.
--
-- Each statement, each head that binds a name and each expression is a node. In the printed form an expression stands in parentheses exactly where its place is of a higher level than it is. A token is told by the number of tokens ahead of it.
use Rattle.std.specs.List.{list_all}
use Rattle.std.specs.Prelude.{◌≡◌, ℕ, Bool, true, ◌+◌, ◌≤◌, nat_lt, nat_le, ◌==◌, if◌then◌else◌, List, [], ◌∷◌, ◌++◌, length, Option, Some, None}
use Rattle.maple_base.specs.PolicyLimits.{most_nodes, deepest}
use Rattle.maple_base.specs.Operators.{level_of as operator_level, left_level, right_level}
use Rattle.maple_base.specs.declared.policy_fault.PolicyFault.TheVariants.{Nesting, Nodes}
use Rattle.policy_lang.specs.declared.nodes.Node.{Node}
use Rattle.policy_lang.specs.declared.nodes.Limit.{Limit}
use Rattle.policy_lang.specs.declared.nodes.WalkStop.{WalkStop}
use Rattle.policy_lang.specs.declared.nodes.WalkStop.TheVariants as stop
use Rattle.policy_lang.specs.Tree.{Term, Single, Call, Is, Not, Pair, Ask, Binds, Holds, Act, Acts, Drop, Flood, Out, Route, Let, Assign, If, IfElse, While, Done, Then}

-- ---- expressions

-- the level of an expression: that of its operator, 2 of a negation, 3 of a test of a field, and 5 of all others
abbrev pub level_of : Term → ℕ
level_of (Single a) = 5
level_of (Call c l r) = 5
level_of (Is f e) = 3
level_of (Not e) = 2
level_of (Pair o l r) = operator_level o

-- how many parentheses open ahead of an expression at a place of a level: one or none
abbrev pub opens : ℕ → Term → ℕ
opens least e = if nat_lt (level_of e) least then 1 else 0

-- how many tokens a part has with its parentheses, where it has so many without
abbrev pub enclosed : ℕ → Term → ℕ → ℕ
enclosed least e n = opens least e + n + opens least e

-- how many tokens an expression has
abbrev pub length_of : Term → ℕ
length_of (Single a) = 1
length_of (Call c l r) = 4 + length_of l + length_of r
length_of (Is f e) = 2 + enclosed 4 e (length_of e)
length_of (Not e) = 1 + enclosed 2 e (length_of e)
length_of (Pair o l r) = enclosed (left_level o) l (length_of l) + 1 + enclosed (right_level o) r (length_of r)

-- the same of a part at a place of a level
abbrev pub part_length : ℕ → Term → ℕ
part_length least e = enclosed least e (length_of e)

-- a node: its first token without the parentheses round it, its first token with them, the token of the name that it declares or binds, if any, and how deep it is
abbrev pub node : ℕ → ℕ → ℕ → ℕ → Node
node whole first named depth = record { first = first; whole = whole; named = named; depth = depth }

-- the nodes of an expression at this depth that begins with a token, and with another where its parentheses count; of two that begin with one token the outer one comes first
abbrev pub term_nodes : Term → ℕ → ℕ → ℕ → List Node
term_nodes (Single a) w i d = node w i i d ∷ []
term_nodes (Call c l r) w i d = node w i i d ∷ (term_nodes l (i + 2) (i + 2) (d + 1) ++ term_nodes r (i + 2 + length_of l + 1) (i + 2 + length_of l + 1) (d + 1))
term_nodes (Is f e) w i d = node w i i d ∷ term_nodes e (i + 2) (i + 2 + opens 4 e) (d + 1)
term_nodes (Not e) w i d = node w i i d ∷ term_nodes e (i + 1) (i + 1 + opens 2 e) (d + 1)
term_nodes (Pair o l r) w i d =
    node w i i d ∷ (term_nodes l i (i + opens (left_level o) l) (d + 1)
    ++ term_nodes r (i + part_length (left_level o) l + 1) (i + part_length (left_level o) l + 1 + opens (right_level o) r) (d + 1))

-- an expression that begins with a token and has no parentheses round it
abbrev pub nodes_from : ℕ → Term → ℕ → List Node
nodes_from i e d = term_nodes e i i d

-- ---- statements

-- expressions with a token behind each
abbrev pub lengths_of : List Term → ℕ
lengths_of [] = 0
lengths_of (e ∷ es) = length_of e + 1 + lengths_of es

abbrev pub terms_nodes : List Term → ℕ → ℕ → List Node
terms_nodes [] i d = []
terms_nodes (e ∷ es) i d = nodes_from i e d ++ terms_nodes es (i + length_of e + 1) d

-- `host(e) as x`, `hop(e) as x` and `t[e] as x` have as many tokens
abbrev pub ask_length : Ask → ℕ
ask_length (Binds s e x) = 5 + length_of e
ask_length (Holds e) = length_of e

abbrev pub ask_nodes : Ask → ℕ → ℕ → List Node
ask_nodes (Binds s e x) i d = node i i (i + 4 + length_of e) d ∷ nodes_from (i + 2) e (d + 1)
ask_nodes (Holds e) i d = nodes_from i e d

abbrev mutual
  pub act_length : Act → ℕ
  act_length Drop = 2
  act_length Flood = 2
  act_length (Out es) = 1 + lengths_of es
  act_length (Route e) = 2 + length_of e
  act_length (Let x e) = 4 + length_of e
  act_length (Assign x e) = 3 + length_of e
  act_length (If q first) = 3 + ask_length q + acts_length first
  act_length (IfElse q first second) = 6 + ask_length q + acts_length first + acts_length second
  act_length (While e body) = 3 + length_of e + acts_length body

  pub acts_length : Acts → ℕ
  acts_length Done = 0
  acts_length (Then s rest) = act_length s + acts_length rest

-- the name of a statement is its second token, as in a `let`
abbrev mutual
  pub act_nodes : Act → ℕ → ℕ → List Node
  act_nodes Drop i d = node i i (i + 1) d ∷ []
  act_nodes Flood i d = node i i (i + 1) d ∷ []
  act_nodes (Out es) i d = node i i (i + 1) d ∷ terms_nodes es (i + 1) (d + 1)
  act_nodes (Route e) i d = node i i (i + 1) d ∷ nodes_from (i + 1) e (d + 1)
  act_nodes (Let x e) i d = node i i (i + 1) d ∷ nodes_from (i + 3) e (d + 1)
  act_nodes (Assign x e) i d = node i i (i + 1) d ∷ nodes_from (i + 2) e (d + 1)
  act_nodes (If q first) i d = node i i (i + 1) d ∷ (ask_nodes q (i + 1) (d + 1) ++ acts_nodes first (i + 1 + ask_length q + 1) (d + 1))
  act_nodes (IfElse q first second) i d =
      node i i (i + 1) d ∷ (ask_nodes q (i + 1) (d + 1) ++ (acts_nodes first (i + 1 + ask_length q + 1) (d + 1)
      ++ acts_nodes second (i + 1 + ask_length q + 1 + acts_length first + 3) (d + 1)))
  act_nodes (While e body) i d = node i i (i + 1) d ∷ (nodes_from (i + 1) e (d + 1) ++ acts_nodes body (i + 1 + length_of e + 1) (d + 1))

  pub acts_nodes : Acts → ℕ → ℕ → List Node
  acts_nodes Done i d = []
  acts_nodes (Then s rest) i d = act_nodes s i d ++ acts_nodes rest (i + act_length s) d

-- the nodes of a policy's statements; tokens are counted from the brace ahead of them on
abbrev pub nodes_of : Acts → List Node
nodes_of body = acts_nodes body 1 1

-- ---- limits

-- no node is more than 32 deep
abbrev pub are_shallow : List Node → Bool
are_shallow nodes = list_all (λ x. nat_le x.depth deepest) nodes

abbrev pub nesting : ℕ → Option Limit
nesting n = Some (record { kind = Nesting; node = n })

abbrev pub too_many : Option Limit
too_many = Some (record { kind = Nodes; node = most_nodes + 1 })

-- the 4,097th node is one too many, unless it or one behind it that begins with the same token, each with its number, is more than 32 deep
abbrev pub last_at : ℕ → ℕ → List Node → Option Limit
last_at token n [] = too_many
last_at token n (x ∷ xs) = if x.first == token then (if nat_lt deepest x.depth then nesting n else last_at token (n + 1) xs) else too_many

abbrev pub last_of : ℕ → List Node → Option Limit
last_of n [] = None
last_of n (x ∷ xs) = last_at x.first n (x ∷ xs)

-- the first limit that nodes pass, the first of which has this number: the first node that is more than 32 deep, or the 4,097th. At one token a node that is too deep decides
abbrev pub limit_from : ℕ → List Node → Option Limit
limit_from n [] = None
limit_from n (x ∷ xs) = if n == most_nodes + 1 then last_of n (x ∷ xs) else (if nat_lt deepest x.depth then nesting n else limit_from (n + 1) xs)

abbrev pub limit_of : List Node → Option Limit
limit_of = limit_from 1

-- nodes that pass no limit
pub record AreFree (nodes : List Node) : Type 0 where
  pub shallow : are_shallow nodes ≡ true
  pub few : length nodes ≤ most_nodes

-- a walk stops at the first limit of nodes, or for want of memory
abbrev pub IsStopOf : WalkStop → List Node → Type 0
IsStopOf (stop.Limit l) nodes = limit_of nodes ≡ Some l
IsStopOf stop.NoMemory nodes = Unit {0}
