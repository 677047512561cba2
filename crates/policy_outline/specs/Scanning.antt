-- How the nodes and the limits of a file are found from the counts of its tokens. It serves private contracts and proofs alone.
use Rattle.std.specs.Prelude.{ℕ, zero, suc, ◌+◌, ◌-◌, Bool, false, ◌&&◌, ◌||◌, ◌==◌, nat_lt, if◌then◌else◌, List, [], ◌∷◌, ◌++◌, Option, Some, None}
use Rattle.maple_base.specs.PolicyLimits.{most_tables, most_nodes, deepest, most_parentheses}
use Rattle.maple_base.specs.declared.policy_fault.PolicyFault.{PolicyFault}
use Rattle.maple_base.specs.declared.policy_fault.PolicyFault.TheVariants.{Nesting, Nodes, TooLong}
use Rattle.policy_lang.specs.declared.nodes.Node.{Node}
use Rattle.policy_lang.specs.Nodes.{node}
use Rattle.policy_outline.specs.Counts.{Count}
use Rattle.policy_outline.specs.FileNodes.{Parenthesis}

-- ---- nodes

-- so many nodes that begin with a token, behind so many that began and that ended: parentheses ahead of it are those of the outermost
abbrev pub nodes_at : ℕ → ℕ → ℕ → ℕ → ℕ → ℕ → List Node
nodes_at w i named begun ended zero = []
nodes_at w i named begun ended (suc n) = node w i named (begun + 1 - ended) ∷ nodes_at i i named (begun + 1) ended n

-- behind a token, where the parentheses begin that belong to the outermost node of the next: a node that begins with a parenthesis leaves to its part that one alone
abbrev pub whole_behind : ℕ → ℕ → Count → ℕ
whole_behind w i c = if nat_lt 0 c.parentheses then (if nat_lt 0 c.begun then i else w) else i + 1

-- the nodes of tokens from a number on, behind so many nodes that began and that ended
abbrev pub scanned : ℕ → ℕ → ℕ → ℕ → List Count → List Node
scanned w i begun ended [] = []
scanned w i begun ended (c ∷ cs) = nodes_at w i (i + c.name) begun ended c.begun ++ scanned (whole_behind w i c) (i + 1) (begun + c.begun) (ended + c.ended) cs

-- ---- parentheses

abbrev pub parenthesis_at : ℕ → ℕ → List Parenthesis
parenthesis_at i n = if nat_lt 0 n then record { token = i; depth = n } ∷ [] else []

-- the parentheses of tokens from a number on
abbrev pub parenthesized : ℕ → List Count → List Parenthesis
parenthesized i [] = []
parenthesized i (c ∷ cs) = parenthesis_at i c.parentheses ++ parenthesized (i + 1) cs

-- ---- limits

-- a limit is passed at a token, behind so many nodes that began and that ended
abbrev pub passes : PolicyFault → ℕ → ℕ → Count → Bool
passes Nesting begun ended c = (nat_lt 0 c.begun && nat_lt deepest (begun + c.begun - ended)) || nat_lt most_parentheses c.parentheses
passes Nodes begun ended c = nat_lt 0 c.begun && nat_lt most_nodes (begun + c.begun)
passes TooLong begun ended c = c.tables == most_tables + 1
passes kind begun ended c = false

-- it is passed at the ith of these tokens
abbrev pub passes_in : PolicyFault → ℕ → ℕ → ℕ → List Count → Bool
passes_in kind i begun ended [] = false
passes_in kind zero begun ended (c ∷ cs) = passes kind begun ended c
passes_in kind (suc i) begun ended (c ∷ cs) = passes_in kind i (begun + c.begun) (ended + c.ended) cs

-- the limit of least number that is passed at a token
abbrev pub limit_at : ℕ → ℕ → Count → Option PolicyFault
limit_at begun ended c =
    if passes Nesting begun ended c then Some Nesting else (if passes Nodes begun ended c then Some Nodes else (if passes TooLong begun ended c then Some TooLong else None))

-- a token, by the number of those ahead of it, and the limit that is passed there
abbrev pub Passed : Type 0
Passed = Option (ℕ × PolicyFault)

abbrev pub passed_or : ℕ → Option PolicyFault → Passed → Passed
passed_or i (Some kind) rest = Some (i, kind)
passed_or i None rest = rest

-- the first limit that is passed, from the ith token on
abbrev pub first_passed : ℕ → ℕ → ℕ → List Count → Passed
first_passed i begun ended [] = None
first_passed i begun ended (c ∷ cs) = passed_or i (limit_at begun ended c) (first_passed (suc i) (begun + c.begun) (ended + c.ended) cs)
