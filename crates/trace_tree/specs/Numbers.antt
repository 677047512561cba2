-- Traces that their numbers tell apart.
use Rattle.std.specs.Prelude.{◌≢◌, ℕ, List, All, AllPairs}
use Rattle.trace_tree.specs.declared.node.Trace.{Trace}

-- no two of these have one number
abbrev pub HaveOwnNumbers : List Trace → Type 0
HaveOwnNumbers = AllPairs (λ (x : Trace) (y : Trace). x.number ≢ y.number)

-- none of these has the number
abbrev pub IsNewNumber : ℕ → List Trace → Type 0
IsNewNumber n = All (λ (x : Trace). x.number ≢ n)
