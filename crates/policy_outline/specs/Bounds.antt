-- How great the numbers can be that are counted: no event adds more than one to any. It serves private contracts and proofs alone.
use Rattle.std.specs.Prelude.{ℕ, ◌+◌, ◌≤◌, List, [], ◌∷◌}
use Rattle.policy_outline.specs.Counts.{Count}
use Rattle.policy_outline.specs.Counting.{Counter}

abbrev pub total : (Count → ℕ) → List Count → ℕ
total g [] = 0
total g (c ∷ cs) = g c + total g cs

-- how many nodes begin with tokens
abbrev pub begun_in : List Count → ℕ
begun_in cs = total (λ c. c.begun) cs

-- and how many end with them
abbrev pub ended_in : List Count → ℕ
ended_in cs = total (λ c. c.ended) cs

-- the greatest number to which a machine can add one
abbrev pub most_counted : ℕ
most_counted = 18446744073709551614

-- no more than n are counted of anything
pub record Within (n : ℕ) (c : Counter) : Type 0 where
  pub begun : begun_in c.counts + c.current.begun ≤ n
  pub ended : ended_in c.counts + c.current.ended ≤ n
  pub parentheses : c.parentheses ≤ n
  pub tables : c.tables ≤ n
