-- Counts of faults and refusals, which never fall and stand still at 2 ^ 64 - 1.
use Rattle.std.specs.Prelude.{ℕ, ◌+◌, ◌-◌, ◌^◌, ◌≤◌, min}

-- one more, where the count is not at its end
abbrev pub next_count : ℕ → ℕ
next_count n = min (n + 1) (2 ^ 64 - 1)

-- the count has risen, or it is at its end
abbrev pub HasRisen : ℕ → ℕ → Type 0
HasRisen old new = next_count old ≤ new
