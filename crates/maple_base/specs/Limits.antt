-- Limits that several crates speak of.
use Rattle.std.specs.Prelude.{ℕ}

-- the most items of a trace
abbrev pub most_items : ℕ
most_items = 262144

-- the most steps that an evaluation may take
abbrev pub most_budget : ℕ
most_budget = 65536
