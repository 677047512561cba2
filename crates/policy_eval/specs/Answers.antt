-- The limits of a budget.
use Rattle.std.specs.Prelude.{ℕ, ◌≤◌}
use Rattle.maple_base.specs.Limits.{most_budget}

pub record IsBudget (budget : ℕ) : Type 0 where
  pub some : 1 ≤ budget
  pub few : budget ≤ most_budget
