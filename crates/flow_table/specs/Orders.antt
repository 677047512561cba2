-- The order in which a table keeps its rules: none stands above one before it.
use Rattle.std.specs.Prelude.{◌≡◌, ℕ, false, true, ◌≤◌, ◌<◌, ◌^◌, List, length}
use Rattle.std.specs.List.{All, AllPairs, slice_index_or}
use Rattle.maple_base.specs.declared.key.Match.{Match}
use Rattle.maple_base.specs.declared.decision.Rule.{Rule}
use Rattle.maple_base.specs.Choice.{Differ, stands_above}
use Rattle.flow_table.specs.Effects.{is_at}
use Rattle.flow_table.specs.Tables.{Entries}

abbrev pub IsNotAbove : Rule → Rule → Type 0
IsNotAbove r q = stands_above q r ≡ false

abbrev pub AreOrdered : List Rule → Type 0
AreOrdered rules = AllPairs IsNotAbove rules

-- what holds of the rules of every table
pub record IsKept (rules : List Rule) (capacity : ℕ) : Type 0 where
  pub few : capacity < 2 ^ 32
  pub room : length rules ≤ capacity
  pub distinct : AllPairs Differ rules
  pub ordered : AreOrdered rules

abbrev pub entries : List Rule → ℕ → Entries
entries rules capacity = record { rules = rules; capacity = capacity }

-- no rule has this match and this priority
abbrev pub NoneAt : Match → ℕ → List Rule → Type 0
NoneAt of priority rules = All (λ r. is_at of priority r ≡ false) rules

-- the rule at this place has this match and this priority
pub record StandsAt (of : Match) (priority : ℕ) (rules : List Rule) (place : ℕ) : Type 0 where
  pub within : place < length rules
  pub at : (d : Rule) → is_at of priority (slice_index_or rules place d) ≡ true

-- the rule stands above none before this place, and none from there on stands above it
pub record IsPlaceFor (r : Rule) (rules : List Rule) (place : ℕ) : Type 0 where
  pub within : place ≤ length rules
  pub before : (k : ℕ) (d : Rule) → k < place → stands_above r (slice_index_or rules k d) ≡ false
  pub behind : (k : ℕ) (d : Rule) → place ≤ k → k < length rules → stands_above (slice_index_or rules k d) r ≡ false
