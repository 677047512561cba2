-- What a table has while the two batches are carried out, in whatever order, whichever of the changes are refused.
use Rattle.std.specs.Prelude.{◌≡◌, ◌⊎◌, ◌≤◌, ◌<◌, ◌+◌, ◌^◌, ℕ, false, length, List, [], ◌∷◌, ◌++◌, Contains}
use Rattle.std.specs.List.{AllPairs}
use Rattle.std.specs.List.Sorted.{IsPermutation}
use Rattle.maple_base.specs.declared.decision.Rule.{Rule}
use Rattle.maple_base.specs.declared.decision.TableMod.{TableMod}
use Rattle.maple_base.specs.declared.decision.TableMod.TheVariants.{Add}
use Rattle.maple_base.specs.RuleLists.{Rules}
use Rattle.maple_base.specs.Choice.{Differ}
use Rattle.flow_table.specs.Effects.{has_at, effect, after}
use Rattle.flow_table.specs.Shielding.{IsShieldedBy}
use Rattle.update_plan.specs.Batches.{rules_of, IsTarget, first_adds, first_deletes, second_adds, second_deletes, deletion, batch, first_batch, second_batch, IsSent, between, origin}

-- each of these changes stands in the batch; some may be left out, and some come twice
abbrev pub AreFrom : List TableMod → List TableMod → Type 0
AreFrom whole ms = (m : TableMod) → Contains ms m → Contains whole m

-- a table that is shielded by the list and has room
pub record IsSafe (capacity : ℕ) (X : Rules) (table : List Rule) : Type 0 where
  pub shielded : IsShieldedBy X table
  pub room : length table ≤ capacity

-- of the batches from A to B, where a switch with the rules A has room for them
pub record KeepShield (capacity : ℕ) (A B : Rules) : Type 0 where
  -- from A in any order, after any changes of the first batch: the table is shielded by A
  pub first : (table : List Rule) (ms : List TableMod) → IsPermutation (rules_of A) table → AreFrom (first_batch A B) ms → IsSafe capacity A (after ms table)
  -- after the whole first batch, each change once, in any order, and any changes of the second: by B
  pub second : (table : List Rule) (whole ms : List TableMod) → IsPermutation (rules_of A) table → IsPermutation (first_batch A B) whole → AreFrom (second_batch A B) ms → IsSafe capacity B (after ms (after whole table))
  -- after both whole batches it has just the rules of B
  pub ends : (table : List Rule) (whole rest : List TableMod) → IsPermutation (rules_of A) table → IsPermutation (first_batch A B) whole → IsPermutation (second_batch A B) rest → IsPermutation (rules_of B) (after rest (after whole table))

-- a batch and its barrier are fewer than 2^18 messages
pub record AreShort (A B : Rules) : Type 0 where
  pub first : length (first_batch A B) + 1 < 2 ^ 18
  pub second : length (second_batch A B) + 1 < 2 ^ 18

abbrev pub ShieldLaw : Type 0
ShieldLaw = (capacity : ℕ) (A B : Rules) → IsTarget capacity A → IsTarget capacity B → KeepShield capacity (origin capacity A B) B

abbrev pub LengthLaw : Type 0
LengthLaw = (capacity : ℕ) (A B : Rules) → IsTarget capacity A → IsTarget capacity B → capacity ≤ 65535 → AreShort (origin capacity A B) B

-- what is sent of a batch are its changes, each once
abbrev pub SentLaw : Type 0
SentLaw = (adds deletes : List Rule) (mods : List TableMod) → IsSent adds deletes mods → IsPermutation (batch adds deletes) mods

-- The same, change by change. A table during a batch that began at the rules `start`; these changes of it were carried out.
pub record IsDuring (start adds deletes : List Rule) (done : List TableMod) (table : List Rule) : Type 0 where
  -- no two rules agree in match and priority
  pub distinct : AllPairs Differ table
  -- each rule was there at the start, or the batch adds it
  pub came : (r : Rule) → Contains table r → Contains start r ⊎ Contains adds r
  -- a rule of the start stays, unless the batch adds or deletes at its match and priority
  pub kept : (r : Rule) → Contains start r → has_at r.of r.priority (adds ++ deletes) ≡ false → Contains table r
  -- what was added is there, and where a rule was deleted none is
  pub added : (r : Rule) → Contains adds r → Contains done (Add r) → Contains table r
  pub deleted : (r : Rule) → Contains deletes r → Contains done (deletion r) → has_at r.of r.priority table ≡ false

-- during the first batch from A to B, and during the second, which begins behind the whole first
abbrev pub InFirst : Rules → Rules → List TableMod → List Rule → Type 0
InFirst A B done table = IsDuring (rules_of A) (first_adds A B) (first_deletes A B) done table

abbrev pub InSecond : Rules → Rules → List TableMod → List Rule → Type 0
InSecond A B done table = IsDuring (between A B) (second_adds A B) (second_deletes A B) done table

pub record StepsKeep (capacity : ℕ) (A B : Rules) : Type 0 where
  -- it begins with the rules A, in any order
  pub first_begins : (table : List Rule) → IsPermutation (rules_of A) table → InFirst A B [] table
  -- and one more change of the batch keeps it, wherever the table puts its rules
  pub first_more : (done : List TableMod) (m : TableMod) (table new : List Rule) → Contains (first_batch A B) m → InFirst A B done table → IsPermutation (effect m table) new → InFirst A B (m ∷ done) new
  pub first_safe : (done : List TableMod) (table : List Rule) → InFirst A B done table → IsSafe capacity A table
  -- once all of the first batch was carried out the second begins
  pub second_begins : (done : List TableMod) (table : List Rule) → AreFrom done (first_batch A B) → InFirst A B done table → InSecond A B [] table
  pub second_more : (done : List TableMod) (m : TableMod) (table new : List Rule) → Contains (second_batch A B) m → InSecond A B done table → IsPermutation (effect m table) new → InSecond A B (m ∷ done) new
  pub second_safe : (done : List TableMod) (table : List Rule) → InSecond A B done table → IsSafe capacity B table
  -- once all of the second was the table has just the rules of B
  pub ends : (done : List TableMod) (table : List Rule) → AreFrom done (second_batch A B) → InSecond A B done table → IsPermutation (rules_of B) table

abbrev pub StepLaw : Type 0
StepLaw = (capacity : ℕ) (A B : Rules) → IsTarget capacity A → IsTarget capacity B → StepsKeep capacity (origin capacity A B) B
