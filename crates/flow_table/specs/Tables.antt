-- A flow table, as contracts see it.
use Rattle.std.specs.Prelude.{◌≡◌, ℕ, List}
use Rattle.std.specs.List.Sorted.{IsPermutation}
use Rattle.maple_base.specs.declared.decision.Rule.{Rule}
use Rattle.maple_base.specs.declared.decision.TableMod.{TableMod}
use Rattle.flow_table.specs.declared.applied.Applied.{Applied}
use Rattle.flow_table.specs.declared.applied.Applied.TheVariants.{Full, NoMemory}
use Rattle.flow_table.specs.Effects.{effect}

-- the rules of a table, in whatever order, and how many it has room for
pub record Entries : Type 0 where
  pub rules : List Rule
  pub capacity : ℕ

-- a change that was refused leaves the table as it was; any other has its effect, in whatever order
abbrev pub Leaves : Applied → TableMod → Entries → Entries → Type 0
Leaves Full change old new = new ≡ old
Leaves NoMemory change old new = new ≡ old
Leaves answer change old new = IsPermutation (effect change old.rules) new.rules
