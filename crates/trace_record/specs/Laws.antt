-- What holds of two runs.
use Rattle.std.specs.Prelude.{◌≡◌, false}
use Rattle.maple_base.specs.declared.cells.Cell.{Cell}
use Rattle.maple_base.specs.declared.cells.Value.{Value}
use Rattle.maple_base.specs.Questions.{meets, clash}
use Rattle.policy_meaning.specs.Cells.{Gives}
use Rattle.trace_record.specs.Runs.{Recorded, IsRun}

-- two runs of one policy, budget and switch
pub record AreAlike (a b : Recorded) : Type 0 where
  pub policy : a.policy ≡ b.policy
  pub budget : a.budget ≡ b.budget
  pub switch : a.switch ≡ b.switch

-- their traces don't clash, whichever comes first
pub record AreFree (a b : Recorded) : Type 0 where
  pub before : clash a.items b.items ≡ false
  pub behind : clash b.items a.items ≡ false

-- two such runs whose cells have their values in one environment don't clash, where the key of one doesn't meet the other's items
abbrev pub NeverClash : Type 0
NeverClash =
    (a b : Recorded) (env : Cell → Value) → IsRun a → IsRun b → AreAlike a b → Gives env a.cells → Gives env b.cells → meets b.key a.items ≡ false → AreFree a b
