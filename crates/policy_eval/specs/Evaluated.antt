-- The answers of a key and an environment.
use Rattle.std.specs.Prelude.{◌≡◌}
use Rattle.maple_base.specs.declared.key.Key.{Key}
use Rattle.maple_base.specs.declared.cells.Cell.{Cell}
use Rattle.maple_base.specs.declared.cells.Value.{Value}
use Rattle.policy_meaning.specs.Leads.{Answer}
use Rattle.policy_meaning.specs.Notes.{Truly}

-- a true answer, by which neither the key nor the environment changes
pub record Evaluates {E : Type 0} (k : Key) (e : E) (l : Key) (f : E) (has : E → Cell → Value) (a : Answer) : Type 0 where
  pub key : k ≡ l
  pub env : e ≡ f
  pub truly : Truly k (has e) a
