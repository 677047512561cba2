-- What is told of a packet that waits for an answer.
use Rattle.std.specs.Prelude.{ℕ}
use Rattle.maple_base.specs.declared.key.Key.{Key}

-- its number, the datapath id of the switch that it came to, its key
pub record Waiting : Type 0 where
  pub job : ℕ
  pub switch : ℕ
  pub key : Key
