-- What clauses see of a source and a sink over memory.
use Rattle.std.specs.Prelude.{ℕ, List}
use Rattle.maple_io.specs.declared.answer.Answer.{Answer}

-- what a source in memory has left, which of its reads fail, how many were made and failed, and what it answered to them
pub record Feed : Type 0 where
  pub left : List ℕ
  pub fails : List ℕ
  pub calls : ℕ
  pub failed : ℕ
  pub answers : List Answer

-- what a sink in memory took, which of its writes fail, and how many were made and failed
pub record Store : Type 0 where
  pub taken : List ℕ
  pub fails : List ℕ
  pub calls : ℕ
  pub failed : ℕ
