-- The rules of a tree, as two lists.
use Rattle.std.specs.Prelude.{List}
use Rattle.maple_base.specs.declared.decision.Rule.{Rule}

pub record Rules : Type 0 where
  pub facts : List Rule
  pub barriers : List Rule
