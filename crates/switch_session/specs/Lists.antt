-- The lists of rules of an update.
use Rattle.maple_base.specs.RuleLists.{Rules}

-- the lists from and to which an update leads
pub record Lists : Type 0 where
  pub from : Rules
  pub to : Rules
