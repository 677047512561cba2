-- Tables in which the barriers of a list of rules stand, beside facts of that list alone.
use Rattle.std.specs.Prelude.{◌≡◌, ◌⊎◌, List, [], ◌∷◌, Contains}
use Rattle.maple_base.specs.Ports.{controller_port}
use Rattle.maple_base.specs.declared.decision.Rule.{Rule}
use Rattle.maple_base.specs.RuleLists.{Rules}

-- a rule whose one action sends to the controller (OpenFlow Switch Specification 1.0.0, 5.2.1, OFPP_CONTROLLER)
abbrev pub IsBarrier : Rule → Type 0
IsBarrier r = r.actions ≡ controller_port ∷ []

-- a table of all barriers of the list, further barriers, and of facts only the list's
pub record IsShieldedBy (list : Rules) (table : List Rule) : Type 0 where
  pub barriers : (b : Rule) → Contains list.barriers b → Contains table b
  pub rest : (r : Rule) → Contains table r → IsBarrier r ⊎ Contains list.facts r
