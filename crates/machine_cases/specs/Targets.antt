-- Whether a list of rules is one for a switch with room for so many, as a test.
use Rattle.std.specs.Prelude.{ℕ, Bool, true, not, ◌&&◌, ◌==◌, nat_le, length, List, [], ◌∷◌}
use Rattle.std.specs.List.{list_all}
use Rattle.maple_base.specs.declared.decision.Rule.{Rule}
use Rattle.maple_base.specs.RuleLists.{Rules}
use Rattle.flow_table.specs.Effects.{has_at}
use Rattle.update_plan.specs.Batches.{rules_of}
use Rattle.update_plan.specs.Lookups.{is_barrier}

abbrev pub are_distinct : List Rule → Bool
are_distinct [] = true
are_distinct (r ∷ rs) = not (has_at r.of r.priority rs) && are_distinct rs

abbrev pub are_facts : List Rule → Bool
are_facts rules = list_all (λ r. not (is_barrier r)) rules

abbrev pub is_plain_barrier : Rule → Bool
is_plain_barrier r = is_barrier r && r.cookie == 0 && r.idle == 0

abbrev pub are_barriers : List Rule → Bool
are_barriers rules = list_all is_plain_barrier rules

abbrev pub is_target : ℕ → Rules → Bool
is_target capacity X = nat_le (length (rules_of X)) capacity && are_distinct (rules_of X) && are_facts X.facts && are_barriers X.barriers
