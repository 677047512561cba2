-- How the rules of a sorted copy are told apart, and what is read from it.
use Rattle.std.specs.Prelude.{ℕ, ◌+◌, Bool, ◌&&◌, nat_eq, List, [], ◌∷◌, Option, Some, None}
use Rattle.std.specs.List.{AllPairs, list_any}
use Rattle.std.specs.List.Sorted.{IsSortedByKey}
use Rattle.std.specs.Ordering.{nat_cmp}
use Rattle.std.specs.Cmp.Lexicographic.{slice_cmp}
use lib.Pointwise.{pointwise}
use Rattle.maple_base.specs.Ports.{controller_port}
use Rattle.maple_base.specs.Choice.{Differ}
use Rattle.maple_base.specs.declared.key.Match.{Match}
use Rattle.maple_base.specs.declared.decision.Rule.{Rule}
use Rattle.flow_table.specs.Effects.{is_at}
use Rattle.update_plan.specs.Batches.{same_rule}

-- a number that may be fixed, as one number, or as two where one has too few bits
abbrev pub code : Option ℕ → ℕ
code None = 0
code (Some v) = v + 1

abbrev pub flag : Option ℕ → ℕ
flag None = 0
flag (Some v) = 1

abbrev pub value_of : Option ℕ → ℕ
value_of None = 0
value_of (Some v) = v

-- the numbers that tell a match and a priority
unfoldable pub pair_key : Match → ℕ → List ℕ
pair_key m priority =
    priority ∷ code m.in_port ∷ flag m.dl_src ∷ value_of m.dl_src ∷ flag m.dl_dst ∷ value_of m.dl_dst ∷ code m.dl_vlan ∷ code m.dl_pcp ∷ code m.dl_type ∷ code m.nw_tos
    ∷ code m.nw_proto ∷ code m.nw_src ∷ code m.nw_dst ∷ code m.tp_src ∷ code m.tp_dst ∷ []

abbrev pub rule_key : Rule → List ℕ
rule_key r = pair_key r.of r.priority

-- a copy of a list whose look-ups go by bisection
pub record IsIndex (rules : List Rule) : Type 0 where
  pub sorted : IsSortedByKey rule_key (slice_cmp nat_cmp) rules
  pub distinct : AllPairs Differ rules

-- the rule stands in the list
abbrev pub is_in : List Rule → Rule → Bool
is_in rules r = list_any (same_rule r) rules

abbrev pub is_barrier : Rule → Bool
is_barrier r = pointwise nat_eq r.actions (controller_port ∷ [])

-- a barrier of the list has this rule's match and priority
abbrev pub barrier_at : List Rule → Rule → Bool
barrier_at rules r = list_any (λ q. is_at r.of r.priority q && is_barrier q) rules
