-- What a change does to the rules of a table, and what it answers (OpenFlow Switch Specification 1.0.0, 4.6). The order of the rules says nothing.
use Rattle.std.specs.Prelude.{ℕ, Bool, true, false, not, ◌&&◌, ◌==◌, nat_lt, if◌then◌else◌, filter, List, [], ◌∷◌, length, Option, Some, None}
use Rattle.std.specs.List.{list_any}
use Rattle.maple_base.specs.declared.key.Match.{Match}
use Rattle.maple_base.specs.declared.decision.Rule.{Rule}
use Rattle.maple_base.specs.declared.decision.TableMod.{TableMod}
use Rattle.maple_base.specs.declared.decision.TableMod.TheVariants.{Add, DeleteStrict, DeleteAll}
use Rattle.flow_table.specs.declared.applied.Applied.{Applied}
use Rattle.flow_table.specs.declared.applied.Applied.TheVariants.{Added, Replaced, Deleted, Full}

-- neither is fixed, or both are fixed to one number
abbrev pub alike : Option ℕ → Option ℕ → Bool
alike None None = true
alike (Some v) (Some w) = v == w
alike None (Some w) = false
alike (Some v) None = false

abbrev pub same_link : Match → Match → Bool
same_link m n =
    alike m.in_port n.in_port && alike m.dl_src n.dl_src && alike m.dl_dst n.dl_dst && alike m.dl_vlan n.dl_vlan && alike m.dl_pcp n.dl_pcp && alike m.dl_type n.dl_type

abbrev pub same_net : Match → Match → Bool
same_net m n = alike m.nw_tos n.nw_tos && alike m.nw_proto n.nw_proto && alike m.nw_src n.nw_src && alike m.nw_dst n.nw_dst

abbrev pub same_transport : Match → Match → Bool
same_transport m n = alike m.tp_src n.tp_src && alike m.tp_dst n.tp_dst

-- two matches are equal: the same numbers are fixed, to the same values
abbrev pub same_match : Match → Match → Bool
same_match m n = same_link m n && same_net m n && same_transport m n

-- a rule has this match and this priority, by which a table tells its rules apart
abbrev pub is_at : Match → ℕ → Rule → Bool
is_at of priority r = same_match r.of of && r.priority == priority

-- some rule has this match and this priority
abbrev pub has_at : Match → ℕ → List Rule → Bool
has_at of priority rules = list_any (is_at of priority) rules

-- the rules of another match or another priority
abbrev pub others : Match → ℕ → List Rule → List Rule
others of priority rules = filter (λ r. not (is_at of priority r)) rules

-- the rules behind a change: a rule that is added takes the place of the one of equal match and priority
abbrev pub effect : TableMod → List Rule → List Rule
effect (Add r) rules = r ∷ others r.of r.priority rules
effect (DeleteStrict of priority) rules = others of priority rules
effect DeleteAll rules = []

-- the rules behind changes that are carried out one after the other
abbrev pub after : List TableMod → List Rule → List Rule
after [] rules = rules
after (m ∷ ms) rules = after ms (effect m rules)

-- what a change of a table with room for so many rules answers, where memory suffices
abbrev pub answer_of : TableMod → List Rule → ℕ → Applied
answer_of (Add r) rules capacity = if has_at r.of r.priority rules then Replaced else (if nat_lt (length rules) capacity then Added else Full)
answer_of (DeleteStrict of priority) rules capacity = Deleted (if has_at of priority rules then 1 else 0)
answer_of DeleteAll rules capacity = Deleted (length rules)
