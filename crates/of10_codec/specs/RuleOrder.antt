-- The order in which the rules of a list stand.
use Rattle.std.specs.Prelude.{List}
use Rattle.std.specs.declared.cmp.Ordering.{Ordering}
use Rattle.std.specs.Ordering.{nat_cmp, ordering_then}
use Rattle.std.specs.Cmp.Lexicographic.{slice_cmp}
use Rattle.std.specs.List.Sorted.{IsPermutation, IsSorted}
use Rattle.maple_base.specs.declared.decision.Rule.{Rule}
use Rattle.of10_codec.specs.Written.{written_match}

-- by priority, and at equal priorities by the 40 bytes in which the match is written, the first that differ telling. Only the low 48 bits of an
-- Ethernet address are written, so that two matches may be of equal bytes: then neither comes before the other
unfoldable pub rule_cmp : Rule → Rule → Ordering
rule_cmp r q = ordering_then (nat_cmp r.priority q.priority) (slice_cmp nat_cmp (written_match r.of) (written_match q.of))

-- no rule of the list comes before the one ahead of it
abbrev pub AreInOrder : List Rule → Type 0
AreInOrder rules = IsSorted rule_cmp rules

-- the same rules, in this order; those whose matches are of equal bytes stand either way
pub record ArePut (rules ordered : List Rule) : Type 0 where
  pub same : IsPermutation rules ordered
  pub order : AreInOrder ordered
