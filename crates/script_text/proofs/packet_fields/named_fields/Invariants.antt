use Rattle.std.proofs.Common.{◌≡◌, ℕ, ◌+◌, length, List, Option, Some, None}
use Rattle.std.specs.Borrow.{Bor}
use Rattle.maple_base.specs.Keys.{anything}
use Rattle.maple_text.specs.Parts.{rest_parts}
use Rattle.script_text.specs.FieldReading.{named_by}
use Rattle.script_text.proofs.packet_fields.named_fields.Given as goal

abbrev left_of : Option (Bor (List ℕ)) → ℕ
left_of None = 0
left_of (Some rest) = 1 + length rest.now

-- the fields so far, and those of the rest
abbrev pub invariant-loop-rest : goal.invariant-loop-rest
invariant-loop-rest l = named_by (rest_parts 32 l.rest) l.fields ≡ named_by (rest_parts 32 l.words) anything

abbrev pub decreases-loop-rest : goal.decreases-loop-rest
decreases-loop-rest l = left_of l.rest
