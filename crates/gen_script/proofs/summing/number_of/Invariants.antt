use Rattle.std.proofs.Common.{◌≡◌, ℕ, ◌+◌, length, List, Option, Some, None}
use Rattle.std.specs.Borrow.{Bor}
use Rattle.std.specs.List.{count_by}
use Rattle.maple_text.specs.Parts.{rest_parts}
use Rattle.gen_script.specs.Summary.{counts, lines_of}
use Rattle.gen_script.proofs.summing.number_of.Given as goal

abbrev left_of : Option (Bor (List ℕ)) → ℕ
left_of None = 0
left_of (Some rest) = 1 + length rest.now

-- those so far, and those of the rest
abbrev pub invariant-loop-rest : goal.invariant-loop-rest
invariant-loop-rest l = l.number + count_by (counts l.tally) (rest_parts 10 l.rest) ≡ count_by (counts l.tally) (lines_of l.report)

abbrev pub decreases-loop-rest : goal.decreases-loop-rest
decreases-loop-rest l = left_of l.rest
