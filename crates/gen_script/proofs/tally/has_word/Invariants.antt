use Rattle.std.proofs.Common.{◌≡◌, ℕ, ◌+◌, length, List, Option, Some, None}
use Rattle.std.specs.Borrow.{Bor}
use Rattle.std.specs.List.{list_any}
use Rattle.std.specs.Str.{bytes_eq}
use Rattle.maple_text.specs.Parts.{rest_parts}
use Rattle.gen_script.specs.Summary.{has_word}
use Rattle.gen_script.proofs.tally.has_word.Given as goal

abbrev left_of : Option (Bor (List ℕ)) → ℕ
left_of None = 0
left_of (Some rest) = 1 + length rest.now

-- none of the words so far is the one
abbrev pub invariant-loop-rest : goal.invariant-loop-rest
invariant-loop-rest l = list_any (bytes_eq l.word) (rest_parts 32 l.rest) ≡ has_word l.word l.line

abbrev pub decreases-loop-rest : goal.decreases-loop-rest
decreases-loop-rest l = left_of l.rest
