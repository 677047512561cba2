-- How many lines of a report are of a kind.
use Rattle.std.proofs.Common.{ℕ, ◌+◌, ◌≤◌, Bool, List, length, arith, eqb}
use Rattle.std.specs.List.{count_by, slice_split}
use Rattle.std.proofs.lemmas.List.Splits.{length-slice_split}
use Rattle.std.proofs.lemmas.List.Sums.{count_by-le-length}

-- no more than the bytes and one
pub few_lines : (test : List ℕ → Bool) (text : List ℕ) → count_by test (slice_split (λ b. eqb b 10) text) ≤ length text + 1
few_lines test text =
    let lines = count_by-le-length test (slice_split (λ b. eqb b 10) text) in
    let parts = length-slice_split (λ b. eqb b 10) text in
    let ends = count_by-le-length (λ b. eqb b 10) text in
    omega (arith, lines, parts, ends)
