use Rattle.std.proofs.Common.{◌≡◌, ◌+◌, drop}
use Rattle.maple_text.specs.Parts.{len_to}
use Rattle.maple_text.proofs.parts.len_to.Given as goal

-- the rest goes on
abbrev pub invariant-loop-at : goal.invariant-loop-at
invariant-loop-at l = len_to l.stop l.text ≡ l.at + len_to l.stop (drop l.at l.text)
