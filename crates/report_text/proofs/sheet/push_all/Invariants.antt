use Rattle.std.proofs.Common.{◌≡◌, ◌+◌, ◌++◌, drop, vec_len, vec_capacity}
use Rattle.report_text.proofs.sheet.push_all.Given as goal

-- what is left of the piece comes behind what is there
abbrev pub invariant-loop-byte : goal.invariant-loop-byte
invariant-loop-byte l = record {
  items : l.out.items ++ drop l.byte-index l.piece ≡ l.fn.out.items ++ l.piece;
  len : vec_len l.out ≡ vec_len l.fn.out + l.byte-index;
  capacity : vec_capacity l.out ≡ vec_capacity l.fn.out;
}
