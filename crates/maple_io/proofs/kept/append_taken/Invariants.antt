use Rattle.std.proofs.Common.{◌≡◌, ◌+◌, ◌≤◌, ◌++◌, take, length}
use Rattle.std.specs.Prelude.{vec_len, vec_capacity}
use Rattle.std.specs.List.{flat_map}
use Rattle.maple_io.specs.Kept.{taken_for}
use Rattle.maple_io.proofs.kept.append_taken.Given as goal

abbrev pub invariant-loop-part : goal.invariant-loop-part
invariant-loop-part l = record {
  items : l.out.items ≡ l.fn.out.items ++ flat_map (taken_for l.connection) (take l.part-index l.taken);
  len : vec_len l.out ≡ vec_len l.fn.out + length (flat_map (taken_for l.connection) (take l.part-index l.taken));
  room : vec_capacity l.fn.out ≤ vec_capacity l.out;
}
