use Rattle.std.proofs.Common.{◌≡◌, ◌+◌, ◌*◌, ◌≤◌, ◌++◌, true, take, vec_len, vec_capacity}
use Rattle.std.specs.List.{list_all}
use Rattle.of10_codec.specs.Written.{written_outputs}
use Rattle.of10_codec.specs.Laws.{has_bits}
use Rattle.of10_codec.proofs.encoding.outputs.append_outputs.Given as goal

-- the ports so far are written, and the room for the others is there
abbrev pub invariant-loop-port : goal.invariant-loop-port
invariant-loop-port l = record {
  items : l.out.items ≡ l.initial.out.items ++ written_outputs (take l.port-index l.ports);
  len : vec_len l.out ≡ vec_len l.initial.out + 8 * l.port-index;
  capacity : vec_capacity l.initial.out ≤ vec_capacity l.out;
  bits : list_all (has_bits 16) (take l.port-index l.ports) ≡ true;
}
