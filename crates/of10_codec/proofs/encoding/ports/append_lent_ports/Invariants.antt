use Rattle.std.proofs.Common.{◌≡◌, ◌+◌, ◌*◌, ◌≤◌, ◌++◌, true, vec_len, vec_capacity}
use Rattle.std.specs.List.{flat_map, list_all}
use Rattle.of10_codec.specs.Lent.{ports_in}
use Rattle.of10_codec.specs.Written.{written_port}
use Rattle.of10_codec.specs.Laws.{port_has_bits}
use Rattle.of10_codec.proofs.encoding.ports.append_lent_ports.Given as goal

-- the ports so far are written, and the room for the others is there
abbrev pub invariant-loop-i : goal.invariant-loop-i
invariant-loop-i l = record {
  items : l.out.items ≡ l.initial.out.items ++ flat_map written_port (ports_in l.i l.ports);
  len : vec_len l.out ≡ vec_len l.initial.out + 48 * l.i;
  capacity : vec_capacity l.initial.out ≤ vec_capacity l.out;
  bits : list_all port_has_bits (ports_in l.i l.ports) ≡ true;
}
