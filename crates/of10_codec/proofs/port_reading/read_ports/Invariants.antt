use Rattle.std.proofs.Common.{◌≡◌}
use Rattle.of10_codec.specs.Lent.{ports_in}
use Rattle.of10_codec.proofs.port_reading.read_ports.Given as goal

abbrev pub invariant-loop-i : goal.invariant-loop-i
invariant-loop-i l = l.ports.items ≡ ports_in l.i l.bytes
