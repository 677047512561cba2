use Rattle.std.proofs.Common.{◌≡◌, ◌+◌, ◌*◌, ◌++◌, [], ◌∷◌, drop, arith, add-one}
use Rattle.std.proofs.lemmas.Grind.{common_steps}
use Rattle.of10_codec.specs.Lent.{ports_in}
use Rattle.of10_codec.specs.Reading.{port_in}
use Rattle.of10_codec.proofs.PortLists.{ports_more}
use Rattle.of10_codec.proofs.port_reading.read_ports.Goals as goal

pub loop-i-preserved : goal.loop-i-preserved
loop-i-preserved c =
    let more : ports_in (c.loop-i.i + 1) c.args.bytes.now ≡ ports_in c.loop-i.i c.args.bytes.now ++ port_in (drop (48 * c.loop-i.i) c.args.bytes.now) ∷ [] = rw add-one (ports_more c.loop-i.i c.args.bytes.now) in
    grind (arith, common_steps)
