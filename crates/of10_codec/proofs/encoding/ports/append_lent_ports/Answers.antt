use Rattle.std.proofs.Common.{◌≡◌, true, ◌+◌, ◌*◌, ◌++◌, [], ◌∷◌, drop, refl, sym, ap, ◌∙◌, arith, add-one}
use Rattle.std.specs.List.{flat_map, list_all}
use Rattle.std.proofs.lemmas.List.{take_rest, flat_map_more}
use Rattle.std.proofs.lemmas.List.Folds.{list_all-append}
use Rattle.std.proofs.lemmas.Bool.{and_from}
use Rattle.of10_codec.specs.Lent.{ports_in}
use Rattle.of10_codec.specs.Written.{written_port}
use Rattle.of10_codec.specs.Laws.{port_has_bits}
use Rattle.of10_codec.specs.Reading.{port_in}
use Rattle.of10_codec.proofs.PortLists.{ports_more}
use Rattle.of10_codec.proofs.encoding.ports.append_lent_ports.Goals as goal

pub loop-i-preserved : goal.loop-i-preserved
loop-i-preserved c =
    let i = c.loop-i.i in
    let b = c.args.ports.now in
    let p = c.read_port.result in
    let all = ports_in i b in
    let this : p ≡ port_in (drop (48 * i) b) = rw take_rest at c.read_port.ensures in
    let more : ports_in (i + 1) b ≡ all ++ p ∷ [] = rw add-one (ports_more i b) ∙ ap (λ q. all ++ q ∷ []) (sym this) in
    let bit : list_all port_has_bits (p ∷ []) ≡ true = and_from (port_has_bits p) true c.append_port.ensures.bits refl in
    record {
      items =
          c.append_port.ensures.items ∙ ap (λ xs. xs ++ written_port p) c.loop-i.invariant.items ∙ flat_map_more written_port c.args.out.now.items all p
          ∙ ap (λ ps. c.args.out.now.items ++ flat_map written_port ps) (sym more);
      len = omega (arith, c.append_port.ensures.len, c.loop-i.invariant.len);
      capacity = omega (arith, c.append_port.ensures.capacity, c.loop-i.invariant.capacity);
      bits = ap (list_all port_has_bits) more ∙ list_all-append port_has_bits all (p ∷ []) ∙ and_from (list_all port_has_bits all) (list_all port_has_bits (p ∷ [])) c.loop-i.invariant.bits bit;
    }
