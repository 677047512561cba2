-- Lists of ports that were written are read back.
use Rattle.std.proofs.Common.{◌≡◌, ℕ, ◌*◌, ◌^◌, Bool, true, false, List, [], ◌∷◌, ◌++◌, length, drop, refl, arith}
use Rattle.std.specs.List.{flat_map, list_all}
use Rattle.std.proofs.lemmas.Bool.{ltb-true, and_parts}
use Rattle.std.proofs.lemmas.List.{drop_at}
use Rattle.maple_base.specs.declared.cells.Port.{Port}
use Rattle.of10_codec.specs.Written.{written_outputs, written_port}
use Rattle.of10_codec.specs.Laws.{has_bits, port_has_bits}
use Rattle.of10_codec.specs.Messages.{SpellsPort, SpellsPorts, SpellsOutputs, is_up}
use Rattle.maple_base.proofs.NumberBack.{number_back}

pub outputs_back : (ports rest : List ℕ) → list_all (has_bits 16) ports ≡ true → SpellsOutputs ports (written_outputs ports ++ rest)
outputs_back [] rest bits = tt
outputs_back (p ∷ ps) rest bits =
    let parts = and_parts (has_bits 16 p) (list_all (has_bits 16) ps) bits in
    (record { kind = refl; len = refl; number = number_back 2 p (ltb-true p (2 ^ 16) parts.0) }, outputs_back ps rest parts.1)

pub outputs_length : (ports : List ℕ) → length (written_outputs ports) ≡ 8 * length ports
outputs_length [] = refl
outputs_length (p ∷ ps) = let e = outputs_length ps in omega arith

-- what is behind the outputs
pub behind_outputs : (ports rest : List ℕ) → drop (8 * length ports) (written_outputs ports ++ rest) ≡ rest
behind_outputs ports rest = drop_at (written_outputs ports) rest _ (outputs_length ports)

pub port_back : (p : Port) (rest : List ℕ) → port_has_bits p ≡ true → SpellsPort p (written_port p ++ rest)
port_back p rest bits = record { number = number_back 2 p.number (ltb-true p.number (2 ^ 16) bits); up = up_back p.up }
  where
    up_back : (up : Bool) → is_up (written_port (record { number = p.number; up = up }) ++ rest) ≡ up
    up_back true = refl
    up_back false = refl

pub ports_back : (ports : List Port) → list_all port_has_bits ports ≡ true → SpellsPorts ports (flat_map written_port ports)
ports_back [] bits = tt
ports_back (p ∷ ps) bits =
    let parts = and_parts (port_has_bits p) (list_all port_has_bits ps) bits in
    (port_back p (flat_map written_port ps) parts.0, ports_back ps parts.1)

pub ports_length : (ports : List Port) → length (flat_map written_port ports) ≡ 48 * length ports
ports_length [] = refl
ports_length (p ∷ ps) = let e = ports_length ps in omega arith
