-- Ports behind one another, of 48 bytes each.
use Rattle.std.proofs.Common.{◌≡◌, ℕ, zero, suc, ◌*◌, ◌-◌, ◌/◌, ◌%◌, ◌≤◌, List, [], ◌∷◌, ◌++◌, length, drop, refl, sym, ap, ◌∙◌, subst, arith}
use Rattle.std.proofs.lemmas.List.{length-drop}
use Rattle.maple_base.specs.declared.cells.Port.{Port}
use Rattle.maple_base.specs.NetworkOrder.{number_at}
use Rattle.of10_codec.specs.Messages.{SpellsPort, SpellsPorts, SpellsFeatures}
use Rattle.of10_codec.specs.Lent.{ports_in, all_ports}
use Rattle.of10_codec.specs.Reading.{port_in}
use Rattle.of10_codec.proofs.Steps.{drop_next}

-- one port more
pub ports_more : (n : ℕ) (b : List ℕ) → ports_in (suc n) b ≡ ports_in n b ++ port_in (drop (48 * n) b) ∷ []
ports_more zero b = refl
ports_more (suc n) b = ap (λ ps. port_in b ∷ ps) (ports_more n (drop 48 b) ∙ ap (λ c. ports_in n (drop 48 b) ++ port_in c ∷ []) (drop_next 48 n b))

pub length-ports_in : (n : ℕ) (b : List ℕ) → length (ports_in n b) ≡ n
length-ports_in zero b = refl
length-ports_in (suc n) b = ap suc (length-ports_in n (drop 48 b))

-- the ports that bytes show are spelled by them
pub ports_spelled : (n : ℕ) (b : List ℕ) → SpellsPorts (ports_in n b) b
ports_spelled zero b = tt
ports_spelled (suc n) b = (record { number = refl; up = refl }, ports_spelled n (drop 48 b))

pub port_shown : (p : Port) (b : List ℕ) → SpellsPort p b → p ≡ port_in b
port_shown p b s = λ i. record { number = sym s.number i; up = sym s.up i }

-- ports that are spelled are those that the bytes show
pub ports_shown : (ps : List Port) (b : List ℕ) → SpellsPorts ps b → ps ≡ ports_in (length ps) b
ports_shown [] b s = refl
ports_shown (p ∷ ps) b s = λ i. port_shown p b s.0 i ∷ ports_shown ps (drop 48 b) s.1 i

-- whole ports behind a head of 32 bytes
pub features_spelled : (dpid : ℕ) (b c : List ℕ) → c ≡ drop 32 b → 32 ≤ length b → (length b - 32) % 48 ≡ 0 → dpid ≡ number_at 8 8 b → SpellsFeatures dpid (all_ports c) b
features_spelled dpid b c e long whole id =
    let n : length c ≡ length b - 32 = ap length e ∙ length-drop 32 b in
    let count : length (all_ports c) ≡ length c / 48 = length-ports_in (length c / 48) c in
    record {
      len = omega arith;
      is_dpid = sym id;
      are_ports = subst (SpellsPorts (all_ports c)) e (ports_spelled (length c / 48) c);
    }
