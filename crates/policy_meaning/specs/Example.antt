-- A run, and what is asked of three packets.
use Rattle.std.specs.Prelude.{◌≡◌, ℕ, true, false, List, [], ◌∷◌}
use Rattle.maple_base.specs.declared.key.Field.TheVariants.{DlType, NwProto, TpDst}
use Rattle.maple_base.specs.declared.key.Key.{Key}
use Rattle.maple_base.specs.declared.cells.Cell.TheVariants.{Host}
use Rattle.maple_base.specs.declared.cells.Value.TheVariants.{Nothing}
use Rattle.maple_base.specs.declared.items.Item.{Item}
use Rattle.maple_base.specs.declared.items.Item.TheVariants.{Read, Test}
use Rattle.maple_base.specs.declared.decision.Decision.TheVariants.{Drop}
use Rattle.maple_base.specs.declared.decision.Outcome.{Outcome}
use Rattle.maple_base.specs.declared.decision.Outcome.TheVariants.{Decided}
use Rattle.maple_base.specs.Kinds.{blank_value}
use Rattle.policy_meaning.specs.Asking.{Asking, gives, ◌>>=◌, field, test, cell, whole}
use Rattle.policy_meaning.specs.Readings.{items_of, cells_of}
use Rattle.policy_meaning.specs.Through.{through, nothing}

-- it tests the port twice, and for a number that no port has, reads the protocol, and asks twice where a host is
abbrev pub example : Asking Outcome
example = whole (Decided Drop) (do
  web ← test TpDst 80
  again ← test TpDst 80
  never ← test TpDst 70000
  proto ← field NwProto
  place ← cell (Host 7)
  same ← cell (Host 7)
  gives proto)

-- a key of this type, protocol and port
abbrev pub example_key : ℕ → ℕ → ℕ → Key
example_key type proto port =
    record { in_port = 1; dl_src = 2; dl_dst = 3; dl_vlan = 4; dl_pcp = 0; dl_type = type; nw_tos = 0; nw_proto = proto; nw_src = 0; nw_dst = 0; tp_src = 0; tp_dst = port }

abbrev pub example_items : ℕ → ℕ → ℕ → List Item
example_items type proto port = items_of (through example nothing) (example_key type proto port) blank_value

-- TCP to port 80 and to another port, a protocol without ports, and ARP
pub record ExampleTraces : Type 0 where
  pub web : example_items 0x0800 6 80 ≡ Read DlType 0x0800 ∷ Read NwProto 6 ∷ Test TpDst 80 true ∷ []
  pub tcp : example_items 0x0800 6 22 ≡ Read DlType 0x0800 ∷ Read NwProto 6 ∷ Test TpDst 80 false ∷ []
  pub other : example_items 0x0800 2 0 ≡ Read DlType 0x0800 ∷ Read NwProto 2 ∷ []
  pub arp : example_items 0x0806 0 0 ≡ Read DlType 0x0806 ∷ []
  pub cells : cells_of (through example nothing) (example_key 0x0806 0 0) blank_value ≡ (Host 7, Nothing) ∷ []
