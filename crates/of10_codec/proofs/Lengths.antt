-- How long bodies with lists are.
use Rattle.std.proofs.Common.{◌≡◌, ℕ, ◌+◌, ◌*◌, ◌/◌, List, length, arith, length-append}
use Rattle.maple_base.specs.declared.cells.Port.{Port}
use Rattle.maple_base.specs.declared.key.Match.{Match}
use Rattle.of10_codec.specs.declared.message.Body.TheVariants.{FeaturesReply, PacketOut, FlowMod}
use Rattle.of10_codec.specs.Lent.{all_ports}
use Rattle.of10_codec.specs.Written.{written_body, written_outputs}
use Rattle.of10_codec.proofs.ListBack.{outputs_length, ports_length}
use Rattle.of10_codec.proofs.PortLists.{length-ports_in}

pub length_features : (dpid : ℕ) (ports : List Port) → length (written_body (FeaturesReply dpid ports)) ≡ 24 + 48 * length ports
length_features dpid ports = omega (arith, ports_length ports)

pub length_lent_features : (dpid : ℕ) (ports : List ℕ) → length (written_body (FeaturesReply dpid (all_ports ports))) ≡ 24 + 48 * (length ports / 48)
length_lent_features dpid ports = omega (arith, length_features dpid (all_ports ports), length-ports_in (length ports / 48) ports)

pub length_packet_out : (buffer in_port : ℕ) (actions bytes : List ℕ) → length (written_body (PacketOut buffer in_port actions bytes)) ≡ 8 + 8 * length actions + length bytes
length_packet_out buffer in_port actions bytes = omega (arith, outputs_length actions, length-append (written_outputs actions) bytes)

pub length_flow_mod : (of : Match) (cookie command idle hard priority buffer out_port flags : ℕ) (actions : List ℕ)
    → length (written_body (FlowMod of cookie command idle hard priority buffer out_port flags actions)) ≡ 64 + 8 * length actions
length_flow_mod of cookie command idle hard priority buffer out_port flags actions = omega (arith, outputs_length actions)
