use Rattle.std.proofs.Common.{length, arith, ap, append_assoc}
use Rattle.of10_codec.specs.Lent.{body_of}
use Rattle.of10_codec.specs.Written.{written_body}
use Rattle.of10_codec.proofs.Lengths.{length_lent_features, length_packet_out, length_flow_mod}
use Rattle.of10_codec.proofs.encoding.bodies.append_lent_body.Goals as goal

pub append_lent_features-requires : goal.append_lent_features-requires
append_lent_features-requires c =
    let long = ap (λ b. length (written_body (body_of b))) c.in-FeaturesReply.is in
    omega (arith, length_lent_features c.in-FeaturesReply.dpid c.in-FeaturesReply.ports.now)

pub append_packet_out-requires : goal.append_packet_out-requires
append_packet_out-requires c =
    let long = ap (λ b. length (written_body (body_of b))) c.in-PacketOut.is in
    let p = c.in-PacketOut in
    omega (arith, length_packet_out p.buffer p.in_port p.actions p.bytes.now)

pub append_flow_mod_rest-requires : goal.append_flow_mod_rest-requires
append_flow_mod_rest-requires c =
    let long = ap (λ b. length (written_body (body_of b))) c.in-FlowMod.is in
    let m = c.in-FlowMod in
    omega (arith, length_flow_mod m.of m.cookie m.command m.idle m.hard m.priority m.buffer m.out_port m.flags m.actions)

pub returns-in-FlowMod-clause-items : goal.returns-in-FlowMod-clause-items
returns-in-FlowMod-clause-items c =
    rw (c.append_flow_mod_rest.ensures.items, c.append_flow_mod_front.ensures.items, c.in-FlowMod.is) (simp append_assoc)
