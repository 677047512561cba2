use Rattle.std.proofs.Common.{length, arith, ap}
use Rattle.of10_codec.proofs.Lengths.{length_features, length_packet_out, length_flow_mod}
use Rattle.of10_codec.proofs.encoding.lengths.len_of.Goals as goal

pub returns-in-FeaturesReply-clause-value : goal.returns-in-FeaturesReply-clause-value
returns-in-FeaturesReply-clause-value c =
    let same = ap length c.items-in-FeaturesReply.ensures in
    rw (c.in-FeaturesReply.is, length_features c.in-FeaturesReply.dpid c.in-FeaturesReply.ports) (omega arith)

pub returns-in-PacketOut-clause-value : goal.returns-in-PacketOut-clause-value
returns-in-PacketOut-clause-value c =
    let actions = ap length c.items-in-PacketOut.ensures in
    let bytes = ap length c.items-in-PacketOut-2.ensures in
    let p = c.in-PacketOut in
    rw (c.in-PacketOut.is, length_packet_out p.buffer p.in_port p.actions p.bytes) (omega arith)

pub returns-in-FlowMod-clause-value : goal.returns-in-FlowMod-clause-value
returns-in-FlowMod-clause-value c =
    let actions = ap length c.items-in-FlowMod.ensures in
    let m = c.in-FlowMod in
    rw (c.in-FlowMod.is, length_flow_mod m.of m.cookie m.command m.idle m.hard m.priority m.buffer m.out_port m.flags m.actions) (omega arith)
