-- The one spelling of each message that is sent. Pads, and fields that a message does not have, are 0.
use Rattle.std.specs.Prelude.{ℕ, ◌+◌, ◌*◌, ◌^◌, Bool, true, not, ◌&&◌, ◌==◌, nat_lt, nat_le, if◌then◌else◌, List, [], ◌++◌, length, Option, Some, None}
use Rattle.std.specs.List.{flat_map}
use Rattle.maple_base.specs.declared.key.Match.{Match}
use Rattle.maple_base.specs.declared.cells.Port.{Port}
use Rattle.maple_base.specs.NetworkOrder.{number, zeros}
use Rattle.maple_base.specs.Ports.{controller_port}
use Rattle.of10_codec.specs.declared.message.Message.{Message}
use Rattle.of10_codec.specs.declared.message.Body.{Body}
use Rattle.of10_codec.specs.declared.message.Body.TheVariants.{Hello, Error, EchoRequest, EchoReply, FeaturesRequest, FeaturesReply, SetConfig, PacketIn, FlowRemoved, PortStatus, PacketOut, FlowMod, BarrierRequest, BarrierReply, Other}
use Rattle.of10_codec.specs.Types.{protocol_version, header_length, type_of, is_named}
use Rattle.of10_codec.specs.Matches.{in_port_bit, dl_vlan_bit, dl_src_bit, dl_dst_bit, dl_type_bit, nw_proto_bit, tp_src_bit, tp_dst_bit, nw_src_bit, nw_dst_bit, dl_pcp_bit, nw_tos_bit}

-- what stands for a number that is not fixed
abbrev pub value_or_zero : Option ℕ → ℕ
value_or_zero None = 0
value_or_zero (Some v) = v

abbrev pub fixed_number : ℕ → Option ℕ → List ℕ
fixed_number width v = number width (value_or_zero v)

-- so much, where a number is not fixed
abbrev pub wild : ℕ → Option ℕ → ℕ
wild worth None = worth
wild worth (Some v) = 0

-- the bits of what is not fixed (5.2.3, ofp_flow_wildcards); of an address 32 bits
abbrev pub wildcards : Match → ℕ
wildcards m =
    wild (2 ^ in_port_bit) m.in_port + wild (2 ^ dl_vlan_bit) m.dl_vlan + wild (2 ^ dl_src_bit) m.dl_src + wild (2 ^ dl_dst_bit) m.dl_dst + wild (2 ^ dl_type_bit) m.dl_type
    + wild (2 ^ nw_proto_bit) m.nw_proto + wild (2 ^ tp_src_bit) m.tp_src + wild (2 ^ tp_dst_bit) m.tp_dst + wild (32 * 2 ^ nw_src_bit) m.nw_src
    + wild (32 * 2 ^ nw_dst_bit) m.nw_dst + wild (2 ^ dl_pcp_bit) m.dl_pcp + wild (2 ^ nw_tos_bit) m.nw_tos

abbrev pub written_match : Match → List ℕ
written_match m =
    number 4 (wildcards m) ++ fixed_number 2 m.in_port ++ fixed_number 6 m.dl_src ++ fixed_number 6 m.dl_dst ++ fixed_number 2 m.dl_vlan ++ fixed_number 1 m.dl_pcp
    ++ zeros 1 ++ fixed_number 2 m.dl_type ++ fixed_number 1 m.nw_tos ++ fixed_number 1 m.nw_proto ++ zeros 2 ++ fixed_number 4 m.nw_src ++ fixed_number 4 m.nw_dst
    ++ fixed_number 2 m.tp_src ++ fixed_number 2 m.tp_dst

-- to the controller a packet is sent whole
abbrev pub written_output : ℕ → List ℕ
written_output port = number 2 0 ++ number 2 8 ++ number 2 port ++ number 2 (if port == controller_port then 0xffff else 0)

abbrev pub written_outputs : List ℕ → List ℕ
written_outputs ports = flat_map written_output ports

-- a port's number, its address and name, its config, its state, and its features
abbrev pub written_port : Port → List ℕ
written_port p = number 2 p.number ++ zeros 22 ++ number 4 0 ++ number 4 (if p.up then 0 else 1) ++ zeros 16

-- the two parts in which a change of a flow table is written: up to the seconds after which the rule goes, and what is behind that
abbrev pub flow_mod_front : Match → ℕ → ℕ → ℕ → ℕ → List ℕ
flow_mod_front of cookie command idle hard = written_match of ++ number 8 cookie ++ number 2 command ++ number 2 idle ++ number 2 hard

abbrev pub flow_mod_rest : ℕ → ℕ → ℕ → ℕ → List ℕ → List ℕ
flow_mod_rest priority buffer out_port flags actions = number 2 priority ++ number 4 buffer ++ number 2 out_port ++ number 2 flags ++ written_outputs actions

abbrev pub written_body : Body → List ℕ
written_body (Hello version) = []
written_body (Error kind code bytes) = number 2 kind ++ number 2 code ++ bytes
written_body (EchoRequest bytes) = bytes
written_body (EchoReply bytes) = bytes
written_body FeaturesRequest = []
written_body (FeaturesReply dpid ports) = number 8 dpid ++ zeros 16 ++ flat_map written_port ports
written_body (SetConfig miss_send_len) = zeros 2 ++ number 2 miss_send_len
written_body (PacketIn buffer total in_port reason bytes) = number 4 buffer ++ number 2 total ++ number 2 in_port ++ number 1 reason ++ zeros 1 ++ bytes
written_body (FlowRemoved of cookie priority reason idle) =
    written_match of ++ number 8 cookie ++ number 2 priority ++ number 1 reason ++ zeros 1 ++ zeros 8 ++ number 2 idle ++ zeros 18
written_body (PortStatus reason port) = number 1 reason ++ zeros 7 ++ written_port port
written_body (PacketOut buffer in_port actions bytes) =
    number 4 buffer ++ number 2 in_port ++ number 2 (8 * length actions) ++ written_outputs actions ++ bytes
written_body (FlowMod of cookie command idle hard priority buffer out_port flags actions) =
    written_match of ++ number 8 cookie ++ number 2 command ++ number 2 idle ++ number 2 hard ++ number 2 priority ++ number 4 buffer ++ number 2 out_port
    ++ number 2 flags ++ written_outputs actions
written_body BarrierRequest = []
written_body BarrierReply = []
written_body (Other kind) = []

abbrev pub with_header : ℕ → ℕ → List ℕ → List ℕ
with_header kind xid body = number 1 protocol_version ++ number 1 kind ++ number 2 (header_length + length body) ++ number 4 xid ++ body

abbrev pub written : Message → List ℕ
written m = with_header (type_of m.body) m.xid (written_body m.body)

-- the message that is sent: a HELLO is sent with version 1
abbrev pub sent_body : Body → Body
sent_body (Hello version) = Hello protocol_version
sent_body body = body

abbrev pub sent : Message → Message
sent m = record m { body = sent_body m.body }

abbrev pub is_address : Option ℕ → Bool
is_address None = true
is_address (Some v) = nat_lt v (2 ^ 48)

-- the Ethernet addresses of a match have 48 bits
abbrev pub match_fits_fields : Match → Bool
match_fits_fields m = is_address m.dl_src && is_address m.dl_dst

-- the numbers of a body that its types do not keep within their fields, and the type of a message without a body here
abbrev pub fits_fields : Body → Bool
fits_fields (FlowRemoved of cookie priority reason idle) = match_fits_fields of
fits_fields (PortStatus reason port) = nat_le reason 2
fits_fields (FlowMod of cookie command idle hard priority buffer out_port flags actions) = match_fits_fields of
fits_fields (Other kind) = not (is_named kind)
fits_fields body = true
