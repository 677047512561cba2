-- What headers have (OpenFlow Switch Specification 1.0.0, 5.1, ofp_header): a version, and the types of messages (ofp_type).
use Rattle.std.specs.Prelude.{ℕ, Bool, ◌==◌, List, [], ◌∷◌}
use Rattle.std.specs.List.{list_any}
use Rattle.of10_codec.specs.declared.message.Body.{Body}
use Rattle.of10_codec.specs.declared.message.Body.TheVariants.{Hello, Error, EchoRequest, EchoReply, FeaturesRequest, FeaturesReply, SetConfig, PacketIn, FlowRemoved, PortStatus, PacketOut, FlowMod, BarrierRequest, BarrierReply, Other}

-- the version of OpenFlow, how many bytes a header has, and how many a message has at most
abbrev pub protocol_version : ℕ
protocol_version = 1

abbrev pub header_length : ℕ
header_length = 8

abbrev pub most_bytes : ℕ
most_bytes = 65535

-- the numbers of the types
abbrev pub hello_type : ℕ
hello_type = 0

abbrev pub error_type : ℕ
error_type = 1

abbrev pub echo_request_type : ℕ
echo_request_type = 2

abbrev pub echo_reply_type : ℕ
echo_reply_type = 3

abbrev pub features_request_type : ℕ
features_request_type = 5

abbrev pub features_reply_type : ℕ
features_reply_type = 6

abbrev pub set_config_type : ℕ
set_config_type = 9

abbrev pub packet_in_type : ℕ
packet_in_type = 10

abbrev pub flow_removed_type : ℕ
flow_removed_type = 11

abbrev pub port_status_type : ℕ
port_status_type = 12

abbrev pub packet_out_type : ℕ
packet_out_type = 13

abbrev pub flow_mod_type : ℕ
flow_mod_type = 14

abbrev pub barrier_request_type : ℕ
barrier_request_type = 18

abbrev pub barrier_reply_type : ℕ
barrier_reply_type = 19

-- the type of a body
abbrev pub type_of : Body → ℕ
type_of (Hello version) = hello_type
type_of (Error kind code bytes) = error_type
type_of (EchoRequest bytes) = echo_request_type
type_of (EchoReply bytes) = echo_reply_type
type_of FeaturesRequest = features_request_type
type_of (FeaturesReply dpid ports) = features_reply_type
type_of (SetConfig miss_send_len) = set_config_type
type_of (PacketIn buffer total in_port reason bytes) = packet_in_type
type_of (FlowRemoved of cookie priority reason idle) = flow_removed_type
type_of (PortStatus reason port) = port_status_type
type_of (PacketOut buffer in_port actions bytes) = packet_out_type
type_of (FlowMod of cookie command idle hard priority buffer out_port flags actions) = flow_mod_type
type_of BarrierRequest = barrier_request_type
type_of BarrierReply = barrier_reply_type
type_of (Other kind) = kind

-- the types whose messages have a body of their own here
abbrev pub named_types : List ℕ
named_types =
    hello_type ∷ error_type ∷ echo_request_type ∷ echo_reply_type ∷ features_request_type ∷ features_reply_type ∷ set_config_type ∷ packet_in_type ∷ flow_removed_type
    ∷ port_status_type ∷ packet_out_type ∷ flow_mod_type ∷ barrier_request_type ∷ barrier_reply_type ∷ []

abbrev pub is_named : ℕ → Bool
is_named kind = list_any (λ (n : ℕ). n == kind) named_types
