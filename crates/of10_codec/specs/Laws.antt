-- What holds of the bytes that spell a message.
use Rattle.std.specs.Prelude.{◌≡◌, ℕ, ◌≤◌, ◌^◌, Bool, true, ◌&&◌, nat_lt, List, [], ◌++◌, length, Option, Some, None}
use Rattle.std.specs.List.{list_all}
use Rattle.maple_base.specs.declared.key.Match.{Match}
use Rattle.maple_base.specs.declared.cells.Port.{Port}
use Rattle.of10_codec.specs.declared.message.Message.{Message}
use Rattle.of10_codec.specs.declared.message.Body.{Body}
use Rattle.of10_codec.specs.declared.message.Body.TheVariants.{Hello, Error, EchoRequest, EchoReply, FeaturesRequest, FeaturesReply, SetConfig, PacketIn, FlowRemoved, PortStatus, PacketOut, FlowMod, BarrierRequest, BarrierReply, Other}
use Rattle.of10_codec.specs.Types.{most_bytes}
use Rattle.of10_codec.specs.Messages.{Spelled}
use Rattle.of10_codec.specs.Faults.{bad_of}
use Rattle.of10_codec.specs.Written.{written, sent, fits_fields}

-- bytes spell one message at most
abbrev pub OneMessage : Type 0
OneMessage = (m n : Message) (b : List ℕ) → Spelled m b → Spelled n b → m ≡ n

-- no spelling is a front of a longer one
abbrev pub NoPrefix : Type 0
NoPrefix = (m n : Message) (b c : List ℕ) → Spelled m b → Spelled n (b ++ c) → c ≡ []

-- bytes that spell a message have no fault
abbrev pub NoFault : Type 0
NoFault = (m : Message) (b : List ℕ) → Spelled m b → bad_of b ≡ None

-- a number has so many bits
abbrev pub has_bits : ℕ → ℕ → Bool
has_bits width n = nat_lt n (2 ^ width)

abbrev pub fixed_has_bits : ℕ → Option ℕ → Bool
fixed_has_bits width None = true
fixed_has_bits width (Some n) = has_bits width n

abbrev pub match_has_bits : Match → Bool
match_has_bits m =
    fixed_has_bits 16 m.in_port && fixed_has_bits 16 m.dl_vlan && fixed_has_bits 8 m.dl_pcp && fixed_has_bits 16 m.dl_type && fixed_has_bits 8 m.nw_tos
    && fixed_has_bits 8 m.nw_proto && fixed_has_bits 32 m.nw_src && fixed_has_bits 32 m.nw_dst && fixed_has_bits 16 m.tp_src && fixed_has_bits 16 m.tp_dst

abbrev pub port_has_bits : Port → Bool
port_has_bits p = has_bits 16 p.number

-- at most 16 ports of 16 bits each
abbrev pub actions_have_bits : List ℕ → Bool
actions_have_bits ports = nat_lt (length ports) 17 && list_all (has_bits 16) ports

-- the numbers of the two parts of a change of a flow table have their widths
abbrev pub front_has_bits : Match → ℕ → ℕ → ℕ → ℕ → Bool
front_has_bits of cookie command idle hard = match_has_bits of && has_bits 64 cookie && has_bits 16 command && has_bits 16 idle && has_bits 16 hard

abbrev pub rest_has_bits : ℕ → ℕ → ℕ → ℕ → List ℕ → Bool
rest_has_bits priority buffer out_port flags actions =
    has_bits 16 priority && has_bits 32 buffer && has_bits 16 out_port && has_bits 16 flags && actions_have_bits actions

-- each number of a body has the width of its type
abbrev pub body_has_bits : Body → Bool
body_has_bits (Hello version) = has_bits 8 version
body_has_bits (Error kind code bytes) = has_bits 16 kind && has_bits 16 code
body_has_bits (EchoRequest bytes) = true
body_has_bits (EchoReply bytes) = true
body_has_bits FeaturesRequest = true
body_has_bits (FeaturesReply dpid ports) = has_bits 64 dpid && list_all port_has_bits ports
body_has_bits (SetConfig miss_send_len) = has_bits 16 miss_send_len
body_has_bits (PacketIn buffer total in_port reason bytes) = has_bits 32 buffer && has_bits 16 total && has_bits 16 in_port && has_bits 8 reason
body_has_bits (FlowRemoved of cookie priority reason idle) = match_has_bits of && has_bits 64 cookie && has_bits 16 priority && has_bits 8 reason && has_bits 16 idle
body_has_bits (PortStatus reason port) = has_bits 8 reason && port_has_bits port
body_has_bits (PacketOut buffer in_port actions bytes) = has_bits 32 buffer && has_bits 16 in_port && actions_have_bits actions
body_has_bits (FlowMod of cookie command idle hard priority buffer out_port flags actions) =
    match_has_bits of && has_bits 64 cookie && has_bits 16 command && has_bits 16 idle && has_bits 16 hard && has_bits 16 priority && has_bits 32 buffer
    && has_bits 16 out_port && has_bits 16 flags && actions_have_bits actions
body_has_bits BarrierRequest = true
body_has_bits BarrierReply = true
body_has_bits (Other kind) = has_bits 8 kind

abbrev pub message_has_bits : Message → Bool
message_has_bits m = has_bits 32 m.xid && body_has_bits m.body

-- what is written of a message spells it; of a HELLO of any version, the one of version 1
abbrev pub Spells : Type 0
Spells = (m : Message) → message_has_bits m ≡ true → fits_fields m.body ≡ true → length (written m) ≤ most_bytes → Spelled (sent m) (written m)
