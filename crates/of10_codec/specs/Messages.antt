-- Which bytes spell a message: its fields at their places (OpenFlow Switch Specification 1.0.0, 5). Pads, and fields that no clause speaks of, are free.
use Rattle.std.specs.Prelude.{◌≡◌, ℕ, ◌+◌, ◌*◌, ◌≤◌, ◌%◌, Bool, false, ◌&&◌, ◌==◌, List, [], ◌∷◌, length, drop}
use Rattle.maple_base.specs.declared.key.Match.{Match}
use Rattle.maple_base.specs.declared.cells.Port.{Port}
use Rattle.maple_base.specs.NetworkOrder.{number_at}
use Rattle.of10_codec.specs.declared.message.Message.{Message}
use Rattle.of10_codec.specs.declared.message.Body.{Body}
use Rattle.of10_codec.specs.declared.message.Body.TheVariants.{Hello, Error, EchoRequest, EchoReply, FeaturesRequest, FeaturesReply, SetConfig, PacketIn, FlowRemoved, PortStatus, PacketOut, FlowMod, BarrierRequest, BarrierReply, Other}
use Rattle.of10_codec.specs.Types.{protocol_version, header_length, type_of, is_named}
use Rattle.of10_codec.specs.Matches.{SpellsMatch}

-- the version of a message: 1, but for a HELLO, which may have any
abbrev pub version_of : Body → ℕ
version_of (Hello version) = version
version_of body = protocol_version

-- the header (5.1, ofp_header); the length is that of all bytes
pub record SpellsHeader (m : Message) (b : List ℕ) : Type 0 where
  pub long : header_length ≤ length b
  pub version : number_at 0 1 b ≡ version_of m.body
  pub kind : number_at 1 1 b ≡ type_of m.body
  pub whole : number_at 2 2 b ≡ length b
  pub xid : number_at 4 4 b ≡ m.xid

-- bit 0 of config (OFPPC_PORT_DOWN) and of state (OFPPS_LINK_DOWN) tell that a port is down
abbrev pub is_up : List ℕ → Bool
is_up b = number_at 24 4 b % 2 == 0 && number_at 28 4 b % 2 == 0

-- the bytes begin with a spelling of the port, of 48 bytes (5.2.1, ofp_phy_port)
pub record SpellsPort (p : Port) (b : List ℕ) : Type 0 where
  pub number : number_at 0 2 b ≡ p.number
  pub up : is_up b ≡ p.up

abbrev pub SpellsPorts : List Port → List ℕ → Type 0
SpellsPorts [] b = Unit {0}
SpellsPorts (p ∷ ps) b = SpellsPort p b × SpellsPorts ps (drop 48 b)

-- the bytes begin with a spelling of an action that sends out of this port, of 8 bytes (5.2.4, ofp_action_output); how many bytes of a packet are sent to the controller is free
pub record SpellsOutput (port : ℕ) (b : List ℕ) : Type 0 where
  pub kind : number_at 0 2 b ≡ 0
  pub len : number_at 2 2 b ≡ 8
  pub number : number_at 4 2 b ≡ port

abbrev pub SpellsOutputs : List ℕ → List ℕ → Type 0
SpellsOutputs [] b = Unit {0}
SpellsOutputs (p ∷ ps) b = SpellsOutput p b × SpellsOutputs ps (drop 8 b)

-- 5.4.4, ofp_error_msg
pub record SpellsError (error code : ℕ) (bytes b : List ℕ) : Type 0 where
  pub long : 12 ≤ length b
  pub is_error : number_at 8 2 b ≡ error
  pub is_code : number_at 10 2 b ≡ code
  pub rest : drop 12 b ≡ bytes

-- 5.3.1, ofp_switch_features
pub record SpellsFeatures (dpid : ℕ) (ports : List Port) (b : List ℕ) : Type 0 where
  pub len : length b ≡ 32 + 48 * length ports
  pub is_dpid : number_at 8 8 b ≡ dpid
  pub are_ports : SpellsPorts ports (drop 32 b)

-- 5.3.2, ofp_switch_config
pub record SpellsConfig (miss_send_len : ℕ) (b : List ℕ) : Type 0 where
  pub len : length b ≡ 12
  pub is_miss_send_len : number_at 10 2 b ≡ miss_send_len

-- 5.4.1, ofp_packet_in
pub record SpellsPacketIn (buffer total in_port reason : ℕ) (bytes b : List ℕ) : Type 0 where
  pub long : 18 ≤ length b
  pub is_buffer : number_at 8 4 b ≡ buffer
  pub is_total : number_at 12 2 b ≡ total
  pub is_in_port : number_at 14 2 b ≡ in_port
  pub is_reason : number_at 16 1 b ≡ reason
  pub rest : drop 18 b ≡ bytes

-- 5.4.2, ofp_flow_removed
pub record SpellsFlowRemoved (of : Match) (cookie priority reason idle : ℕ) (b : List ℕ) : Type 0 where
  pub len : length b ≡ 88
  pub is_match : SpellsMatch of (drop 8 b)
  pub is_cookie : number_at 48 8 b ≡ cookie
  pub is_priority : number_at 56 2 b ≡ priority
  pub is_reason : number_at 58 1 b ≡ reason
  pub is_idle : number_at 68 2 b ≡ idle

-- 5.4.3, ofp_port_status: added, deleted or modified
pub record SpellsPortStatus (reason : ℕ) (port : Port) (b : List ℕ) : Type 0 where
  pub len : length b ≡ 64
  pub is_reason : number_at 8 1 b ≡ reason
  pub known : reason ≤ 2
  pub is_port : SpellsPort port (drop 16 b)

-- 5.3.6, ofp_packet_out: actions of at most 16 ports, and behind them the packet
pub record SpellsPacketOut (buffer in_port : ℕ) (actions bytes b : List ℕ) : Type 0 where
  pub few : length actions ≤ 16
  pub long : 16 + 8 * length actions ≤ length b
  pub is_buffer : number_at 8 4 b ≡ buffer
  pub is_in_port : number_at 12 2 b ≡ in_port
  pub actions_len : number_at 14 2 b ≡ 8 * length actions
  pub are_actions : SpellsOutputs actions (drop 16 b)
  pub rest : drop (16 + 8 * length actions) b ≡ bytes

-- 5.3.3, ofp_flow_mod
pub record SpellsFlowMod (of : Match) (cookie command idle hard priority buffer out_port flags : ℕ) (actions b : List ℕ) : Type 0 where
  pub few : length actions ≤ 16
  pub len : length b ≡ 72 + 8 * length actions
  pub is_match : SpellsMatch of (drop 8 b)
  pub is_cookie : number_at 48 8 b ≡ cookie
  pub is_command : number_at 56 2 b ≡ command
  pub is_idle : number_at 58 2 b ≡ idle
  pub is_hard : number_at 60 2 b ≡ hard
  pub is_priority : number_at 62 2 b ≡ priority
  pub is_buffer : number_at 64 4 b ≡ buffer
  pub is_out_port : number_at 68 2 b ≡ out_port
  pub are_flags : number_at 70 2 b ≡ flags
  pub are_actions : SpellsOutputs actions (drop 72 b)

-- the bytes of a message spell its body
abbrev pub SpellsBody : Body → List ℕ → Type 0
SpellsBody (Hello version) b = Unit {0}
SpellsBody (Error kind code bytes) b = SpellsError kind code bytes b
SpellsBody (EchoRequest bytes) b = drop header_length b ≡ bytes
SpellsBody (EchoReply bytes) b = drop header_length b ≡ bytes
SpellsBody FeaturesRequest b = length b ≡ header_length
SpellsBody (FeaturesReply dpid ports) b = SpellsFeatures dpid ports b
SpellsBody (SetConfig miss_send_len) b = SpellsConfig miss_send_len b
SpellsBody (PacketIn buffer total in_port reason bytes) b = SpellsPacketIn buffer total in_port reason bytes b
SpellsBody (FlowRemoved of cookie priority reason idle) b = SpellsFlowRemoved of cookie priority reason idle b
SpellsBody (PortStatus reason port) b = SpellsPortStatus reason port b
SpellsBody (PacketOut buffer in_port actions bytes) b = SpellsPacketOut buffer in_port actions bytes b
SpellsBody (FlowMod of cookie command idle hard priority buffer out_port flags actions) b = SpellsFlowMod of cookie command idle hard priority buffer out_port flags actions b
SpellsBody BarrierRequest b = length b ≡ header_length
SpellsBody BarrierReply b = length b ≡ header_length
SpellsBody (Other kind) b = is_named kind ≡ false

-- the bytes spell the message
pub record Spelled (m : Message) (b : List ℕ) : Type 0 where
  pub header : SpellsHeader m b
  pub body : SpellsBody m.body b
