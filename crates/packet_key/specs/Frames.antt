-- The key of a frame: the numbers of its headers, by their places in the frame.
use Rattle.std.specs.Prelude.{◌≡◌, ℕ, ◌+◌, ◌*◌, ◌^◌, ◌/◌, ◌%◌, Bool, not, ◌&&◌, ◌||◌, ◌==◌, nat_lt, nat_le, if◌then◌else◌, List, length, drop, Result, Ok, Err}
use Rattle.maple_base.specs.declared.key.Key.{Key}
use Rattle.maple_base.specs.Assigned.{ip_type, tag_type, first_type, no_vlan, icmp_protocol, tcp_protocol, udp_protocol}
use Rattle.maple_base.specs.NetworkOrder.{number_at}
use Rattle.packet_key.specs.declared.malformed.Malformed.{Malformed}
use Rattle.packet_key.specs.declared.malformed.Malformed.TheVariants.{Ethernet, Tag, Ip, Transport}

-- the type of a frame that has none (OpenFlow Switch Specification 1.0.0, 3.4)
abbrev pub no_type : ℕ
no_type = 0x05ff

-- the LLC header and the organization 0 that stand ahead of a type (RFC 1042)
abbrev pub snap_header : ℕ
snap_header = 0xaaaa03000000

-- a frame has a tag (IEEE 802.1Q, 9.6); behind it a second tag is a type as any other
abbrev pub is_tagged : List ℕ → Bool
is_tagged frame = number_at 12 2 frame == tag_type

-- where the type of a frame stands
abbrev pub type_place : List ℕ → ℕ
type_place frame = if is_tagged frame then 16 else 12

abbrev pub type_of : List ℕ → ℕ
type_of frame = number_at (type_place frame) 2 frame

-- what stands behind the type
abbrev pub payload : List ℕ → List ℕ
payload frame = drop (type_place frame + 2) frame

-- the type of a frame is a length
abbrev pub is_length : List ℕ → Bool
is_length frame = nat_lt (type_of frame) first_type

-- a frame with a length has a SNAP header, with a type that is no length
abbrev pub has_snap : List ℕ → Bool
has_snap frame = is_length frame && nat_le 8 (length (payload frame)) && number_at 0 6 (payload frame) == snap_header && nat_le first_type (number_at 6 2 (payload frame))

-- the type that a switch matches on
abbrev pub dl_type_of : List ℕ → ℕ
dl_type_of frame = if has_snap frame then number_at 6 2 (payload frame) else (if is_length frame then no_type else type_of frame)

-- what stands behind the headers that have the type
abbrev pub packet_in : List ℕ → List ℕ
packet_in frame = if has_snap frame then drop 8 (payload frame) else payload frame

-- the numbers of the Ethernet header and the tag; a frame without a tag has the VLAN id of none
abbrev pub link_key : ℕ → List ℕ → Key
link_key port frame = record {
  in_port = port;
  dl_src = number_at 6 6 frame;
  dl_dst = number_at 0 6 frame;
  dl_vlan = if is_tagged frame then number_at 14 2 frame % 2 ^ 12 else no_vlan;
  dl_pcp = if is_tagged frame then number_at 14 2 frame / 2 ^ 13 else 0;
  dl_type = dl_type_of frame;
  nw_tos = 0;
  nw_proto = 0;
  nw_src = 0;
  nw_dst = 0;
  tp_src = 0;
  tp_dst = 0;
}

-- the length of an IP header in bytes; the header has it in words of four (RFC 791, 3.1, IHL)
abbrev pub header_length : List ℕ → ℕ
header_length packet = 4 * (number_at 0 1 packet % 2 ^ 4)

-- a whole IP header of version 4 stands first; the packet's total length is not looked at
abbrev pub has_header : List ℕ → Bool
has_header packet =
    nat_le 20 (length packet) && number_at 0 1 packet / 2 ^ 4 == 4 && nat_le 20 (header_length packet) && nat_le (header_length packet) (length packet)

-- more fragments follow, or others come before (RFC 791, 3.1, the flag MF and the fragment offset)
abbrev pub is_fragment : List ℕ → Bool
is_fragment packet = not (number_at 6 2 packet % 2 ^ 14 == 0)

-- how many bytes each port has: two of TCP and UDP (RFC 793, RFC 768), one of ICMP, whose type and code stand for ports (RFC 792)
abbrev pub port_width : ℕ → ℕ
port_width proto = if proto == tcp_protocol || proto == udp_protocol then 2 else (if proto == icmp_protocol then 1 else 0)

-- how many bytes each port of a packet has; the ports of a fragment are not looked at
abbrev pub width_in : List ℕ → ℕ
width_in packet = if is_fragment packet then 0 else port_width (number_at 9 1 packet)

-- what stands behind the IP header
abbrev pub segment : List ℕ → List ℕ
segment packet = drop (header_length packet) packet

-- the key with the numbers of the IP header, the type of service without its low two bits, and with the ports
abbrev pub with_packet : Key → List ℕ → Key
with_packet k packet = record k {
  nw_tos = 4 * (number_at 1 1 packet / 4);
  nw_proto = number_at 9 1 packet;
  nw_src = number_at 12 4 packet;
  nw_dst = number_at 16 4 packet;
  tp_src = number_at 0 (width_in packet) (segment packet);
  tp_dst = number_at (width_in packet) (width_in packet) (segment packet);
}

abbrev pub ip_key : Key → List ℕ → Result Key Malformed
ip_key k packet =
    if not (has_header packet) then Err Ip
    else (if nat_lt (length (segment packet)) (2 * width_in packet) then Err Transport else Ok (with_packet k packet))

-- the key of a frame that came in by a port, or the first header that is cut short or is none
abbrev pub key_of : ℕ → List ℕ → Result Key Malformed
key_of port frame =
    if nat_lt (length frame) 14 then Err Ethernet
    else (if is_tagged frame && nat_lt (length frame) 18 then Err Tag
    else (if dl_type_of frame == ip_type then ip_key (link_key port frame) (packet_in frame) else Ok (link_key port frame)))

-- the number by which a fault is told
abbrev pub fault_number : Malformed → ℕ
fault_number Ethernet = 1
fault_number Tag = 2
fault_number Ip = 3
fault_number Transport = 4

-- no two faults have one number
abbrev pub FaultsHaveOwnNumbers : Type 0
FaultsHaveOwnNumbers = (a b : Malformed) → fault_number a ≡ fault_number b → a ≡ b
