-- The frame of a packet (IEEE 802.3, 3.1; IEEE 802.1Q, 9.6; RFC 791, 3.1; RFC 793, 3.1; RFC 768; RFC 792). Numbers are in network order.
use Rattle.std.specs.Prelude.{ℕ, ◌+◌, ◌==◌, if◌then◌else◌, List, [], ◌++◌, length}
use Rattle.maple_base.specs.declared.key.Key.{Key}
use Rattle.maple_base.specs.Assigned.{ip_type, tag_type, no_vlan, icmp_protocol, tcp_protocol, udp_protocol}
use Rattle.maple_base.specs.NetworkOrder.{number, zeros}

-- both Ethernet addresses
unfoldable pub addresses : Key → List ℕ
addresses k = number 6 k.dl_dst ++ number 6 k.dl_src

-- a tag of priority 0, where the packet has a VLAN id
unfoldable pub tag : Key → List ℕ
tag k = if k.dl_vlan == no_vlan then [] else number 2 tag_type ++ number 2 k.dl_vlan

-- TCP: both ports, no numbers, a header of 5 words, no flags, window, checksum or urgent pointer
abbrev pub tcp : Key → List ℕ
tcp k = number 2 k.tp_src ++ number 2 k.tp_dst ++ zeros 8 ++ number 1 0x50 ++ zeros 7

-- UDP: both ports, a length of 8 bytes, no checksum
abbrev pub udp : Key → List ℕ
udp k = number 2 k.tp_src ++ number 2 k.tp_dst ++ number 2 8 ++ number 2 0

-- ICMP: type and code, and six bytes of 0
abbrev pub icmp : Key → List ℕ
icmp k = number 1 k.tp_src ++ number 1 k.tp_dst ++ zeros 6

-- what stands behind the IP header; nothing for another protocol
unfoldable pub segment : Key → List ℕ
segment k = if k.nw_proto == tcp_protocol then tcp k else (if k.nw_proto == udp_protocol then udp k else (if k.nw_proto == icmp_protocol then icmp k else []))

-- an IP header of version 4 and 5 words: type of service, total length, no identification, flags or offset, a time to live of 64, the protocol,
-- no checksum, and both addresses
unfoldable pub ip_header : Key → ℕ → List ℕ
ip_header k total =
    number 1 0x45 ++ number 1 k.nw_tos ++ number 2 total ++ number 2 0 ++ number 2 0 ++ number 1 0x40 ++ number 1 k.nw_proto ++ number 2 0
    ++ number 4 k.nw_src ++ number 4 k.nw_dst

unfoldable pub ip_packet : Key → List ℕ
ip_packet k = if k.dl_type == ip_type then ip_header k (20 + length (segment k)) ++ segment k else []

-- the frame of a key
abbrev pub frame : Key → List ℕ
frame k = addresses k ++ tag k ++ number 2 k.dl_type ++ ip_packet k
