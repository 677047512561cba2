-- Numbers that are assigned.
use Rattle.std.specs.Prelude.{ℕ}

-- the type of a frame that has an IPv4 packet (RFC 894), that of a frame that has a tag (IEEE 802.1Q, 9.6), and the least type: a number below it
-- is a length (IEEE 802.3, 3.2.6)
abbrev pub ip_type : ℕ
ip_type = 0x0800

abbrev pub tag_type : ℕ
tag_type = 0x8100

abbrev pub first_type : ℕ
first_type = 0x0600

-- the VLAN id that stands for a packet without a tag (OpenFlow Switch Specification 1.0.0, 3.4)
abbrev pub no_vlan : ℕ
no_vlan = 0xffff

-- the protocol numbers (RFC 790)
abbrev pub icmp_protocol : ℕ
icmp_protocol = 1

abbrev pub tcp_protocol : ℕ
tcp_protocol = 6

abbrev pub udp_protocol : ℕ
udp_protocol = 17
