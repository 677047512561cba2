-- The packet of a packet line: the values of the fields that it does not name, and which packets a line may have.
use Rattle.std.specs.Prelude.{ℕ, Bool, not, ◌&&◌, ◌||◌, ◌==◌, nat_le, nat_lt, if◌then◌else◌, unwrap_or}
use Rattle.maple_base.specs.declared.key.Key.{Key}
use Rattle.maple_base.specs.declared.key.Match.{Match}
use Rattle.maple_base.specs.Assigned.{ip_type, tag_type, first_type, no_vlan, icmp_protocol, tcp_protocol}
use Rattle.maple_base.specs.Keys.{valid_key}

-- the key of the named fields: the others are 0, but dl_vlan is that of no tag, dl_type that of IP, and nw_proto that of TCP behind an IP type
abbrev pub key_by : ℕ → Match → Key
key_by port m =
    let dl_type = unwrap_or m.dl_type ip_type in
    record {
      in_port = port;
      dl_src = unwrap_or m.dl_src 0;
      dl_dst = unwrap_or m.dl_dst 0;
      dl_vlan = unwrap_or m.dl_vlan no_vlan;
      dl_pcp = 0;
      dl_type = dl_type;
      nw_tos = unwrap_or m.nw_tos 0;
      nw_proto = unwrap_or m.nw_proto (if dl_type == ip_type then tcp_protocol else 0);
      nw_src = unwrap_or m.nw_src 0;
      nw_dst = unwrap_or m.nw_dst 0;
      tp_src = unwrap_or m.tp_src 0;
      tp_dst = unwrap_or m.tp_dst 0;
    }

-- a packet that a line may have: its key is valid, a tag has priority 0, its type is no length and no tag, and ICMP's type and
-- code are bytes (RFC 792)
abbrev pub is_packet : Key → Bool
is_packet k =
    valid_key k && k.dl_pcp == 0 && nat_le first_type k.dl_type && not (k.dl_type == tag_type)
    && (not (k.nw_proto == icmp_protocol) || (nat_lt k.tp_src 256 && nat_lt k.tp_dst 256))
