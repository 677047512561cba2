-- What holds of the numbers of a packet.
use Rattle.std.proofs.Common.{◌≡◌, ℕ, ◌%◌, ◌^◌, ◌<◌, ◌≤◌, Bool, true, false, refl, ap, arith}
use Rattle.std.specs.Prelude.{◌&&◌, ◌||◌, ◌==◌, not, nat_lt, nat_le}
use Rattle.std.proofs.lemmas.Bool.{and_parts}
use Rattle.std.proofs.lemmas.Bool.Decides.{nat_tests}
use Rattle.maple_base.specs.declared.key.Key.{Key}
use Rattle.maple_base.specs.Keys.{link_valid, net_valid, transport_valid, valid_key, has_ports}
use Rattle.script_text.specs.PacketFields.{is_packet}

-- the link numbers of a packet are in their widths
pub record LinkFacts (k : Key) : Type 0 where
  pub src : k.dl_src < 2 ^ 48
  pub dst : k.dl_dst < 2 ^ 48
  pub pcp : k.dl_pcp ≡ 0
  pub low : 0x0600 ≤ k.dl_type
  pub high : k.dl_type < 2 ^ 16
  pub untagged : (k.dl_type == 0x8100) ≡ false

-- and so are its network numbers
pub record NetFacts (k : Key) : Type 0 where
  pub tos : k.nw_tos < 2 ^ 8
  pub even : k.nw_tos % 4 ≡ 0
  pub proto : k.nw_proto < 2 ^ 8
  pub src : k.nw_src < 2 ^ 32
  pub dst : k.nw_dst < 2 ^ 32
  pub tp_src : k.tp_src < 2 ^ 16
  pub tp_dst : k.tp_dst < 2 ^ 16

-- the tests that make a packet, one by one
record Tests (k : Key) : Type 0 where
  link : link_valid k ≡ true
  net : net_valid k ≡ true
  transport : transport_valid k ≡ true
  pcp : (k.dl_pcp == 0) ≡ true
  low : nat_le 0x0600 k.dl_type ≡ true
  untagged : not (k.dl_type == 0x8100) ≡ true
  icmp : (not (k.nw_proto == 1) || (nat_lt k.tp_src 256 && nat_lt k.tp_dst 256)) ≡ true

tests_of : (k : Key) → is_packet k ≡ true → Tests k
tests_of k e =
    let icmp : Bool = not (k.nw_proto == 1) || (nat_lt k.tp_src 256 && nat_lt k.tp_dst 256) in
    let a = and_parts (valid_key k && k.dl_pcp == 0 && nat_le 0x0600 k.dl_type && not (k.dl_type == 0x8100)) icmp e in
    let b = and_parts (valid_key k && k.dl_pcp == 0 && nat_le 0x0600 k.dl_type) (not (k.dl_type == 0x8100)) a.0 in
    let c = and_parts (valid_key k && k.dl_pcp == 0) (nat_le 0x0600 k.dl_type) b.0 in
    let d = and_parts (valid_key k) (k.dl_pcp == 0) c.0 in
    let f = and_parts (link_valid k && net_valid k) (transport_valid k) d.0 in
    let g = and_parts (link_valid k) (net_valid k) f.0 in
    record { link = g.0; net = g.1; transport = f.1; pcp = d.1; low = c.1; untagged = b.1; icmp = a.1 }

-- the parts of the link test
record LinkTests (k : Key) : Type 0 where
  src : nat_lt k.dl_src (2 ^ 48) ≡ true
  dst : nat_lt k.dl_dst (2 ^ 48) ≡ true
  vlan : (nat_lt k.dl_vlan 4096 || k.dl_vlan == 0xffff) ≡ true
  kind : nat_lt k.dl_type (2 ^ 16) ≡ true

link_tests : (k : Key) → link_valid k ≡ true → LinkTests k
link_tests k e =
    let port : Bool = nat_lt k.in_port (2 ^ 16) in
    let src : Bool = nat_lt k.dl_src (2 ^ 48) in
    let dst : Bool = nat_lt k.dl_dst (2 ^ 48) in
    let vlan : Bool = nat_lt k.dl_vlan 4096 || k.dl_vlan == 0xffff in
    let kind : Bool = nat_lt k.dl_type (2 ^ 16) in
    let a = and_parts (port && src && dst && vlan && kind && nat_lt k.dl_pcp 8) (not (k.dl_vlan == 0xffff) || k.dl_pcp == 0) e in
    let b = and_parts (port && src && dst && vlan && kind) (nat_lt k.dl_pcp 8) a.0 in
    let c = and_parts (port && src && dst && vlan) kind b.0 in
    let d = and_parts (port && src && dst) vlan c.0 in
    let f = and_parts (port && src) dst d.0 in
    let g = and_parts port src f.0 in
    record { src = g.1; dst = f.1; vlan = d.1; kind = c.1 }

-- those of the network test
record NetTests (k : Key) : Type 0 where
  tos : (nat_lt k.nw_tos (2 ^ 8) && k.nw_tos % 4 == 0) ≡ true
  proto : nat_lt k.nw_proto (2 ^ 8) ≡ true
  src : nat_lt k.nw_src (2 ^ 32) ≡ true
  dst : nat_lt k.nw_dst (2 ^ 32) ≡ true
  none : (k.dl_type == 0x0800 || (k.nw_tos == 0 && k.nw_proto == 0 && k.nw_src == 0 && k.nw_dst == 0)) ≡ true

net_tests : (k : Key) → net_valid k ≡ true → NetTests k
net_tests k e =
    let tos : Bool = nat_lt k.nw_tos (2 ^ 8) && k.nw_tos % 4 == 0 in
    let proto : Bool = nat_lt k.nw_proto (2 ^ 8) in
    let src : Bool = nat_lt k.nw_src (2 ^ 32) in
    let dst : Bool = nat_lt k.nw_dst (2 ^ 32) in
    let a = and_parts (tos && proto && src && dst) (k.dl_type == 0x0800 || (k.nw_tos == 0 && k.nw_proto == 0 && k.nw_src == 0 && k.nw_dst == 0)) e in
    let b = and_parts (tos && proto && src) dst a.0 in
    let c = and_parts (tos && proto) src b.0 in
    let d = and_parts tos proto c.0 in
    record { tos = d.0; proto = d.1; src = c.1; dst = b.1; none = a.1 }

-- and those of the transport test
record TransportTests (k : Key) : Type 0 where
  src : nat_lt k.tp_src (2 ^ 16) ≡ true
  dst : nat_lt k.tp_dst (2 ^ 16) ≡ true
  none : ((k.dl_type == 0x0800 && has_ports k.nw_proto) || (k.tp_src == 0 && k.tp_dst == 0)) ≡ true

transport_tests : (k : Key) → transport_valid k ≡ true → TransportTests k
transport_tests k e =
    let a = and_parts (nat_lt k.tp_src (2 ^ 16) && nat_lt k.tp_dst (2 ^ 16)) ((k.dl_type == 0x0800 && has_ports k.nw_proto) || (k.tp_src == 0 && k.tp_dst == 0)) e in
    let b = and_parts (nat_lt k.tp_src (2 ^ 16)) (nat_lt k.tp_dst (2 ^ 16)) a.0 in
    record { src = b.0; dst = b.1; none = a.1 }

is_below : (n m : ℕ) → nat_lt n m ≡ true → n < m
is_below n m e = grind (arith, nat_tests)

is_least : (n m : ℕ) → nat_le m n ≡ true → m ≤ n
is_least n m e = grind (arith, nat_tests)

is_zero : (n : ℕ) → (n == 0) ≡ true → n ≡ 0
is_zero n e = grind (arith, nat_tests)

not_true : (b : Bool) → not b ≡ true → b ≡ false
not_true true e = absurd (cc e)
not_true false e = refl

-- one of two tests passes, and it isn't the first
other_one : (a b : Bool) → (a || b) ≡ true → a ≡ false → b ≡ true
other_one true b e f = absurd (cc f)
other_one false b e f = e

pub link_facts : (k : Key) → is_packet k ≡ true → LinkFacts k
link_facts k e =
    let t = tests_of k e in
    let l = link_tests k t.link in
    record {
      src = is_below k.dl_src (2 ^ 48) l.src;
      dst = is_below k.dl_dst (2 ^ 48) l.dst;
      pcp = is_zero k.dl_pcp t.pcp;
      low = is_least k.dl_type 0x0600 t.low;
      high = is_below k.dl_type (2 ^ 16) l.kind;
      untagged = not_true (k.dl_type == 0x8100) t.untagged;
    }

pub net_facts : (k : Key) → is_packet k ≡ true → NetFacts k
net_facts k e =
    let t = tests_of k e in
    let n = net_tests k t.net in
    let p = transport_tests k t.transport in
    let tos = and_parts (nat_lt k.nw_tos (2 ^ 8)) (k.nw_tos % 4 == 0) n.tos in
    record {
      tos = is_below k.nw_tos (2 ^ 8) tos.0;
      even = is_zero (k.nw_tos % 4) tos.1;
      proto = is_below k.nw_proto (2 ^ 8) n.proto;
      src = is_below k.nw_src (2 ^ 32) n.src;
      dst = is_below k.nw_dst (2 ^ 32) n.dst;
      tp_src = is_below k.tp_src (2 ^ 16) p.src;
      tp_dst = is_below k.tp_dst (2 ^ 16) p.dst;
    }

-- a tag has a VLAN id of 12 bits
either : (n : ℕ) → (nat_lt n 4096 || n == 0xffff) ≡ true → (n == 0xffff) ≡ false → n < 4096
either n e f = grind (arith, nat_tests)

pub tagged_small : (k : Key) → is_packet k ≡ true → (k.dl_vlan == 0xffff) ≡ false → k.dl_vlan < 4096
tagged_small k e t = let l = link_tests k (tests_of k e).link in either k.dl_vlan l.vlan t

-- the type and the code of ICMP are bytes
pub icmp_small : (k : Key) → is_packet k ≡ true → (k.nw_proto == 1) ≡ true → (k.tp_src < 256) × (k.tp_dst < 256)
icmp_small k e t =
    let both : Bool = nat_lt k.tp_src 256 && nat_lt k.tp_dst 256 in
    let h = and_parts (nat_lt k.tp_src 256) (nat_lt k.tp_dst 256) (other_one (not (k.nw_proto == 1)) both (tests_of k e).icmp (ap not t)) in
    (is_below k.tp_src 256 h.0, is_below k.tp_dst 256 h.1)

no_transport : (k : Key) → is_packet k ≡ true → (k.dl_type == 0x0800 && has_ports k.nw_proto) ≡ false → (k.tp_src ≡ 0) × (k.tp_dst ≡ 0)
no_transport k e f =
    let p = transport_tests k (tests_of k e).transport in
    let h = and_parts (k.tp_src == 0) (k.tp_dst == 0) (other_one (k.dl_type == 0x0800 && has_ports k.nw_proto) (k.tp_src == 0 && k.tp_dst == 0) p.none f) in
    (is_zero k.tp_src h.0, is_zero k.tp_dst h.1)

and_none : (a b : Bool) → b ≡ false → (a && b) ≡ false
and_none true b e = e
and_none false b e = refl

none_of : (a b c : Bool) → a ≡ false → b ≡ false → c ≡ false → (a || b || c) ≡ false
none_of a b c e f g = rw (e, f, g) refl

-- another protocol has no ports
pub no_ports : (k : Key) → is_packet k ≡ true → (k.nw_proto == 6) ≡ false → (k.nw_proto == 17) ≡ false → (k.nw_proto == 1) ≡ false → (k.tp_src ≡ 0) × (k.tp_dst ≡ 0)
no_ports k e tcp udp icmp =
    no_transport k e (and_none (k.dl_type == 0x0800) (has_ports k.nw_proto) (none_of (k.nw_proto == 1) (k.nw_proto == 6) (k.nw_proto == 17) icmp tcp udp))

-- another type has no network numbers
pub record NoNet (k : Key) : Type 0 where
  pub tos : k.nw_tos ≡ 0
  pub proto : k.nw_proto ≡ 0
  pub src : k.nw_src ≡ 0
  pub dst : k.nw_dst ≡ 0
  pub tp_src : k.tp_src ≡ 0
  pub tp_dst : k.tp_dst ≡ 0

pub no_net : (k : Key) → is_packet k ≡ true → (k.dl_type == 0x0800) ≡ false → NoNet k
no_net k e f =
    let n = net_tests k (tests_of k e).net in
    let a = and_parts (k.nw_tos == 0 && k.nw_proto == 0 && k.nw_src == 0) (k.nw_dst == 0)
    (other_one (k.dl_type == 0x0800) (k.nw_tos == 0 && k.nw_proto == 0 && k.nw_src == 0 && k.nw_dst == 0) n.none f) in
    let b = and_parts (k.nw_tos == 0 && k.nw_proto == 0) (k.nw_src == 0) a.0 in
    let c = and_parts (k.nw_tos == 0) (k.nw_proto == 0) b.0 in
    let p = no_transport k e (ap (λ t. t && has_ports k.nw_proto) f) in
    record {
      tos = is_zero k.nw_tos c.0;
      proto = is_zero k.nw_proto c.1;
      src = is_zero k.nw_src b.1;
      dst = is_zero k.nw_dst a.1;
      tp_src = p.0;
      tp_dst = p.1;
    }
