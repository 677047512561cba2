-- The fields of a valid key.
use Rattle.std.proofs.Common.{◌≡◌, Bool, true, false, arith}
use Rattle.std.specs.Prelude.{Option, Some, ℕ, ◌==◌, ◌&&◌}
use Rattle.maple_base.specs.declared.key.Field.{Field}
use Rattle.maple_base.specs.declared.key.Field.TheVariants.{DlType, NwTos, NwProto, NwSrc, NwDst, TpSrc, TpDst}
use Rattle.maple_base.specs.declared.key.Key.{Key}
use Rattle.maple_base.specs.Assigned.{ip_type}
use Rattle.maple_base.specs.Keys.{fixed_to, fixed_ports, field_of, in_domain, has_ports, valid_key, link_valid, net_valid, transport_valid}
use Rattle.std.proofs.lemmas.Bool.{and_parts}

-- a field's header is there, where this is known of the type and of the protocol
abbrev pub header_by : Field → Option ℕ → Option ℕ → Bool
header_by NwTos type proto = fixed_to type ip_type
header_by NwProto type proto = fixed_to type ip_type
header_by NwSrc type proto = fixed_to type ip_type
header_by NwDst type proto = fixed_to type ip_type
header_by TpSrc type proto = fixed_to type ip_type && fixed_ports proto
header_by TpDst type proto = fixed_to type ip_type && fixed_ports proto
header_by f type proto = true

abbrev pub has_header : Field → Key → Bool
has_header f k = header_by f (Some k.dl_type) (Some k.nw_proto)

parts : (k : Key) → valid_key k ≡ true → (link_valid k ≡ true) × (net_valid k ≡ true) × (transport_valid k ≡ true)
parts k h = let q = and_parts (link_valid k && net_valid k) (transport_valid k) h in let r = and_parts (link_valid k) (net_valid k) q.0 in (r.0, r.1, q.1)

type_within : (k : Key) → link_valid k ≡ true → in_domain DlType k.dl_type ≡ true
type_within k h = grind arith

net_within : (k : Key) → net_valid k ≡ true → (in_domain NwTos k.nw_tos ≡ true) × (in_domain NwProto k.nw_proto ≡ true) × (in_domain NwSrc k.nw_src ≡ true) × (in_domain NwDst k.nw_dst ≡ true)
net_within k h = (grind arith, grind arith, grind arith, grind arith)

ports_within : (k : Key) → transport_valid k ≡ true → (in_domain TpSrc k.tp_src ≡ true) × (in_domain TpDst k.tp_dst ≡ true)
ports_within k h = (grind arith, grind arith)

-- a field of a valid key is in its domain
pub domain_of : (k : Key) (f : Field) → valid_key k ≡ true → in_domain f (field_of k f) ≡ true
domain_of k DlType h = type_within k (parts k h).0
domain_of k NwTos h = (net_within k (parts k h).1).0
domain_of k NwProto h = (net_within k (parts k h).1).1
domain_of k NwSrc h = (net_within k (parts k h).1).2
domain_of k NwDst h = (net_within k (parts k h).1).3
domain_of k TpSrc h = (ports_within k (parts k h).2).0
domain_of k TpDst h = (ports_within k (parts k h).2).1
domain_of k f h = grind arith

no_net : (k : Key) → net_valid k ≡ true → (k.dl_type == 0x0800) ≡ false → (k.nw_tos ≡ 0) × (k.nw_proto ≡ 0) × (k.nw_src ≡ 0) × (k.nw_dst ≡ 0)
no_net k h e = (grind arith, grind arith, grind arith, grind arith)

no_ports : (k : Key) → transport_valid k ≡ true → (k.dl_type == 0x0800 && has_ports k.nw_proto) ≡ false → (k.tp_src ≡ 0) × (k.tp_dst ≡ 0)
no_ports k h e = (grind arith, grind arith)

-- a field of a header that the packet lacks is 0 in a valid key
pub lacks : (k : Key) (f : Field) → valid_key k ≡ true → has_header f k ≡ false → field_of k f ≡ 0
lacks k NwTos h e = (no_net k (parts k h).1 e).0
lacks k NwProto h e = (no_net k (parts k h).1 e).1
lacks k NwSrc h e = (no_net k (parts k h).1 e).2
lacks k NwDst h e = (no_net k (parts k h).1 e).3
lacks k TpSrc h e = (no_ports k (parts k h).2 e).0
lacks k TpDst h e = (no_ports k (parts k h).2 e).1
lacks k f h e = absurd (cc)
