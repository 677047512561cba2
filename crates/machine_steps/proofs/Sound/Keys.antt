-- The key of a frame of bytes is valid.
use Rattle.std.proofs.Common.{◌≡◌, ℕ, zero, suc, ◌+◌, ◌*◌, ◌/◌, ◌%◌, ◌^◌, ◌<◌, ◌≤◌, ◌⊎◌, Bool, true, false, cond, List, [], ◌∷◌, length, take, drop, refl, subst, inl, inr, ⊎_elim, arith, pow-suc}
use Rattle.std.specs.Prelude.{All, IfOk, Result, Ok, ◌==◌, ◌&&◌, ◌||◌, not, nat_lt}
use Rattle.std.specs.Slice.Scan.{big_endian}
use Rattle.std.specs.Cmp.Derive.{both_true}
use Rattle.std.proofs.Math.Nat.{mul-le-mul_right, mul-le-mul_left, pow-le-pow_right, lt_of_lt_of_le, mod-lt}
use Rattle.std.proofs.lemmas.Bool.{cond_both, or_left, or_right, lt-ltb, eq-eqb}
use Rattle.std.proofs.lemmas.List.Elements.{All-head, All-tail, All-drop}
use Rattle.maple_base.specs.declared.key.Field.TheVariants.{NwTos}
use Rattle.maple_base.specs.declared.key.Key.{Key}
use Rattle.maple_base.specs.Assigned.{ip_type, no_vlan}
use Rattle.maple_base.specs.Keys.{in_domain, has_ports, link_valid, net_valid, transport_valid, valid_key}
use Rattle.maple_base.specs.NetworkOrder.{number_at}
use Rattle.packet_key.specs.declared.malformed.Malformed.{Malformed}
use Rattle.packet_key.specs.Frames.{is_tagged, is_length, has_snap, type_place, payload, dl_type_of, packet_in, link_key, has_header, header_length, is_fragment, port_width, width_in, segment, with_packet, ip_key, key_of}

abbrev pub AreBytes : List ℕ → Type 0
AreBytes bytes = All (λ b. b < 256) bytes

-- ---- numbers in bytes

-- one more byte in front of numbers below a unit
onto : (n b unit : ℕ) → b < 256 → (n * 256 + b + 1) * unit ≤ (n + 1) * (unit * 256)
onto n b unit small =
    let h : (n * 256 + b + 1) * unit ≤ ((n + 1) * 256) * unit = mul-le-mul_right unit (omega arith) in
    omega (arith, h)

unit_some : (width : ℕ) → 1 ≤ 256 ^ width
unit_some width = pow-le-pow_right {n = 256} (omega arith) {i = 0} {j = width} (omega arith)

-- what so many bytes spell behind n is below the next number's
spelled_below : (width n : ℕ) (bytes : List ℕ) → AreBytes bytes → big_endian n (take width bytes) < (n + 1) * 256 ^ width
spelled_below zero n bytes are = omega arith
spelled_below (suc width) n [] are =
    let some = unit_some (suc width) in
    let h : (n + 1) * 1 ≤ (n + 1) * 256 ^ suc width = mul-le-mul_left (n + 1) some in
    omega (arith, h)
spelled_below (suc width) n (b ∷ bs) are =
    let step = onto n b (256 ^ width) (All-head (λ x. x < 256) b bs are) in
    let later = spelled_below width (n * 256 + b) bs (All-tail (λ x. x < 256) b bs are) in
    rw pow-suc (omega (arith, step, later))

-- so many bytes spell a number of their width
pub number_below : (place width : ℕ) (bytes : List ℕ) → AreBytes bytes → number_at place width bytes < 256 ^ width
number_below place width bytes are = let h = spelled_below width 0 (drop place bytes) (All-drop (λ x. x < 256) place bytes are) in omega (arith, h)

-- what stands behind some bytes is bytes
pub behind : (n : ℕ) (bytes : List ℕ) → AreBytes bytes → AreBytes (drop n bytes)
behind n bytes are = All-drop (λ x. x < 256) n bytes are

-- ---- keys

-- the numbers of the headers ahead of the packet are in their domains
record LinkFits (k : Key) : Type 0 where
  port : k.in_port < 2 ^ 16
  src : k.dl_src < 2 ^ 48
  dst : k.dl_dst < 2 ^ 48
  vlan : (k.dl_vlan < 4096) ⊎ ((k.dl_vlan ≡ no_vlan) × (k.dl_pcp ≡ 0))
  type : k.dl_type < 2 ^ 16
  pcp : k.dl_pcp < 8

-- a VLAN id is in its domain, and the priority is 0 where it is none
tagged_fits : (vlan pcp : ℕ) → (vlan < 4096) ⊎ ((vlan ≡ no_vlan) × (pcp ≡ 0)) → ((nat_lt vlan 4096 || vlan == no_vlan) ≡ true) × ((not (vlan == no_vlan) || pcp == 0) ≡ true)
tagged_fits vlan pcp (inl h) = (grind arith, grind arith)
tagged_fits vlan pcp (inr h) = (grind arith, grind arith)

link_fits : (k : Key) → LinkFits k → link_valid k ≡ true
link_fits k h = let t = tagged_fits k.dl_vlan k.dl_pcp h.vlan in grind (arith, t.0, t.1, h.port, h.src, h.dst, h.type, h.pcp)

-- the VLAN id and the priority of a frame, tagged or not
vlan_fits : (tagged : Bool) (n : ℕ) → n < 2 ^ 16
    → ((cond tagged (n % 2 ^ 12) no_vlan < 4096) ⊎ ((cond tagged (n % 2 ^ 12) no_vlan ≡ no_vlan) × (cond tagged (n / 2 ^ 13) 0 ≡ 0))) × (cond tagged (n / 2 ^ 13) 0 < 8)
vlan_fits true n small = (inl (mod-lt n (omega arith)), omega arith)
vlan_fits false n small = (inr (refl, refl), omega arith)

type_fits : (frame : List ℕ) → AreBytes frame → dl_type_of frame < 2 ^ 16
type_fits frame are =
    cond_both (has_snap frame) _ _ (λ t. t < 2 ^ 16) (λ h. number_below 6 2 (payload frame) (behind (type_place frame + 2) frame are))
    (λ h. cond_both (is_length frame) _ _ (λ t. t < 2 ^ 16) (λ l. omega arith) (λ l. number_below (type_place frame) 2 frame are))

-- the numbers ahead of a frame's packet
link_key_fits : (port : ℕ) (frame : List ℕ) → port < 2 ^ 16 → AreBytes frame → LinkFits (link_key port frame)
link_key_fits port frame small are =
    let v = vlan_fits (is_tagged frame) (number_at 14 2 frame) (number_below 14 2 frame are) in
    record { port = small; src = number_below 6 6 frame are; dst = number_below 0 6 frame are; vlan = v.0; type = type_fits frame are; pcp = v.1 }

-- a key without an IP header
link_key_valid : (port : ℕ) (frame : List ℕ) → port < 2 ^ 16 → AreBytes frame → valid_key (link_key port frame) ≡ true
link_key_valid port frame small are =
    let type = dl_type_of frame == ip_type in
    both_true (both_true (link_fits (link_key port frame) (link_key_fits port frame small are)) (or_right type true refl)) (or_right (type && false) true refl)

tos_fits : (n : ℕ) → n < 2 ^ 8 → in_domain NwTos (4 * (n / 4)) ≡ true
tos_fits n small = both_true (lt-ltb (4 * (n / 4)) (2 ^ 8) (omega arith)) (eq-eqb (4 * (n / 4) % 4) 0 (omega arith))

-- and those of its IP header
net_fits : (k : Key) (packet : List ℕ) → AreBytes packet → (k.dl_type == ip_type) ≡ true → net_valid (with_packet k packet) ≡ true
net_fits k packet are ip =
    let tos = tos_fits (number_at 1 1 packet) (number_below 1 1 packet are) in
    let proto = lt-ltb (number_at 9 1 packet) (2 ^ 8) (number_below 9 1 packet are) in
    let src = lt-ltb (number_at 12 4 packet) (2 ^ 32) (number_below 12 4 packet are) in
    let dst = lt-ltb (number_at 16 4 packet) (2 ^ 32) (number_below 16 4 packet are) in
    both_true (both_true (both_true (both_true tos proto) src) dst) (or_left (k.dl_type == ip_type) _ ip)

abbrev width_by : Bool → Bool → Bool → ℕ
width_by icmp tcp udp = cond (tcp || udp) 2 (cond icmp 1 0)

-- a protocol has ports, or they have no bytes
ports_by : (icmp tcp udp : Bool) → (((icmp || tcp) || udp) ≡ true) ⊎ (width_by icmp tcp udp ≡ 0)
ports_by true tcp udp = inl refl
ports_by false true udp = inl refl
ports_by false false true = inl refl
ports_by false false false = inr refl

two_least : (icmp tcp udp : Bool) → width_by icmp tcp udp ≤ 2
two_least icmp true udp = omega arith
two_least icmp false true = omega arith
two_least true false false = omega arith
two_least false false false = omega arith

-- a port has at most two bytes
width_least : (fragment : Bool) (proto : ℕ) → cond fragment 0 (port_width proto) ≤ 2
width_least true proto = omega arith
width_least false proto = two_least (proto == 1) (proto == 6) (proto == 17)

has_or_none : (fragment : Bool) (proto : ℕ) → (has_ports proto ≡ true) ⊎ (cond fragment 0 (port_width proto) ≡ 0)
has_or_none true proto = inr refl
has_or_none false proto = ports_by (proto == 1) (proto == 6) (proto == 17)

port_fits : (place width : ℕ) (bytes : List ℕ) → AreBytes bytes → width ≤ 2 → number_at place width bytes < 2 ^ 16
port_fits place width bytes are few = lt_of_lt_of_le (number_below place width bytes are) (pow-le-pow_right {n = 256} (omega arith) {i = width} {j = 2} few)

no_port : (place width : ℕ) (bytes : List ℕ) → AreBytes bytes → width ≡ 0 → number_at place width bytes ≡ 0
no_port place width bytes are e = let h = subst (λ w. number_at place width bytes < 256 ^ w) e (number_below place width bytes are) in omega (arith, h)

-- and its ports, which are 0 where there are none
ports_fit : (k : Key) (packet : List ℕ) → AreBytes packet → (k.dl_type == ip_type) ≡ true → transport_valid (with_packet k packet) ≡ true
ports_fit k packet are ip =
    let w = width_in packet in
    let s = segment packet in
    let bytes = behind (header_length packet) packet are in
    let few = width_least (is_fragment packet) (number_at 9 1 packet) in
    let src = lt-ltb (number_at 0 w s) (2 ^ 16) (port_fits 0 w s bytes few) in
    let dst = lt-ltb (number_at w w s) (2 ^ 16) (port_fits w w s bytes few) in
    both_true (both_true src dst)
    (⊎_elim (λ has. or_left _ _ (both_true ip has)) (λ e. or_right _ _ (both_true (eq-eqb (number_at 0 w s) 0 (no_port 0 w s bytes e)) (eq-eqb (number_at w w s) 0 (no_port w w s bytes e))))
    (has_or_none (is_fragment packet) (number_at 9 1 packet)))

abbrev IsValidIfOk : Result Key Malformed → Type 0
IsValidIfOk r = IfOk r (λ k. valid_key k ≡ true)

-- a key with an IP header
ip_key_valid : (k : Key) (packet : List ℕ) → LinkFits k → AreBytes packet → (k.dl_type == ip_type) ≡ true → IsValidIfOk (ip_key k packet)
ip_key_valid k packet fits are ip =
    cond_both (not (has_header packet)) _ _ IsValidIfOk (λ h. tt)
    (λ h. cond_both (nat_lt (length (segment packet)) (2 * width_in packet)) _ _ IsValidIfOk (λ h. tt) (λ h. both_true (both_true (link_fits k fits) (net_fits k packet are ip)) (ports_fit k packet are ip)))

key_if_ok : (port : ℕ) (frame : List ℕ) → port < 2 ^ 16 → AreBytes frame → IsValidIfOk (key_of port frame)
key_if_ok port frame small are =
    cond_both (nat_lt (length frame) 14) _ _ IsValidIfOk (λ h. tt)
    (λ h. cond_both (is_tagged frame && nat_lt (length frame) 18) _ _ IsValidIfOk (λ h. tt)
    (λ h. cond_both (dl_type_of frame == ip_type) _ _ IsValidIfOk (λ ip. ip_key_valid (link_key port frame) (packet_in frame) (link_key_fits port frame small are) packet ip)
    (λ h. link_key_valid port frame small are)))
  where
    packet : AreBytes (packet_in frame)
    packet = let rest = behind (type_place frame + 2) frame are in cond_both (has_snap frame) _ _ AreBytes (λ h. behind 8 (payload frame) rest) (λ h. rest)

-- the key of a frame is valid
pub key_valid : (port : ℕ) (frame : List ℕ) (k : Key) → port < 2 ^ 16 → AreBytes frame → key_of port frame ≡ Ok k → valid_key k ≡ true
key_valid port frame k small are e = subst IsValidIfOk e (key_if_ok port frame small are)
