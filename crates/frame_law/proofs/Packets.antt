-- An IP packet, read back.
use Rattle.std.proofs.Common.{◌≡◌, ℕ, ◌*◌, ◌/◌, ◌≤◌, true, false, cond, List, ◌++◌, length, refl, ap, ◌∙◌, arith, Ok, Err}
use Rattle.std.specs.Prelude.{◌&&◌, not, nat_lt, nat_le}
use Rattle.std.proofs.lemmas.Bool.Decides.{nat_tests}
use Rattle.maple_base.specs.declared.key.Key.{Key}
use Rattle.maple_base.specs.NetworkOrder.{number_at}
use Rattle.packet_key.specs.declared.malformed.Malformed.TheVariants.{Ip, Transport}
use Rattle.packet_key.specs.Frames.{has_header, port_width, width_in, segment as segment_in, with_packet, ip_key}
use Rattle.script_text.specs.Frames.{ip_header}
use Rattle.frame_law.proofs.Facts.{NetFacts}
use Rattle.maple_base.proofs.NumberBack.{number_back}
use Rattle.frame_law.proofs.Opening.{link_part, not_short}

abbrev with_ip : Key → ℕ → ℕ → ℕ → ℕ → ℕ → ℕ → Key
with_ip l tos proto src dst tp_src tp_dst = record l { nw_tos = tos; nw_proto = proto; nw_src = src; nw_dst = dst; tp_src = tp_src; tp_dst = tp_dst }

ip_same : (l : Key) (t t' p p' s s' d d' a a' b b' : ℕ) → t ≡ t' → p ≡ p' → s ≡ s' → d ≡ d' → a ≡ a' → b ≡ b' → with_ip l t p s d a b ≡ with_ip l t' p' s' d' a' b'
ip_same l t t' p p' s s' d d' a a' b b' e f g h i j = rw (e, f, g, h, i, j) refl

at_least : (n m : ℕ) → m ≤ n → nat_le m n ≡ true
at_least n m h = grind (arith, nat_tests)

-- a packet with ports of w bytes each
pub ip_back : (k : Key) (total w : ℕ) (segment : List ℕ) → NetFacts k → port_width k.nw_proto ≡ w → 2 * w ≤ length segment → number_at 0 w segment ≡ k.tp_src → number_at w w segment ≡ k.tp_dst
    → ip_key (link_part k) (ip_header k total ++ segment) ≡ Ok k
unfolding ip_header
ip_back k total w segment f width long src dst =
    let packet : List ℕ = ip_header k total ++ segment in
    let proto : number_at 9 1 packet ≡ k.nw_proto = number_back 1 k.nw_proto f.proto in
    let wide : width_in packet ≡ w = ap port_width proto ∙ width in
    let some : nat_le 20 (length packet) ≡ true = at_least (length packet) 20 (omega arith) in
    let head : has_header packet ≡ true = ap (λ t. t && true && true && t) some in
    let room : nat_lt (length (segment_in packet)) (2 * width_in packet) ≡ false = ap (λ n. nat_lt (length segment) (2 * n)) wide ∙ not_short (length segment) (2 * w) long in
    let tos : 4 * (number_at 1 1 packet / 4) ≡ k.nw_tos = ap (λ n. 4 * (n / 4)) (number_back 1 k.nw_tos f.tos) ∙ omega (arith, f.even) in
    let key : with_packet (link_part k) packet ≡ k =
    ip_same (link_part k) (4 * (number_at 1 1 packet / 4)) k.nw_tos (number_at 9 1 packet) k.nw_proto (number_at 12 4 packet) k.nw_src (number_at 16 4 packet) k.nw_dst
    (number_at 0 (width_in packet) (segment_in packet)) k.tp_src (number_at (width_in packet) (width_in packet) (segment_in packet)) k.tp_dst tos proto
    (number_back 4 k.nw_src f.src) (number_back 4 k.nw_dst f.dst) (ap (λ n. number_at 0 n segment) wide ∙ src) (ap (λ n. number_at n n segment) wide ∙ dst) in
    ap (λ t. cond (not t) (Err Ip) (cond (nat_lt (length (segment_in packet)) (2 * width_in packet)) (Err Transport) (Ok (with_packet (link_part k) packet)))) head
    ∙ ap (λ t. cond t (Err Transport) (Ok (with_packet (link_part k) packet))) room
    ∙ ap Ok key
