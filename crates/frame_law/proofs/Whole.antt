-- The key of the frame of a packet is the packet's key.
use Rattle.std.proofs.Common.{◌≡◌, ℕ, ◌+◌, Bool, true, false, cond, List, [], ◌++◌, length, refl, sym, ap, ◌∙◌, ⊎_elim, arith, Result, Ok, Err}
use Rattle.std.specs.Prelude.{◌&&◌, ◌||◌, ◌==◌, nat_lt}
use Rattle.std.proofs.lemmas.Bool.{cases_Bool}
use Rattle.std.proofs.lemmas.Bool.Decides.{nat_tests}
use Rattle.maple_base.specs.declared.key.Key.{Key}
use Rattle.packet_key.specs.declared.malformed.Malformed.{Malformed}
use Rattle.packet_key.specs.declared.malformed.Malformed.TheVariants.{Ethernet, Tag}
use Rattle.packet_key.specs.Frames.{is_tagged, dl_type_of, packet_in, link_key, ip_key, key_of}
use Rattle.maple_base.specs.NetworkOrder.{number}
use Rattle.script_text.specs.Frames.{addresses, tag, tcp, udp, icmp, segment, ip_header, ip_packet, frame}
use Rattle.script_text.specs.PacketFields.{is_packet}
use Rattle.frame_law.specs.Laws.{KeyOfFrame}
use Rattle.frame_law.proofs.Facts.{NetFacts, NoNet, link_facts, net_facts, tagged_small, icmp_small, no_ports, no_net}
use Rattle.maple_base.proofs.NumberBack.{number_back}
use Rattle.frame_law.proofs.Opening.{Opened, link_part, plain_frame, tagged_frame, opened_plain, opened_tagged}
use Rattle.frame_law.proofs.Packets.{ip_back}

pick : (a b t : Bool) (x y : Result Key Malformed) (k : Key) → a ≡ false → b ≡ false → (t ≡ true → x ≡ Ok k) → (t ≡ false → y ≡ Ok k)
    → cond a (Err Ethernet) (cond b (Err Tag) (cond t x y)) ≡ Ok k
pick true b t x y k e f g h = absurd (cc e)
pick false true t x y k e f g h = absurd (cc f)
pick false false true x y k e f g h = g refl
pick false false false x y k e f g h = h refl

whole : (k : Key) (whole_frame p : List ℕ) → Opened k whole_frame p → ((k.dl_type == 0x0800) ≡ true → ip_key (link_part k) p ≡ Ok k) → ((k.dl_type == 0x0800) ≡ false → link_part k ≡ k)
    → key_of k.in_port whole_frame ≡ Ok k
whole k f p o ip other =
    let kind : (dl_type_of f == 0x0800) ≡ (k.dl_type == 0x0800) = ap (λ n. n == 0x0800) o.kind in
    pick (nat_lt (length f) 14) (is_tagged f && nat_lt (length f) 18) (dl_type_of f == 0x0800) (ip_key (link_key k.in_port f) (packet_in f)) (Ok (link_key k.in_port f)) k o.long o.whole
    (λ (h : (dl_type_of f == 0x0800) ≡ true). ap (λ l. ip_key l (packet_in f)) o.link ∙ ap (λ q. ip_key (link_part k) q) o.rest ∙ ip (sym kind ∙ h))
    (λ (h : (dl_type_of f == 0x0800) ≡ false). ap Ok (o.link ∙ other (sym kind ∙ h)))

-- another type has no more numbers than those of the link
zeros_same : (k : Key) → NoNet k → link_part k ≡ k
zeros_same k n = sym (rw (n.tos, n.proto, n.src, n.dst, n.tp_src, n.tp_dst) refl)

tcp_back : (k : Key) (total : ℕ) → NetFacts k → (k.nw_proto == 6) ≡ true → ip_key (link_part k) (ip_header k total ++ tcp k) ≡ Ok k
tcp_back k total f e =
    ip_back k total 2 (tcp k) f (ap (λ t. cond (t || k.nw_proto == 17) 2 (cond (k.nw_proto == 1) 1 0)) e) (omega arith) (number_back 2 k.tp_src f.tp_src) (number_back 2 k.tp_dst f.tp_dst)

udp_back : (k : Key) (total : ℕ) → NetFacts k → (k.nw_proto == 6) ≡ false → (k.nw_proto == 17) ≡ true → ip_key (link_part k) (ip_header k total ++ udp k) ≡ Ok k
udp_back k total f no_tcp e =
    ip_back k total 2 (udp k) f (ap (λ t. cond (t || k.nw_proto == 17) 2 (cond (k.nw_proto == 1) 1 0)) no_tcp ∙ ap (λ t. cond t 2 (cond (k.nw_proto == 1) 1 0)) e) (omega arith)
    (number_back 2 k.tp_src f.tp_src) (number_back 2 k.tp_dst f.tp_dst)

icmp_back : (k : Key) (total : ℕ) → is_packet k ≡ true → NetFacts k → (k.nw_proto == 6) ≡ false → (k.nw_proto == 17) ≡ false → (k.nw_proto == 1) ≡ true
    → ip_key (link_part k) (ip_header k total ++ icmp k) ≡ Ok k
icmp_back k total packet f no_tcp no_udp e =
    let small = icmp_small k packet e in
    ip_back k total 1 (icmp k) f
    (ap (λ t. cond (t || k.nw_proto == 17) 2 (cond (k.nw_proto == 1) 1 0)) no_tcp ∙ ap (λ t. cond t 2 (cond (k.nw_proto == 1) 1 0)) no_udp ∙ ap (λ t. cond t 1 0) e) (omega arith)
    (number_back 1 k.tp_src small.0) (number_back 1 k.tp_dst small.1)

bare_back : (k : Key) (total : ℕ) → is_packet k ≡ true → NetFacts k → (k.nw_proto == 6) ≡ false → (k.nw_proto == 17) ≡ false → (k.nw_proto == 1) ≡ false
    → ip_key (link_part k) (ip_header k total ++ []) ≡ Ok k
bare_back k total packet f no_tcp no_udp no_icmp =
    let none = no_ports k packet no_tcp no_udp no_icmp in
    ip_back k total 0 [] f
    (ap (λ t. cond (t || k.nw_proto == 17) 2 (cond (k.nw_proto == 1) 1 0)) no_tcp ∙ ap (λ t. cond t 2 (cond (k.nw_proto == 1) 1 0)) no_udp ∙ ap (λ t. cond t 1 0) no_icmp) (omega arith)
    (sym none.0) (sym none.1)

segment_back : (k : Key) (total : ℕ) → is_packet k ≡ true → ip_key (link_part k) (ip_header k total ++ segment k) ≡ Ok k
unfolding segment
segment_back k total packet =
    let f = net_facts k packet in
    let P : List ℕ → Result Key Malformed = λ s. ip_key (link_part k) (ip_header k total ++ s) in
    ⊎_elim (λ a. ap (λ t. P (cond t (tcp k) (cond (k.nw_proto == 17) (udp k) (cond (k.nw_proto == 1) (icmp k) [])))) a ∙ tcp_back k total f a)
    (λ a. ap (λ t. P (cond t (tcp k) (cond (k.nw_proto == 17) (udp k) (cond (k.nw_proto == 1) (icmp k) [])))) a
    ∙ ⊎_elim (λ b. ap (λ t. P (cond t (udp k) (cond (k.nw_proto == 1) (icmp k) []))) b ∙ udp_back k total f a b)
    (λ b. ap (λ t. P (cond t (udp k) (cond (k.nw_proto == 1) (icmp k) []))) b
    ∙ ⊎_elim (λ c. ap (λ t. P (cond t (icmp k) [])) c ∙ icmp_back k total packet f a b c) (λ c. ap (λ t. P (cond t (icmp k) [])) c ∙ bare_back k total packet f a b c) (cases_Bool (k.nw_proto == 1)))
    (cases_Bool (k.nw_proto == 17)))
    (cases_Bool (k.nw_proto == 6))

packet_back : (k : Key) → is_packet k ≡ true → (k.dl_type == 0x0800) ≡ true → ip_key (link_part k) (ip_packet k) ≡ Ok k
unfolding ip_packet
packet_back k packet e =
    ap (λ t. ip_key (link_part k) (cond t (ip_header k (20 + length (segment k)) ++ segment k) [])) e ∙ segment_back k (20 + length (segment k)) packet

frame_plain : (k : Key) → (k.dl_vlan == 0xffff) ≡ true → frame k ≡ plain_frame k (ip_packet k)
unfolding addresses tag
frame_plain k e = ap (λ t. addresses k ++ cond t [] (number 2 0x8100 ++ number 2 k.dl_vlan) ++ number 2 k.dl_type ++ ip_packet k) e

frame_tagged : (k : Key) → (k.dl_vlan == 0xffff) ≡ false → frame k ≡ tagged_frame k (ip_packet k)
unfolding addresses tag
frame_tagged k e = ap (λ t. addresses k ++ cond t [] (number 2 0x8100 ++ number 2 k.dl_vlan) ++ number 2 k.dl_type ++ ip_packet k) e

no_vlan : (n : ℕ) → (n == 0xffff) ≡ true → n ≡ 0xffff
no_vlan n e = grind (arith, nat_tests)

pub key_of_frame : KeyOfFrame
key_of_frame k packet =
    let ends : (f : List ℕ) → Opened k f (ip_packet k) → key_of k.in_port f ≡ Ok k = λ f o. whole k f (ip_packet k) o (packet_back k packet) (λ h. zeros_same k (no_net k packet h)) in
    ⊎_elim (λ e. ap (λ f. key_of k.in_port f) (frame_plain k e) ∙ ends (plain_frame k (ip_packet k)) (opened_plain k (ip_packet k) (link_facts k packet) (no_vlan k.dl_vlan e)))
    (λ e. ap (λ f. key_of k.in_port f) (frame_tagged k e) ∙ ends (tagged_frame k (ip_packet k)) (opened_tagged k (ip_packet k) (link_facts k packet) (tagged_small k packet e)))
    (cases_Bool (k.dl_vlan == 0xffff))
