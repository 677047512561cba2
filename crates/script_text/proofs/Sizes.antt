-- How many bytes a frame has that a line brings.
use Rattle.std.proofs.Common.{ℕ, ◌+◌, ◌≤◌, true, false, cond, List, [], ◌∷◌, ◌++◌, length, ap, arith, length-append}
use Rattle.std.specs.Prelude.{◌==◌, codes}
use Rattle.maple_base.specs.declared.key.Key.{Key}
use Rattle.maple_base.specs.NetworkOrder.{number}
use Rattle.maple_base.specs.Assigned.{ip_type, tag_type, no_vlan, icmp_protocol, tcp_protocol, udp_protocol}
use Rattle.script_text.specs.declared.command.Command.{Command}
use Rattle.script_text.specs.declared.command.Command.TheVariants.{Frame}
use Rattle.script_text.specs.Frames.{addresses, tag, tcp, udp, icmp, segment, ip_header, ip_packet, frame}
use Rattle.script_text.specs.Grammar.{IsLine, FrameLine, most_bytes}
use Rattle.script_text.specs.Spelling.{ArePairs, NoPair, Pair}
use Rattle.script_text.specs.Steps.{IsShort}

tag_short : (k : Key) → length (tag k) ≤ 4
unfolding tag
tag_short k = elim (k.dl_vlan == no_vlan) as (λ b. length (cond b [] (number 2 tag_type ++ number 2 k.dl_vlan)) ≤ 4) [ true ↦ omega arith | false ↦ omega arith ]

segment_short : (k : Key) → length (segment k) ≤ 20
unfolding segment
segment_short k =
    elim (k.nw_proto == tcp_protocol) as (λ a. length (cond a (tcp k) (cond (k.nw_proto == udp_protocol) (udp k) (cond (k.nw_proto == icmp_protocol) (icmp k) []))) ≤ 20) [
      | true ↦ omega arith
      | false ↦ elim (k.nw_proto == udp_protocol) as (λ a. length (cond a (udp k) (cond (k.nw_proto == icmp_protocol) (icmp k) [])) ≤ 20) [
        | true ↦ omega arith
        | false ↦ elim (k.nw_proto == icmp_protocol) as (λ a. length (cond a (icmp k) []) ≤ 20) [ true ↦ omega arith | false ↦ omega arith ]
      ]
    ]

packet_short : (k : Key) → length (ip_packet k) ≤ 40
unfolding ip_packet ip_header
packet_short k =
    elim (k.dl_type == ip_type) as (λ b. length (cond b (ip_header k (20 + length (segment k)) ++ segment k) []) ≤ 40) [
      | true ↦ omega (arith, segment_short k, length-append (ip_header k (20 + length (segment k))) (segment k))
      | false ↦ omega arith
    ]

-- a packet's frame has 58 bytes at most
pub frame_short : (k : Key) → length (frame k) ≤ 58
unfolding addresses
frame_short k =
    omega (
      arith,
      length-append (addresses k ++ tag k ++ number 2 k.dl_type) (ip_packet k),
      length-append (addresses k ++ tag k) (number 2 k.dl_type),
      length-append (addresses k) (tag k),
      tag_short k,
      packet_short k,
    )

pairs_short : {digits bytes : List ℕ} → ArePairs digits bytes → length bytes ≤ length digits
pairs_short NoPair = omega arith
pairs_short (Pair a b pairs) = let h = pairs_short pairs in omega arith

-- a frame line has more bytes than its frame
pub bytes_short : (line : List ℕ) (device port : ℕ) (bytes : List ℕ) → IsLine line (Frame device port bytes) → length bytes ≤ length line
bytes_short line device port bytes (FrameLine {c} {p} {digits} words n m pairs some) =
    let h = pairs_short pairs in
    let e = ap length words.joined in
    omega (
      arith,
      h,
      e,
      length-append (codes "frame") (32 ∷ (c ++ (32 ∷ (p ++ (32 ∷ digits))))),
      length-append c (32 ∷ (p ++ (32 ∷ digits))),
      length-append p (32 ∷ digits),
    )

pub short_of : (line : List ℕ) (command : Command) → length line ≤ most_bytes → IsLine line command → IsShort command
short_of line (Frame device port bytes) h says = let s = bytes_short line device port bytes says in omega arith
short_of line command h says = tt
