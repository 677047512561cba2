-- The numbers of both headers stand at their places in the frame.
use Rattle.std.proofs.Common.{◌≡◌, ◌%◌, ◌/◌, ◌^◌, ◌∙◌, cond, nat_eq, drop, arith}
use Rattle.std.proofs.lemmas.Grind.{common_steps}
use Rattle.maple_base.specs.NetworkOrder.{number_at}
use Rattle.packet_key.specs.Readings.{type_in, behind_snap}
use Rattle.packet_key.proofs.Places.{behind_tag}
use Rattle.packet_key.proofs.link.link.Goals as goal

pub returns-clause-key : goal.returns-clause-key
returns-clause-key c =
    let frame = c.args.frame.now in
    let header = c.in_ok-header.header in
    let vlan = c.in_ok-vlan.vlan in
    let dst : header.dst ≡ number_at 0 6 frame = grind (arith, common_steps) in
    let src : header.src ≡ number_at 6 6 frame = grind (arith, common_steps) in
    let first : header.type_or_length ≡ number_at 12 2 frame = grind (arith, common_steps) in
    let rest : header.rest.now ≡ drop 14 frame = grind (arith, common_steps) in
    let id : vlan.id ≡ cond (nat_eq header.type_or_length 0x8100) (number_at 0 2 header.rest.now % 2 ^ 12) 0xffff = grind (arith, common_steps) in
    let priority : vlan.priority ≡ cond (nat_eq header.type_or_length 0x8100) (number_at 0 2 header.rest.now / 2 ^ 13) 0 = grind (arith, common_steps) in
    let second : vlan.type_or_length ≡ cond (nat_eq header.type_or_length 0x8100) (number_at 2 2 header.rest.now) header.type_or_length = grind (arith, common_steps) in
    let behind : vlan.payload.now ≡ cond (nat_eq header.type_or_length 0x8100) (drop 4 header.rest.now) header.rest.now = grind (arith, common_steps) in
    let both = behind_tag frame first rest second behind in
    let id_at = rw (first, rest) at id in
    let priority_at = rw (first, rest) at priority in
    let dl_type = c.typed-dl_type.ensures.dl_type ∙ (λ i. type_in (both.0 i) (both.1 i)) in
    λ i. record { in_port = c.args.in_port; dl_src = src i; dl_dst = dst i; dl_vlan = id_at i; dl_pcp = priority_at i; dl_type = dl_type i; nw_tos = 0; nw_proto = 0; nw_src = 0; nw_dst = 0; tp_src = 0; tp_dst = 0 }

pub returns-clause-packet : goal.returns-clause-packet
returns-clause-packet c =
    let frame = c.args.frame.now in
    let header = c.in_ok-header.header in
    let vlan = c.in_ok-vlan.vlan in
    let first : header.type_or_length ≡ number_at 12 2 frame = grind (arith, common_steps) in
    let rest : header.rest.now ≡ drop 14 frame = grind (arith, common_steps) in
    let second : vlan.type_or_length ≡ cond (nat_eq header.type_or_length 0x8100) (number_at 2 2 header.rest.now) header.type_or_length = grind (arith, common_steps) in
    let behind : vlan.payload.now ≡ cond (nat_eq header.type_or_length 0x8100) (drop 4 header.rest.now) header.rest.now = grind (arith, common_steps) in
    let both = behind_tag frame first rest second behind in
    c.typed-dl_type.ensures.packet ∙ (λ i. behind_snap (both.0 i) (both.1 i))
