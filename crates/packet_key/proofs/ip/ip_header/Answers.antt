-- The parts that the key names, read behind the parts ahead of them.
use Rattle.std.proofs.Common.{ℕ, ◌%◌, ◌^◌, ◌∙◌, nat_eq, not, ap}
use Rattle.std.proofs.lemmas.Nat.{and_mask}
use Rattle.packet_key.proofs.Places.{ip_places}
use Rattle.packet_key.proofs.ip.ip_header.Goals as goal

pub returns-clause-fragment : goal.returns-clause-fragment
returns-clause-fragment c =
    let places = ip_places c.in_ok-version_and_length.ensures c.in_ok-tos.ensures c.in_ok-_total_length.ensures c.in_ok-_identification.ensures c.in_ok-flags_and_offset.ensures
    c.in_ok-_time_to_live.ensures c.in_ok-proto.ensures c.in_ok-_checksum.ensures c.in_ok-src.ensures c.in_ok-dst.ensures in
    ap (λ (flags : ℕ). not (nat_eq flags 0)) (and_mask c.in_ok-flags_and_offset.flags_and_offset 14 ∙ ap (λ (flags : ℕ). flags % 2 ^ 14) places.0)

pub returns-clause-proto : goal.returns-clause-proto
returns-clause-proto c =
    let places = ip_places c.in_ok-version_and_length.ensures c.in_ok-tos.ensures c.in_ok-_total_length.ensures c.in_ok-_identification.ensures c.in_ok-flags_and_offset.ensures
    c.in_ok-_time_to_live.ensures c.in_ok-proto.ensures c.in_ok-_checksum.ensures c.in_ok-src.ensures c.in_ok-dst.ensures in
    places.1

pub returns-clause-src : goal.returns-clause-src
returns-clause-src c =
    let places = ip_places c.in_ok-version_and_length.ensures c.in_ok-tos.ensures c.in_ok-_total_length.ensures c.in_ok-_identification.ensures c.in_ok-flags_and_offset.ensures
    c.in_ok-_time_to_live.ensures c.in_ok-proto.ensures c.in_ok-_checksum.ensures c.in_ok-src.ensures c.in_ok-dst.ensures in
    places.2

pub returns-clause-dst : goal.returns-clause-dst
returns-clause-dst c =
    let places = ip_places c.in_ok-version_and_length.ensures c.in_ok-tos.ensures c.in_ok-_total_length.ensures c.in_ok-_identification.ensures c.in_ok-flags_and_offset.ensures
    c.in_ok-_time_to_live.ensures c.in_ok-proto.ensures c.in_ok-_checksum.ensures c.in_ok-src.ensures c.in_ok-dst.ensures in
    places.3
