use Rattle.std.proofs.Common.{◌≡◌, refl}
use Rattle.of10_codec.specs.Written.{wild}
use Rattle.of10_codec.proofs.Wild.{wild_by_test}
use Rattle.of10_codec.proofs.encoding.matches.wildcards.Goals as goal

pub returns : goal.returns
returns c =
    let of = c.args.of.now in
    let in_port : c.bits_if.result ≡ wild 1 of.in_port = wild_by_test 1 of.in_port _ _ c.is_none.ensures c.bits_if.ensures.value in
    let dl_vlan : c.bits_if-2.result ≡ wild 2 of.dl_vlan = wild_by_test 2 of.dl_vlan _ _ c.is_none-2.ensures c.bits_if-2.ensures.value in
    let dl_src : c.bits_if-3.result ≡ wild 4 of.dl_src = wild_by_test 4 of.dl_src _ _ c.is_none-3.ensures c.bits_if-3.ensures.value in
    let dl_dst : c.bits_if-4.result ≡ wild 8 of.dl_dst = wild_by_test 8 of.dl_dst _ _ c.is_none-4.ensures c.bits_if-4.ensures.value in
    let dl_type : c.bits_if-5.result ≡ wild 16 of.dl_type = wild_by_test 16 of.dl_type _ _ c.is_none-5.ensures c.bits_if-5.ensures.value in
    let nw_proto : c.bits_if-6.result ≡ wild 32 of.nw_proto = wild_by_test 32 of.nw_proto _ _ c.is_none-6.ensures c.bits_if-6.ensures.value in
    let tp_src : c.bits_if-7.result ≡ wild 64 of.tp_src = wild_by_test 64 of.tp_src _ _ c.is_none-7.ensures c.bits_if-7.ensures.value in
    let tp_dst : c.bits_if-8.result ≡ wild 128 of.tp_dst = wild_by_test 128 of.tp_dst _ _ c.is_none-8.ensures c.bits_if-8.ensures.value in
    let nw_src : c.bits_if-9.result ≡ wild 8192 of.nw_src = wild_by_test 8192 of.nw_src _ _ c.is_none-9.ensures c.bits_if-9.ensures.value in
    let nw_dst : c.bits_if-10.result ≡ wild 524288 of.nw_dst = wild_by_test 524288 of.nw_dst _ _ c.is_none-10.ensures c.bits_if-10.ensures.value in
    let dl_pcp : c.bits_if-11.result ≡ wild 1048576 of.dl_pcp = wild_by_test 1048576 of.dl_pcp _ _ c.is_none-11.ensures c.bits_if-11.ensures.value in
    let nw_tos : c.bits_if-12.result ≡ wild 2097152 of.nw_tos = wild_by_test 2097152 of.nw_tos _ _ c.is_none-12.ensures c.bits_if-12.ensures.value in
    rw (in_port, dl_vlan, dl_src, dl_dst, dl_type, nw_proto, tp_src, tp_dst, nw_src, nw_dst, dl_pcp, nw_tos) refl
