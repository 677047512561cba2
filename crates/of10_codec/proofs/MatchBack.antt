-- A match that was written is read back.
use Rattle.std.proofs.Common.{◌≡◌, ℕ, ◌+◌, ◌*◌, ◌/◌, ◌%◌, ◌^◌, ◌<◌, ◌≤◌, true, List, ◌++◌, refl, sym, ap, ◌∙◌, arith}
use Rattle.std.specs.Prelude.{Option, Some, None, ◌==◌}
use Rattle.std.proofs.lemmas.Bool.{ltb-true, and_parts}
use Rattle.std.proofs.lemmas.Nat.{div-mul-add}
use Rattle.std.proofs.Math.Nat.{one-le-pow}
use Rattle.std.specs.Int.{bit_at, bytes_high_first}
use Rattle.std.specs.Slice.Scan.{big_endian}
use Rattle.maple_base.specs.declared.key.Match.{Match}
use Rattle.maple_base.specs.NetworkOrder.{number_at}
use Rattle.of10_codec.specs.Written.{wild, wildcards, value_or_zero, written_match, match_fits_fields, is_address}
use Rattle.of10_codec.specs.Laws.{fixed_has_bits, match_has_bits}
use Rattle.of10_codec.specs.Matches.{SpellsMatch, unless, is_whole, is_all}
use Rattle.maple_base.proofs.NumberBack.{number_back}

-- 1 where a number is not fixed
abbrev pub flag : Option ℕ → ℕ
flag None = 1
flag (Some v) = 0

flag_small : (o : Option ℕ) → flag o ≤ 1
flag_small None = omega arith
flag_small (Some v) = omega arith

wild_flag : (worth : ℕ) (o : Option ℕ) → wild worth o ≡ worth * flag o
wild_flag worth None = omega arith
wild_flag worth (Some v) = omega arith

-- a bit between what is above and what is below
bit_is : (n low a high unit : ℕ) → n ≡ (a + 2 * high) * unit + low → low < unit → a ≤ 1 → n / unit % 2 ≡ a
bit_is n low a high unit e below small =
    let front : n / unit ≡ a + 2 * high = ap (λ x. x / unit) e ∙ div-mul-add (a + 2 * high) unit low below in
    rw front (omega arith)

-- six bits between what is above and what is below
six_is : (n low a high unit : ℕ) → n ≡ (32 * a + 64 * high) * unit + low → low < unit → a ≤ 1 → n / unit % 64 ≡ 32 * a
six_is n low a high unit e below small =
    let front : n / unit ≡ 32 * a + 64 * high = ap (λ x. x / unit) e ∙ div-mul-add (32 * a + 64 * high) unit low below in
    rw front (omega arith)

-- the wildcards by their bits
pub record Wilds (m : Match) : Type 0 where
  pub whole : wildcards m < 256 ^ 4
  pub in_port : bit_at (wildcards m) 0 ≡ flag m.in_port
  pub dl_vlan : bit_at (wildcards m) 1 ≡ flag m.dl_vlan
  pub dl_src : bit_at (wildcards m) 2 ≡ flag m.dl_src
  pub dl_dst : bit_at (wildcards m) 3 ≡ flag m.dl_dst
  pub dl_type : bit_at (wildcards m) 4 ≡ flag m.dl_type
  pub nw_proto : bit_at (wildcards m) 5 ≡ flag m.nw_proto
  pub tp_src : bit_at (wildcards m) 6 ≡ flag m.tp_src
  pub tp_dst : bit_at (wildcards m) 7 ≡ flag m.tp_dst
  pub nw_src : wildcards m / 2 ^ 8 % 2 ^ 6 ≡ 32 * flag m.nw_src
  pub nw_dst : wildcards m / 2 ^ 14 % 2 ^ 6 ≡ 32 * flag m.nw_dst
  pub dl_pcp : bit_at (wildcards m) 20 ≡ flag m.dl_pcp
  pub nw_tos : bit_at (wildcards m) 21 ≡ flag m.nw_tos

pub wilds : (m : Match) → Wilds m
wilds m =
    let n = wildcards m in
    let a = flag m.in_port in
    let b = flag m.dl_vlan in
    let c = flag m.dl_src in
    let d = flag m.dl_dst in
    let e = flag m.dl_type in
    let f = flag m.nw_proto in
    let g = flag m.tp_src in
    let h = flag m.tp_dst in
    let s = flag m.nw_src in
    let t = flag m.nw_dst in
    let p = flag m.dl_pcp in
    let q = flag m.nw_tos in
    let a_one = flag_small m.in_port in
    let b_one = flag_small m.dl_vlan in
    let c_one = flag_small m.dl_src in
    let d_one = flag_small m.dl_dst in
    let e_one = flag_small m.dl_type in
    let f_one = flag_small m.nw_proto in
    let g_one = flag_small m.tp_src in
    let h_one = flag_small m.tp_dst in
    let s_one = flag_small m.nw_src in
    let t_one = flag_small m.nw_dst in
    let p_one = flag_small m.dl_pcp in
    let q_one = flag_small m.nw_tos in
    let sum : n ≡ a + 2 * b + 4 * c + 8 * d + 16 * e + 32 * f + 64 * g + 128 * h + 8192 * s + 524288 * t + 1048576 * p + 2097152 * q =
    rw (
      wild_flag 1 m.in_port,
      wild_flag 2 m.dl_vlan,
      wild_flag 4 m.dl_src,
      wild_flag 8 m.dl_dst,
      wild_flag 16 m.dl_type,
      wild_flag 32 m.nw_proto,
      wild_flag 64 m.tp_src,
      wild_flag 128 m.tp_dst,
      wild_flag 8192 m.nw_src,
      wild_flag 524288 m.nw_dst,
      wild_flag 1048576 m.dl_pcp,
      wild_flag 2097152 m.nw_tos,
    ) (omega arith) in
    record {
      whole = omega arith;
      in_port = bit_is n 0 a (b + 2 * c + 4 * d + 8 * e + 16 * f + 32 * g + 64 * h + 4096 * s + 262144 * t + 524288 * p + 1048576 * q) 1 (omega arith) (omega arith) a_one;
      dl_vlan = bit_is n a b (c + 2 * d + 4 * e + 8 * f + 16 * g + 32 * h + 2048 * s + 131072 * t + 262144 * p + 524288 * q) 2 (omega arith) (omega arith) b_one;
      dl_src = bit_is n (a + 2 * b) c (d + 2 * e + 4 * f + 8 * g + 16 * h + 1024 * s + 65536 * t + 131072 * p + 262144 * q) 4 (omega arith) (omega arith) c_one;
      dl_dst = bit_is n (a + 2 * b + 4 * c) d (e + 2 * f + 4 * g + 8 * h + 512 * s + 32768 * t + 65536 * p + 131072 * q) 8 (omega arith) (omega arith) d_one;
      dl_type = bit_is n (a + 2 * b + 4 * c + 8 * d) e (f + 2 * g + 4 * h + 256 * s + 16384 * t + 32768 * p + 65536 * q) 16 (omega arith) (omega arith) e_one;
      nw_proto = bit_is n (a + 2 * b + 4 * c + 8 * d + 16 * e) f (g + 2 * h + 128 * s + 8192 * t + 16384 * p + 32768 * q) 32 (omega arith) (omega arith) f_one;
      tp_src = bit_is n (a + 2 * b + 4 * c + 8 * d + 16 * e + 32 * f) g (h + 64 * s + 4096 * t + 8192 * p + 16384 * q) 64 (omega arith) (omega arith) g_one;
      tp_dst = bit_is n (a + 2 * b + 4 * c + 8 * d + 16 * e + 32 * f + 64 * g) h (32 * s + 2048 * t + 4096 * p + 8192 * q) 128 (omega arith) (omega arith) h_one;
      nw_src = six_is n (a + 2 * b + 4 * c + 8 * d + 16 * e + 32 * f + 64 * g + 128 * h) s (32 * t + 64 * p + 128 * q) 256 (omega arith) (omega arith) s_one;
      nw_dst = six_is n (a + 2 * b + 4 * c + 8 * d + 16 * e + 32 * f + 64 * g + 128 * h + 8192 * s) t (p + 2 * q) 16384 (omega arith) (omega arith) t_one;
      dl_pcp = bit_is n (a + 2 * b + 4 * c + 8 * d + 16 * e + 32 * f + 64 * g + 128 * h + 8192 * s + 524288 * t) p q 1048576 (omega arith) (omega arith) p_one;
      nw_tos = bit_is n (a + 2 * b + 4 * c + 8 * d + 16 * e + 32 * f + 64 * g + 128 * h + 8192 * s + 524288 * t + 1048576 * p) q 0 2097152 (omega arith) (omega arith) q_one;
    }

-- the number under so many bits
value_small : (bits : ℕ) (o : Option ℕ) → fixed_has_bits bits o ≡ true → value_or_zero o < 2 ^ bits
value_small bits None fits = let some = one-le-pow bits 2 (omega arith) in omega arith
value_small bits (Some v) fits = ltb-true v (2 ^ bits) fits

address_small : (o : Option ℕ) → is_address o ≡ true → value_or_zero o < 256 ^ 6
address_small None fits = omega arith
address_small (Some v) fits = ltb-true v (2 ^ 48) fits

-- a number or a wildcard is read back
fixed_back : (width bit : ℕ) (o : Option ℕ) → bit ≡ flag o → value_or_zero o < 256 ^ width → o ≡ unless (bit == 1) (big_endian 0 (bytes_high_first width (value_or_zero o)))
fixed_back width bit None e small = rw e refl
fixed_back width bit (Some v) e small = rw e (ap Some (sym (number_back width v small)))

-- an address or a wildcard of all its bits is read back
net_back : (width six : ℕ) (o : Option ℕ) → six ≡ 32 * flag o → value_or_zero o < 256 ^ width → o ≡ unless (is_all six) (big_endian 0 (bytes_high_first width (value_or_zero o)))
net_back width six None e small = rw e refl
net_back width six (Some v) e small = rw e (ap Some (sym (number_back width v small)))

six_whole : (six : ℕ) (o : Option ℕ) → six ≡ 32 * flag o → is_whole six ≡ true
six_whole six None e = rw e refl
six_whole six (Some v) e = rw e refl

-- a match that was written, with anything behind it, is spelled
pub match_back : (m : Match) (rest : List ℕ) → match_has_bits m ≡ true → match_fits_fields m ≡ true → SpellsMatch m (written_match m ++ rest)
match_back m rest bits fits =
    let w = wilds m in
    let n : number_at 0 4 (written_match m ++ rest) ≡ wildcards m = number_back 4 (wildcards m) w.whole in
    let addresses = and_parts (is_address m.dl_src) (is_address m.dl_dst) fits in
    let b1 = and_parts _ (fixed_has_bits 16 m.tp_dst) bits in
    let b2 = and_parts _ (fixed_has_bits 16 m.tp_src) b1.0 in
    let b3 = and_parts _ (fixed_has_bits 32 m.nw_dst) b2.0 in
    let b4 = and_parts _ (fixed_has_bits 32 m.nw_src) b3.0 in
    let b5 = and_parts _ (fixed_has_bits 8 m.nw_proto) b4.0 in
    let b6 = and_parts _ (fixed_has_bits 8 m.nw_tos) b5.0 in
    let b7 = and_parts _ (fixed_has_bits 16 m.dl_type) b6.0 in
    let b8 = and_parts _ (fixed_has_bits 8 m.dl_pcp) b7.0 in
    let b9 = and_parts (fixed_has_bits 16 m.in_port) (fixed_has_bits 16 m.dl_vlan) b8.0 in
    record {
      in_port = fixed_back 2 _ m.in_port (ap (λ x. bit_at x 0) n ∙ w.in_port) (value_small 16 m.in_port b9.0);
      dl_src = fixed_back 6 _ m.dl_src (ap (λ x. bit_at x 2) n ∙ w.dl_src) (address_small m.dl_src addresses.0);
      dl_dst = fixed_back 6 _ m.dl_dst (ap (λ x. bit_at x 3) n ∙ w.dl_dst) (address_small m.dl_dst addresses.1);
      dl_vlan = fixed_back 2 _ m.dl_vlan (ap (λ x. bit_at x 1) n ∙ w.dl_vlan) (value_small 16 m.dl_vlan b9.1);
      dl_pcp = fixed_back 1 _ m.dl_pcp (ap (λ x. bit_at x 20) n ∙ w.dl_pcp) (value_small 8 m.dl_pcp b8.1);
      dl_type = fixed_back 2 _ m.dl_type (ap (λ x. bit_at x 4) n ∙ w.dl_type) (value_small 16 m.dl_type b7.1);
      nw_tos = fixed_back 1 _ m.nw_tos (ap (λ x. bit_at x 21) n ∙ w.nw_tos) (value_small 8 m.nw_tos b6.1);
      nw_proto = fixed_back 1 _ m.nw_proto (ap (λ x. bit_at x 5) n ∙ w.nw_proto) (value_small 8 m.nw_proto b5.1);
      whole_src = six_whole _ m.nw_src (ap (λ x. x / 2 ^ 8 % 2 ^ 6) n ∙ w.nw_src);
      nw_src = net_back 4 _ m.nw_src (ap (λ x. x / 2 ^ 8 % 2 ^ 6) n ∙ w.nw_src) (value_small 32 m.nw_src b4.1);
      whole_dst = six_whole _ m.nw_dst (ap (λ x. x / 2 ^ 14 % 2 ^ 6) n ∙ w.nw_dst);
      nw_dst = net_back 4 _ m.nw_dst (ap (λ x. x / 2 ^ 14 % 2 ^ 6) n ∙ w.nw_dst) (value_small 32 m.nw_dst b3.1);
      tp_src = fixed_back 2 _ m.tp_src (ap (λ x. bit_at x 6) n ∙ w.tp_src) (value_small 16 m.tp_src b2.1);
      tp_dst = fixed_back 2 _ m.tp_dst (ap (λ x. bit_at x 7) n ∙ w.tp_dst) (value_small 16 m.tp_dst b1.1);
    }
