-- The 40 bytes of a match (OpenFlow Switch Specification 1.0.0, 5.2.3, ofp_match). A number that is wildcarded is not fixed, whatever its bytes are.
use Rattle.std.specs.Prelude.{◌≡◌, ℕ, ◌^◌, ◌/◌, ◌%◌, Bool, true, false, ◌||◌, ◌==◌, nat_le, List, Option, Some, None}
use Rattle.std.specs.Int.{bit_at}
use Rattle.maple_base.specs.declared.key.Match.{Match}
use Rattle.maple_base.specs.NetworkOrder.{number_at}

-- the bits of the wildcards (ofp_flow_wildcards); of an address the lowest of six, which count how many of its low bits are wildcarded
abbrev pub in_port_bit : ℕ
in_port_bit = 0

abbrev pub dl_vlan_bit : ℕ
dl_vlan_bit = 1

abbrev pub dl_src_bit : ℕ
dl_src_bit = 2

abbrev pub dl_dst_bit : ℕ
dl_dst_bit = 3

abbrev pub dl_type_bit : ℕ
dl_type_bit = 4

abbrev pub nw_proto_bit : ℕ
nw_proto_bit = 5

abbrev pub tp_src_bit : ℕ
tp_src_bit = 6

abbrev pub tp_dst_bit : ℕ
tp_dst_bit = 7

abbrev pub nw_src_bit : ℕ
nw_src_bit = 8

abbrev pub nw_dst_bit : ℕ
nw_dst_bit = 14

abbrev pub dl_pcp_bit : ℕ
dl_pcp_bit = 20

abbrev pub nw_tos_bit : ℕ
nw_tos_bit = 21

-- the number, unless it is wildcarded
abbrev pub unless : Bool → ℕ → Option ℕ
unless true v = None
unless false v = Some v

-- this bit of the wildcards is set
abbrev pub is_wild : ℕ → List ℕ → Bool
is_wild bit b = bit_at (number_at 0 4 b) bit == 1

-- how many low bits of an address are wildcarded: six bits of the wildcards from this one on
abbrev pub wild_bits : ℕ → List ℕ → ℕ
wild_bits bit b = number_at 0 4 b / 2 ^ bit % 2 ^ 6

-- 32 bits or more are the whole address
abbrev pub is_all : ℕ → Bool
is_all n = nat_le 32 n

-- an address is wildcarded whole or not at all
abbrev pub is_whole : ℕ → Bool
is_whole n = n == 0 || is_all n

-- these bytes begin with a spelling of the match
pub record SpellsMatch (m : Match) (b : List ℕ) : Type 0 where
  pub in_port : m.in_port ≡ unless (is_wild in_port_bit b) (number_at 4 2 b)
  pub dl_src : m.dl_src ≡ unless (is_wild dl_src_bit b) (number_at 6 6 b)
  pub dl_dst : m.dl_dst ≡ unless (is_wild dl_dst_bit b) (number_at 12 6 b)
  pub dl_vlan : m.dl_vlan ≡ unless (is_wild dl_vlan_bit b) (number_at 18 2 b)
  pub dl_pcp : m.dl_pcp ≡ unless (is_wild dl_pcp_bit b) (number_at 20 1 b)
  pub dl_type : m.dl_type ≡ unless (is_wild dl_type_bit b) (number_at 22 2 b)
  pub nw_tos : m.nw_tos ≡ unless (is_wild nw_tos_bit b) (number_at 24 1 b)
  pub nw_proto : m.nw_proto ≡ unless (is_wild nw_proto_bit b) (number_at 25 1 b)
  pub whole_src : is_whole (wild_bits nw_src_bit b) ≡ true
  pub nw_src : m.nw_src ≡ unless (is_all (wild_bits nw_src_bit b)) (number_at 28 4 b)
  pub whole_dst : is_whole (wild_bits nw_dst_bit b) ≡ true
  pub nw_dst : m.nw_dst ≡ unless (is_all (wild_bits nw_dst_bit b)) (number_at 32 4 b)
  pub tp_src : m.tp_src ≡ unless (is_wild tp_src_bit b) (number_at 36 2 b)
  pub tp_dst : m.tp_dst ≡ unless (is_wild tp_dst_bit b) (number_at 38 2 b)
