-- The headers of a frame ahead of its packet, read back.
use Rattle.std.proofs.Common.{◌≡◌, ℕ, ◌+◌, ◌/◌, ◌%◌, ◌^◌, ◌<◌, ◌≤◌, Bool, true, false, cond, List, ◌++◌, length, drop, refl, sym, ap, ◌∙◌, arith}
use Rattle.std.specs.Prelude.{◌&&◌, ◌==◌, nat_lt, nat_le}
use Rattle.std.proofs.Math.Nat.{mod-eq_of_lt}
use Rattle.std.proofs.lemmas.Bool.Decides.{nat_tests}
use Rattle.maple_base.specs.declared.key.Key.{Key}
use Rattle.packet_key.specs.Frames.{is_tagged, is_length, has_snap, type_of, payload, dl_type_of, packet_in, link_key}
use Rattle.maple_base.specs.NetworkOrder.{number, number_at}
use Rattle.frame_law.proofs.Facts.{LinkFacts}
use Rattle.maple_base.proofs.NumberBack.{number_back}

-- a key of these link numbers, with all else 0
abbrev pub linked : ℕ → ℕ → ℕ → ℕ → ℕ → ℕ → Key
linked port src dst vlan pcp kind = record {
  in_port = port;
  dl_src = src;
  dl_dst = dst;
  dl_vlan = vlan;
  dl_pcp = pcp;
  dl_type = kind;
  nw_tos = 0;
  nw_proto = 0;
  nw_src = 0;
  nw_dst = 0;
  tp_src = 0;
  tp_dst = 0;
}

abbrev pub link_part : Key → Key
link_part k = linked k.in_port k.dl_src k.dl_dst k.dl_vlan k.dl_pcp k.dl_type

link_same : (port s s' d d' v v' q q' t t' : ℕ) → s ≡ s' → d ≡ d' → v ≡ v' → q ≡ q' → t ≡ t' → linked port s d v q t ≡ linked port s' d' v' q' t'
link_same port s s' d d' v v' q q' t t' a b c e f = rw (a, b, c, e, f) refl

pub not_short : (n m : ℕ) → m ≤ n → nat_lt n m ≡ false
not_short n m h = grind (arith, nat_tests)

-- what is read of a frame whose packet is p
pub record Opened (k : Key) (frame p : List ℕ) : Type 0 where
  pub long : nat_lt (length frame) 14 ≡ false
  pub whole : (is_tagged frame && nat_lt (length frame) 18) ≡ false
  pub link : link_key k.in_port frame ≡ link_part k
  pub kind : dl_type_of frame ≡ k.dl_type
  pub rest : packet_in frame ≡ p

-- the type and the packet, where it is known whether there is a tag
record Typed (k : Key) (frame p : List ℕ) : Type 0 where
  kind : dl_type_of frame ≡ k.dl_type
  rest : packet_in frame ≡ p

typed_by : (k : Key) (frame p : List ℕ) (tagged : Bool) → LinkFacts k → is_tagged frame ≡ tagged → number_at (cond tagged 16 12) 2 frame ≡ k.dl_type → drop (cond tagged 16 12 + 2) frame ≡ p
    → Typed k frame p
typed_by k frame p tagged f tag kind rest =
    let type : type_of frame ≡ k.dl_type = ap (λ t. number_at (cond t 16 12) 2 frame) tag ∙ kind in
    let long : is_length frame ≡ false = ap (λ n. nat_lt n 0x0600) type ∙ not_short k.dl_type 0x0600 f.low in
    let snap : has_snap frame ≡ false =
    ap (λ t. t && nat_le 8 (length (payload frame)) && number_at 0 6 (payload frame) == 0xaaaa03000000 && nat_le 0x0600 (number_at 6 2 (payload frame))) long in
    let behind : payload frame ≡ p = ap (λ t. drop (cond t 16 12 + 2) frame) tag ∙ rest in
    record {
      kind = ap (λ t. cond t (number_at 6 2 (payload frame)) (cond (is_length frame) 0x05ff (type_of frame))) snap ∙ ap (λ t. cond t 0x05ff (type_of frame)) long ∙ type;
      rest = ap (λ t. cond t (drop 8 (payload frame)) (payload frame)) snap ∙ behind;
    }

abbrev pub plain_frame : Key → List ℕ → List ℕ
plain_frame k p = number 6 k.dl_dst ++ number 6 k.dl_src ++ number 2 k.dl_type ++ p

abbrev pub tagged_frame : Key → List ℕ → List ℕ
tagged_frame k p = number 6 k.dl_dst ++ number 6 k.dl_src ++ number 2 0x8100 ++ number 2 k.dl_vlan ++ number 2 k.dl_type ++ p

pub opened_plain : (k : Key) (p : List ℕ) → LinkFacts k → k.dl_vlan ≡ 0xffff → Opened k (plain_frame k p) p
opened_plain k p f vlan =
    let frame : List ℕ = plain_frame k p in
    let back : number_at 12 2 frame ≡ k.dl_type = number_back 2 k.dl_type f.high in
    let tag : is_tagged frame ≡ false = ap (λ n. n == 0x8100) back ∙ f.untagged in
    let typed : Typed k frame p = typed_by k frame p false f tag back refl in
    record {
      long = not_short (length frame) 14 (omega arith);
      whole = ap (λ t. t && nat_lt (length frame) 18) tag;
      link = link_same k.in_port (number_at 6 6 frame) k.dl_src (number_at 0 6 frame) k.dl_dst (cond (is_tagged frame) (number_at 14 2 frame % 2 ^ 12) 0xffff) k.dl_vlan
          (cond (is_tagged frame) (number_at 14 2 frame / 2 ^ 13) 0) k.dl_pcp (dl_type_of frame) k.dl_type (number_back 6 k.dl_src f.src) (number_back 6 k.dl_dst f.dst)
          (ap (λ t. cond t (number_at 14 2 frame % 2 ^ 12) 0xffff) tag ∙ sym vlan) (ap (λ t. cond t (number_at 14 2 frame / 2 ^ 13) 0) tag ∙ sym f.pcp) typed.kind;
      kind = typed.kind;
      rest = typed.rest;
    }

pub opened_tagged : (k : Key) (p : List ℕ) → LinkFacts k → k.dl_vlan < 4096 → Opened k (tagged_frame k p) p
opened_tagged k p f small =
    let frame : List ℕ = tagged_frame k p in
    let tag : is_tagged frame ≡ true = refl in
    let back : number_at 16 2 frame ≡ k.dl_type = number_back 2 k.dl_type f.high in
    let id : number_at 14 2 frame ≡ k.dl_vlan = number_back 2 k.dl_vlan (omega arith) in
    let typed : Typed k frame p = typed_by k frame p true f tag back refl in
    record {
      long = not_short (length frame) 14 (omega arith);
      whole = not_short (length frame) 18 (omega arith);
      link = link_same k.in_port (number_at 6 6 frame) k.dl_src (number_at 0 6 frame) k.dl_dst (number_at 14 2 frame % 2 ^ 12) k.dl_vlan (number_at 14 2 frame / 2 ^ 13) k.dl_pcp
          (dl_type_of frame) k.dl_type (number_back 6 k.dl_src f.src) (number_back 6 k.dl_dst f.dst) (ap (λ n. n % 2 ^ 12) id ∙ mod-eq_of_lt small)
          (ap (λ n. n / 2 ^ 13) id ∙ omega (arith, f.pcp)) typed.kind;
      kind = typed.kind;
      rest = typed.rest;
    }
