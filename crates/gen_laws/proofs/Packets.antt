-- The line of a packet.
use Rattle.std.proofs.Common.{◌≡◌, ℕ, ◌<◌, ◌≤◌, ◌^◌, true, not, cond, eqb, List, [], ◌∷◌, ◌++◌, length, refl, ap, ◌∙◌, arith, length-append}
use Rattle.std.specs.Prelude.{◌&&◌, codes, nat_lt}
use Rattle.std.specs.Fmt.{decimal}
use Rattle.std.proofs.lemmas.Bool.{and_parts, and_from, not-true, lt-ltb}
use Rattle.maple_base.specs.declared.key.Field.TheVariants.{DlDst, NwSrc, TpDst}
use Rattle.maple_base.specs.declared.key.Match.{Match}
use Rattle.maple_base.specs.Keys.{anything, fix}
use Rattle.script_text.specs.declared.command.Command.TheVariants.{Packet as packet}
use Rattle.script_text.specs.Frames.{frame}
use Rattle.script_text.specs.Grammar.{IsLine, PacketLine, most_bytes}
use Rattle.script_text.specs.Laws.{ReadsLines}
use Rattle.script_text.specs.Lines.{without_end}
use Rattle.script_text.specs.Orders.{order_of, order_by}
use Rattle.script_text.specs.Orders.Order.{Arrival}
use Rattle.script_text.specs.PacketFields.{key_by, is_packet}
use Rattle.script_text.specs.Spelling.{lacks, AreWords, IsField, AreFields, NoField, OneField}
use Rattle.gen_script.specs.declared.line.ScriptLine.TheVariants.{Packet}
use Rattle.gen_script.specs.Lines.{address, source_text, spelled}
use Rattle.gen_laws.proofs.Checks.{Spells, host_number, source_number, number_spells, address_spells, source_spells}
use Rattle.gen_laws.proofs.Lines.{is_nothing, is_line, goes_on, reads, order_said, goes_at}

-- ---- a text without a line feed ahead of another

line_behind : (text rest : List ℕ) → lacks 10 text ≡ true → is_line (text ++ rest) ≡ is_line rest
line_behind [] rest h = refl
line_behind (b ∷ bs) rest h =
    let both = and_parts (not (eqb b 10)) (lacks 10 bs) h in
    ap (λ t. cond t (is_nothing (bs ++ rest)) (is_line (bs ++ rest))) (not-true (eqb b 10) both.0) ∙ line_behind bs rest both.1

end_behind : (text rest : List ℕ) → lacks 10 text ≡ true → without_end (text ++ rest) ≡ text ++ without_end rest
end_behind [] rest h = refl
end_behind (b ∷ bs) rest h =
    let both = and_parts (not (eqb b 10)) (lacks 10 bs) h in
    ap (λ t. cond t [] (b ∷ without_end (bs ++ rest))) (not-true (eqb b 10) both.0) ∙ ap (λ l. b ∷ l) (end_behind bs rest both.1)

-- ---- the fields that a line names

abbrev host_word : ℕ → List ℕ
host_word h = codes "dl_dst=" ++ address h

abbrev source_word : ℕ → List ℕ
source_word a = codes "nw_src=" ++ source_text a

abbrev port_word : List ℕ
port_word = codes "tp_dst=80"

abbrev named : ℕ → ℕ → Match
named h a = fix TpDst 80 (fix NwSrc (source_number a) (fix DlDst (host_number h) anything))

host_field : (h : ℕ) → h < 17 → Spells (address h) (host_number h) → IsField (host_word h) DlDst (host_number h)
host_field h low s =
    record {
      digits = address h;
      parts = record { joined = refl; apart = and_from (lacks 61 (address h)) true s.no_equal refl };
      number = s.number;
      width = omega arith;
      other = λ e. cc;
    }

source_field : (a : ℕ) → a < 16 → Spells (source_text a) (source_number a) → IsField (source_word a) NwSrc (source_number a)
source_field a low s =
    record {
      digits = source_text a;
      parts = record { joined = refl; apart = and_from (lacks 61 (source_text a)) true s.no_equal refl };
      number = s.number;
      width = omega arith;
      other = λ e. cc;
    }

port_field : IsField port_word TpDst 80
port_field = record { digits = codes "80"; parts = record { joined = refl; apart = refl }; number = refl; width = omega arith; other = λ e. cc }

are_named : (h a : ℕ) → IsField (host_word h) DlDst (host_number h) → IsField (source_word a) NwSrc (source_number a)
    → AreFields anything (host_word h ∷ source_word a ∷ port_word ∷ []) (named h a)
are_named h a host source = OneField host refl (OneField source refl (OneField port_field refl NoField))

whole : (p h a : ℕ) → p < 49 → h < 17 → a < 16 → is_packet (key_by p (named h a)) ≡ true
whole p h a low_p low_h low_a =
    let port : nat_lt p (2 ^ 16) ≡ true = lt-ltb p (2 ^ 16) (omega arith) in
    let host : nat_lt (host_number h) (2 ^ 48) ≡ true = lt-ltb (host_number h) (2 ^ 48) (omega arith) in
    let source : nat_lt (source_number a) (2 ^ 32) ≡ true = lt-ltb (source_number a) (2 ^ 32) (omega arith) in
    rw (port, host, source) refl

-- ---- the line

-- the parts of the line, with what ends it
abbrev behind_host : ℕ → List ℕ → List ℕ
behind_host a end = codes " nw_src=" ++ (source_text a ++ end)

abbrev behind_port : ℕ → ℕ → List ℕ → List ℕ
behind_port h a end = codes " dl_dst=" ++ (address h ++ behind_host a end)

abbrev behind_device : ℕ → ℕ → ℕ → List ℕ → List ℕ
behind_device p h a end = codes " " ++ (decimal p ++ behind_port h a end)

abbrev with_end : ℕ → ℕ → ℕ → ℕ → List ℕ → List ℕ
with_end c p h a end = codes "packet " ++ (decimal c ++ behind_device p h a end)

module _ (c p h a : ℕ) (device : Spells (decimal c) c) (port : Spells (decimal p) p) (host : Spells (address h) (host_number h)) (source : Spells (source_text a) (source_number a)) where
  one_line : is_line (spelled (Packet c p h a)) ≡ true
  one_line =
      let end = codes " tp_dst=80\n" in
      line_behind (decimal c) (behind_device p h a end) device.no_feed
      ∙ (line_behind (decimal p) (behind_port h a end) port.no_feed
      ∙ (line_behind (address h) (behind_host a end) host.no_feed
      ∙ line_behind (source_text a) end source.no_feed))

  line_is : without_end (spelled (Packet c p h a)) ≡ with_end c p h a (codes " tp_dst=80")
  line_is =
      let end = codes " tp_dst=80\n" in
      let four : without_end (source_text a ++ end) ≡ source_text a ++ codes " tp_dst=80" = end_behind (source_text a) end source.no_feed in
      let three = end_behind (address h) (behind_host a end) host.no_feed ∙ ap (λ l. address h ++ (codes " nw_src=" ++ l)) four in
      let two = end_behind (decimal p) (behind_port h a end) port.no_feed ∙ ap (λ l. decimal p ++ (codes " dl_dst=" ++ l)) three in
      let one = end_behind (decimal c) (behind_device p h a end) device.no_feed ∙ ap (λ l. decimal c ++ (codes " " ++ l)) two in
      ap (λ l. codes "packet " ++ l) one

  are_words : AreWords (with_end c p h a (codes " tp_dst=80")) (codes "packet" ∷ decimal c ∷ decimal p ∷ host_word h ∷ source_word a ∷ port_word ∷ [])
  are_words =
      let rest = and_from (lacks 32 (source_text a)) true source.no_space refl in
      record {
        joined = refl;
        apart =
            and_from (lacks 32 (decimal c)) (lacks 32 (decimal p) && (lacks 32 (address h) && (lacks 32 (source_text a) && true))) device.no_space
            (and_from (lacks 32 (decimal p)) (lacks 32 (address h) && (lacks 32 (source_text a) && true)) port.no_space
            (and_from (lacks 32 (address h)) (lacks 32 (source_text a) && true) host.no_space rest));
      }

  short : length (with_end c p h a (codes " tp_dst=80")) ≤ most_bytes
  short =
      let end = codes " tp_dst=80" in
      let one = length-append (decimal c) (behind_device p h a end) in
      let two = length-append (decimal p) (behind_port h a end) in
      let three = length-append (address h) (behind_host a end) in
      let four = length-append (source_text a) end in
      omega (arith, one, two, three, four, device.short, port.short, host.short, source.short)

-- where the device is there the line of its packet goes on
pub packet_reads : ReadsLines → (places c p h a : ℕ) → c < 5 → 1 ≤ c → c ≤ places → p < 49 → h < 17 → a < 16 → reads places (spelled (Packet c p h a)) ≡ true
packet_reads read places c p h a low_c some_c there low_p low_h low_a =
    let device = number_spells c (omega arith) in
    let port = number_spells p low_p in
    let host = address_spells h low_h in
    let source = source_spells a low_a in
    let key = key_by p (named h a) in
    let line = with_end c p h a (codes " tp_dst=80") in
    let fields = are_named h a (host_field h low_h host) (source_field a low_a source) in
    let said : IsLine line (packet c key) = PacketLine (are_words c p h a device port host source) device.number (port.number, omega arith) fields (whole p h a low_p low_h low_a) in
    let order : order_of places line ≡ order_by places (packet c key) = order_said places line (packet c key) (short c p h a device port host source) ((read line (packet c key)).1 said) in
    let goes = goes_at places c (Arrival c p (frame key)) refl some_c there in
    and_from (is_line (spelled (Packet c p h a))) (goes_on (order_of places (without_end (spelled (Packet c p h a))))) (one_line c p h a device port host source)
    (ap (λ l. goes_on (order_of places l)) (line_is c p h a device port host source) ∙ ap goes_on order ∙ goes)
