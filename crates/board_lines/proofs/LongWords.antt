-- A word of 39 bytes or more is a number or no token.
use Rattle.std.proofs.Common.{lit≤, ◌≡◌, ℕ, ◌+◌, ◌<◌, ◌≤◌, Bool, true, false, cond, eqb, List, [], ◌∷◌, ◌++◌, drop, length, Option, Some, None, refl, sym, ap, ◌∙◌, arith, length-append}
use Rattle.std.specs.Prelude.{codes, nat_le, nat_lt, not, ◌&&◌, ◌^◌}
use Rattle.std.specs.List.{find, join_with_byte, list_all, slice_split}
use Rattle.std.specs.Option.{option_map}
use Rattle.std.specs.Str.{bytes_eq}
use Rattle.std.proofs.lemmas.Bool.{and_parts}
use Rattle.std.proofs.lemmas.Bool.Decides.{nat_tests}
use Rattle.std.proofs.lemmas.List.Splits.{join_with_byte-slice_split}
use Rattle.std.proofs.lemmas.Slice.Eq.{bytes_eq-Decides}
use Rattle.maple_base.specs.declared.key.Field.{Field}
use Rattle.maple_base.specs.declared.key.Field.TheVariants.{InPort, DlSrc, DlDst, DlVlan, DlType, NwTos, NwProto, NwSrc, NwDst, TpSrc, TpDst}
use Rattle.maple_base.specs.FieldNames.{all_fields, field_among, name_of}
use Rattle.maple_base.specs.Names.{begins_name, is_keyword, is_name, is_name_byte}
use Rattle.maple_text.specs.Numbers.{digits_onto, dotted, hex_onto, is_digits, is_hex_digit, is_hexadecimal, is_pair, numeral_of, numeral_within, or_else, paired}
use Rattle.maple_text.specs.declared.number.Numeral.{Numeral}
use Rattle.maple_text.specs.declared.number.Numeral.TheVariants.{Number}
use Rattle.std.specs.Slice.Scan.{big_endian}
use Rattle.policy_tokens.specs.declared.token.Token.TheVariants.{Keyword as keyword_token, Name as name_token, Field as field_token, PacketSwitch, SwitchOf, PortOf}
use Rattle.policy_tokens.specs.declared.token.Keyword.{Keyword}
use Rattle.policy_tokens.specs.declared.token.Keyword.TheVariants.{Table, Policy, Learning, Drop, Flood, Out, Route, Let, If, Else, While, Host, Hop, Up, At, As, Is, And, Or, Not, In, Packet}
use Rattle.policy_tokens.specs.Spellings.{keyword_text, keywords}
use Rattle.policy_tokens.specs.Words.{numeral_token, packet_token, parts_token, place_token, plain_token, token_or, word_token}

-- texts of other lengths are other texts
pub apart_words : (x y : List ℕ) → length y < length x → bytes_eq x y ≡ false
apart_words x y h = go (bytes_eq x y) refl
  where
    go : (t : Bool) → bytes_eq x y ≡ t → t ≡ false
    go false e = refl
    go true e = let same : length x ≡ length y = ap length ((bytes_eq-Decides x y).0 e) in absurd (omega (arith, same, h))

words_apart : (x y : List ℕ) → length x < length y → bytes_eq x y ≡ false
words_apart x y h = go (bytes_eq x y) refl
  where
    go : (t : Bool) → bytes_eq x y ≡ t → t ≡ false
    go false e = refl
    go true e = let same : length x ≡ length y = ap length ((bytes_eq-Decides x y).0 e) in absurd (omega (arith, same, h))

-- ---- keywords and names

keyword_short : (k : Keyword) → length (keyword_text k) ≤ 8
keyword_short Table = lit≤ tt
keyword_short Policy = lit≤ tt
keyword_short Learning = lit≤ tt
keyword_short Drop = lit≤ tt
keyword_short Flood = lit≤ tt
keyword_short Out = lit≤ tt
keyword_short Route = lit≤ tt
keyword_short Let = lit≤ tt
keyword_short If = lit≤ tt
keyword_short Else = lit≤ tt
keyword_short While = lit≤ tt
keyword_short Host = lit≤ tt
keyword_short Hop = lit≤ tt
keyword_short Up = lit≤ tt
keyword_short At = lit≤ tt
keyword_short As = lit≤ tt
keyword_short Is = lit≤ tt
keyword_short And = lit≤ tt
keyword_short Or = lit≤ tt
keyword_short Not = lit≤ tt
keyword_short In = lit≤ tt
keyword_short Packet = lit≤ tt

no_keyword : (ks : List Keyword) (w : List ℕ) → 8 < length w → find (λ k. bytes_eq (keyword_text k) w) ks ≡ None
no_keyword [] w h = refl
no_keyword (k ∷ ks) w h =
    let short = keyword_short k in
    ap (λ t. cond t (Some k) (find (λ x. bytes_eq (keyword_text x) w) ks)) (words_apart (keyword_text k) w (omega (arith, short, h))) ∙ no_keyword ks w h

no_plain : (w : List ℕ) → 39 ≤ length w → plain_token w ≡ None
no_plain w h =
    let long : nat_le (length w) 31 ≡ false = grind (arith, nat_tests) in
    ap (λ t. cond (t && begins_name w && list_all is_name_byte w && not (is_keyword w)) (Some (name_token w)) (option_map keyword_token (find (λ k. bytes_eq (keyword_text k) w) keywords))) long
    ∙ ap (option_map keyword_token) (no_keyword keywords w (omega (arith, h)))

-- ---- words of two parts

field_short : (f : Field) → length (name_of f) ≤ 8
field_short InPort = lit≤ tt
field_short DlSrc = lit≤ tt
field_short DlDst = lit≤ tt
field_short DlVlan = lit≤ tt
field_short DlType = lit≤ tt
field_short NwTos = lit≤ tt
field_short NwProto = lit≤ tt
field_short NwSrc = lit≤ tt
field_short NwDst = lit≤ tt
field_short TpSrc = lit≤ tt
field_short TpDst = lit≤ tt

no_field : (fs : List Field) (w : List ℕ) → 8 < length w → field_among fs w ≡ None
no_field [] w h = refl
no_field (f ∷ fs) w h =
    let short = field_short f in
    ap (λ t. cond t (Some f) (field_among fs w)) (words_apart (name_of f) w (omega (arith, short, h))) ∙ no_field fs w h

no_packet : (w : List ℕ) → 8 < length w → packet_token w ≡ None
no_packet w h =
    ap (λ t. cond t (Some PacketSwitch) (option_map field_token (field_among all_fields w))) (apart_words w (codes "switch") (omega (arith, h)))
    ∙ ap (option_map field_token) (no_field all_fields w h)

no_place : (a w : List ℕ) → 6 < length w → place_token a w ≡ None
no_place a w h =
    ap (λ t. cond t (Some (SwitchOf a)) (cond (bytes_eq w (codes "port")) (Some (PortOf a)) None)) (apart_words w (codes "switch") (omega (arith, h)))
    ∙ ap (λ t. cond t (Some (PortOf a)) None) (apart_words w (codes "port") (omega (arith, h)))

two_lengths : (stop : ℕ) (w a b : List ℕ) → slice_split (λ c. eqb c stop) w ≡ a ∷ b ∷ [] → length w ≡ length a + 1 + length b
two_lengths stop w a b e =
    let same : length w ≡ length (a ++ stop ∷ b) = ap length (sym (join_with_byte-slice_split stop w)) ∙ ap (λ ps. length (join_with_byte stop ps)) e in
    omega (arith, same, length-append a (stop ∷ b))

no_parts : (w : List ℕ) (ps : List (List ℕ)) → slice_split (λ c. eqb c 46) w ≡ ps → 39 ≤ length w → parts_token ps ≡ None
no_parts w [] e h = refl
no_parts w (a ∷ []) e h = refl
no_parts w (a ∷ b ∷ c ∷ ps) e h = refl
no_parts w (a ∷ b ∷ []) e h = packet (bytes_eq a (codes "pkt")) refl
  where
    place : (t : Bool) → is_name a ≡ t → cond t (place_token a b) None ≡ None
    place false n = refl
    place true n =
        let front = and_parts (nat_le (length a) 31 && begins_name a && list_all is_name_byte a) (not (is_keyword a)) n in
        let middle = and_parts (nat_le (length a) 31 && begins_name a) (list_all is_name_byte a) front.0 in
        let few = and_parts (nat_le (length a) 31) (begins_name a) middle.0 in
        let most : length a ≤ 31 = grind (arith, nat_tests, few.0) in
        no_place a b (omega (arith, most, two_lengths 46 w a b e, h))

    packet : (t : Bool) → bytes_eq a (codes "pkt") ≡ t → cond t (packet_token b) (cond (is_name a) (place_token a b) None) ≡ None
    packet true n =
        let few : length a ≡ 3 = ap length ((bytes_eq-Decides a (codes "pkt")).0 n) in
        no_packet b (omega (arith, few, two_lengths 46 w a b e, h))
    packet false n = place (is_name a) refl

-- ---- numbers of other bases

and_false : (t : Bool) → (t && false) ≡ false
and_false true = refl
and_false false = refl

no_hexadecimal : (w : List ℕ) → 39 ≤ length w → is_hexadecimal w ≡ false
no_hexadecimal [] h = refl
no_hexadecimal (a ∷ []) h = refl
no_hexadecimal (a ∷ b ∷ ds) h =
    let long : nat_le (length ds) 16 ≡ false = grind (arith, nat_tests) in
    ap (λ t. (eqb a 48 && eqb b 120) && (nat_lt 0 (length ds) && t && list_all is_hex_digit ds)) long
    ∙ ap (λ t. (eqb a 48 && eqb b 120) && (t && list_all is_hex_digit ds)) (and_false (nat_lt 0 (length ds))) ∙ and_false (eqb a 48 && eqb b 120)

pair_length : (p : List ℕ) → is_pair p ≡ true → length p ≡ 2
pair_length p e = let two = and_parts (eqb (length p) 2) (list_all is_hex_digit p) e in grind (arith, nat_tests, two.0)

no_pairs : (w : List ℕ) (ps : List (List ℕ)) → slice_split (λ c. eqb c 58) w ≡ ps → 39 ≤ length w → paired ps ≡ None
no_pairs w [] e h = refl
no_pairs w (a ∷ []) e h = refl
no_pairs w (a ∷ b ∷ []) e h = refl
no_pairs w (a ∷ b ∷ c ∷ []) e h = refl
no_pairs w (a ∷ b ∷ c ∷ d ∷ []) e h = refl
no_pairs w (a ∷ b ∷ c ∷ d ∷ f ∷ []) e h = refl
no_pairs w (a ∷ b ∷ c ∷ d ∷ f ∷ g ∷ x ∷ ps) e h = refl
no_pairs w (a ∷ b ∷ c ∷ d ∷ f ∷ g ∷ []) e h = go (is_pair a && is_pair b && is_pair c && is_pair d && is_pair f && is_pair g) refl
  where
    lengths : length w ≡ length a + 1 + (length b + 1 + (length c + 1 + (length d + 1 + (length f + 1 + length g))))
    lengths =
        let same : length w ≡ length (join_with_byte 58 (a ∷ b ∷ c ∷ d ∷ f ∷ g ∷ [])) =
        ap length (sym (join_with_byte-slice_split 58 w)) ∙ ap (λ ps. length (join_with_byte 58 ps)) e in
        let last = 58 ∷ g in
        let fifth = 58 ∷ (f ++ last) in
        let fourth = 58 ∷ (d ++ fifth) in
        let third = 58 ∷ (c ++ fourth) in
        let second = 58 ∷ (b ++ third) in
        omega (arith, same, length-append a second, length-append b third, length-append c fourth, length-append d fifth, length-append f last)

    go : (t : Bool) → (is_pair a && is_pair b && is_pair c && is_pair d && is_pair f && is_pair g) ≡ t → paired (a ∷ b ∷ c ∷ d ∷ f ∷ g ∷ []) ≡ None
    go false n = ap (λ t. cond t (Some (Number (big_endian 0 (0 ∷ 0 ∷ hex_onto 0 a ∷ hex_onto 0 b ∷ hex_onto 0 c ∷ hex_onto 0 d ∷ hex_onto 0 f ∷ hex_onto 0 g ∷ [])))) None) n
    go true n =
        let to_f = and_parts (is_pair a && is_pair b && is_pair c && is_pair d && is_pair f) (is_pair g) n in
        let to_d = and_parts (is_pair a && is_pair b && is_pair c && is_pair d) (is_pair f) to_f.0 in
        let to_c = and_parts (is_pair a && is_pair b && is_pair c) (is_pair d) to_d.0 in
        let to_b = and_parts (is_pair a && is_pair b) (is_pair c) to_c.0 in
        let to_a = and_parts (is_pair a) (is_pair b) to_b.0 in
        absurd (omega (arith, h, lengths, pair_length a to_a.0, pair_length b to_a.1, pair_length c to_b.1, pair_length d to_c.1, pair_length f to_d.1, pair_length g to_f.1))

-- ---- long words

-- the number that a long word spells
abbrev pub long_numeral : List ℕ → Option Numeral
long_numeral w = cond (is_digits w) (Some (numeral_within (2 ^ 64) (digits_onto 0 w))) (dotted (slice_split (λ b. eqb b 46) w))

or_none : (o : Option Numeral) → or_else o None ≡ o
or_none None = refl
or_none (Some n) = refl

pub long_word_is : (w : List ℕ) → 39 ≤ length w → word_token w ≡ numeral_token (long_numeral w)
long_word_is w h =
    let split = slice_split (λ b. eqb b 46) w in
    let numeral : numeral_of w ≡ long_numeral w =
    ap (λ t. cond (is_digits w) (Some (numeral_within (2 ^ 64) (digits_onto 0 w))) (cond t (Some (Number (hex_onto 0 (drop 2 w)))) (or_else (dotted split) (paired (slice_split (λ b. eqb b 58) w))))) (no_hexadecimal w h)
    ∙ ap (λ o. cond (is_digits w) (Some (numeral_within (2 ^ 64) (digits_onto 0 w))) (or_else (dotted split) o)) (no_pairs w (slice_split (λ b. eqb b 58) w) refl h)
    ∙ ap (λ o. cond (is_digits w) (Some (numeral_within (2 ^ 64) (digits_onto 0 w))) o) (or_none (dotted split)) in
    ap (λ o. token_or o (token_or (parts_token split) (numeral_token (numeral_of w)))) (no_plain w h)
    ∙ ap (λ o. token_or o (numeral_token (numeral_of w))) (no_parts w split refl h) ∙ ap numeral_token numeral
