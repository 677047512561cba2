-- Tokens are read from their spellings.
use Rattle.std.proofs.Common.{◌≡◌, ℕ, cond, eqb, true, false, not, ◌&&◌, List, [], ◌∷◌, ◌++◌, length, Some, None, Ok, refl, sym, ap, ◌∙◌, subst, arith, append-nil}
use Rattle.std.specs.Prelude.{codes, nat_le}
use Rattle.std.specs.Option.{option_map}
use Rattle.std.specs.List.{All, list_all, find, slice_split}
use Rattle.std.specs.Str.{bytes_eq}
use Rattle.std.proofs.lemmas.Bool.{and_parts, and_left, and_right, false_from_ne_true, false≢true}
use Rattle.std.proofs.lemmas.Bool.Decides.{nat_tests}
use Rattle.std.proofs.lemmas.List.Folds.{list_all-append}
use Rattle.std.proofs.lemmas.List.Elements.{All-nil, All-cons}
use Rattle.std.proofs.lemmas.List.Splits.{slice_split_at}
use Rattle.std.proofs.lemmas.Slice.Eq.{bytes_eq-Decides}
use Rattle.maple_base.specs.Names.{is_name, is_name_byte, is_first_byte, begins_name, is_keyword}
use Rattle.maple_text.specs.Numbers.{numeral_of}
use Rattle.policy_tokens.specs.declared.token.Keyword.{Keyword}
use Rattle.policy_tokens.specs.declared.token.Token.{Token}
use Rattle.policy_tokens.specs.declared.token.Token.TheVariants.{Keyword as keyword_token, Name as name_token, SwitchOf, PortOf}
use Rattle.policy_tokens.specs.Bytes.{is_word_byte}
use Rattle.policy_tokens.specs.Spellings.{keyword_text, keywords}
use Rattle.policy_tokens.specs.Words.{plain_token, place_token, parts_token, numeral_token, token_or, word_token, sign_of, begins_word, token_of}
use Rattle.policy_tokens.specs.Laws.{KeywordsAreRead, SignsAreRead, FieldsAreRead, PacketSwitchIsRead, NamesAreRead, SwitchesAreRead, PortsAreRead}
use Rattle.policy_tokens.proofs.Parts.{plain_keyword, other_parts}

pub keywords_read : KeywordsAreRead
keywords_read k = grind arith

pub signs_read : SignsAreRead
signs_read k = grind arith

pub fields_read : FieldsAreRead
fields_read k = grind arith

pub packet_switch_read : PacketSwitchIsRead
packet_switch_read = refl

-- what a name consists of
record IsMadeOf (n : List ℕ) : Type 0 where
  first : begins_name n ≡ true
  all : list_all is_name_byte n ≡ true

made_of : (n : List ℕ) → is_name n ≡ true → IsMadeOf n
made_of n h =
    let whole = and_parts (nat_le (length n) 31 && begins_name n && list_all is_name_byte n) (not (is_keyword n)) h in
    let bytes = and_parts (nat_le (length n) 31 && begins_name n) (list_all is_name_byte n) whole.0 in
    record { first = (and_parts (nat_le (length n) 31) (begins_name n) bytes.0).1; all = bytes.1 }

first_of_word : (b : ℕ) → is_first_byte b ≡ true → is_word_byte b ≡ true
first_of_word b h = grind (arith, nat_tests)

-- a name begins a word, whatever stands behind it
name_begins : (n text : List ℕ) → begins_name n ≡ true → begins_word (n ++ text) ≡ true
name_begins [] text h = absurd (cc)
name_begins (b ∷ bs) text h = first_of_word b h

word_read : (w : List ℕ) → begins_word w ≡ true → token_of w ≡ word_token w
word_read w h = ap (λ v. cond v (word_token w) (sign_of w)) h

pub names_read : NamesAreRead
names_read n h =
    let begins : begins_word n ≡ true = subst (λ w. begins_word w ≡ true) (append-nil n) (name_begins n [] (made_of n h).first) in
    let other = token_or (parts_token (slice_split (λ b. eqb b 46) n)) (numeral_token (numeral_of n)) in
    word_read n begins ∙ ap (λ v. token_or (cond v (Some (name_token n)) (option_map keyword_token (find (λ k. bytes_eq (keyword_text k) n) keywords))) other) h

-- a word with a byte that no name has is no keyword
no_keyword : (w : List ℕ) → list_all is_name_byte w ≡ false → (ks : List Keyword) → list_all (λ k. list_all is_name_byte (keyword_text k)) ks ≡ true
    → find (λ k. bytes_eq (keyword_text k) w) ks ≡ None
no_keyword w h [] all = refl
no_keyword w h (k ∷ ks) all =
    let both = and_parts (list_all is_name_byte (keyword_text k)) (list_all (λ k. list_all is_name_byte (keyword_text k)) ks) all in
    let other : bytes_eq (keyword_text k) w ≡ false =
    false_from_ne_true _ (λ e.
    let same : keyword_text k ≡ w = (bytes_eq-Decides (keyword_text k) w).0 e in
    false≢true (sym h ∙ sym (ap (list_all is_name_byte) same) ∙ both.0)) in
    ap (λ v. cond v (Some k) (find (λ k. bytes_eq (keyword_text k) w) ks)) other ∙ no_keyword w h ks both.1

dotted_bytes : (n s : List ℕ) → list_all is_name_byte (n ++ 46 ∷ s) ≡ false
dotted_bytes n s = list_all-append is_name_byte n (46 ∷ s) ∙ and_right (list_all is_name_byte n) false refl

dotted_plain : (n s : List ℕ) → plain_token (n ++ 46 ∷ s) ≡ None
dotted_plain n s =
    let w = n ++ 46 ∷ s in
    let no_name : is_name w ≡ false = and_left _ (not (is_keyword w)) (and_right (nat_le (length w) 31 && begins_name w) _ (dotted_bytes n s)) in
    plain_keyword w no_name ∙ ap (option_map keyword_token) (no_keyword w (dotted_bytes n s) keywords refl)

no_dot : (n : List ℕ) → list_all is_name_byte n ≡ true → All (λ b. eqb b 46 ≡ false) n
no_dot [] h = All-nil (λ b. eqb b 46 ≡ false)
no_dot (b ∷ bs) h =
    let both = and_parts (is_name_byte b) (list_all is_name_byte bs) h in
    let name = both.0 in
    let here : eqb b 46 ≡ false = grind (arith, nat_tests) in
    All-cons (λ b. eqb b 46 ≡ false) b bs here (no_dot bs both.1)

no_packet : (n : List ℕ) → is_name n ≡ true → bytes_eq n (codes "pkt") ≡ false
no_packet n h =
    false_from_ne_true _ (λ e.
    let same : n ≡ codes "pkt" = (bytes_eq-Decides n (codes "pkt")).0 e in
    false≢true (sym (ap is_name same) ∙ h))

-- a name, a dot and a part without a dot are what place_token says
dotted_read : (n s : List ℕ) (t : Token) → is_name n ≡ true → slice_split (λ b. eqb b 46) s ≡ s ∷ [] → place_token n s ≡ Some t → token_of (n ++ 46 ∷ s) ≡ Ok t
dotted_read n s t h one e =
    let w = n ++ 46 ∷ s in
    let made = made_of n h in
    let parts : slice_split (λ b. eqb b 46) w ≡ n ∷ s ∷ [] = slice_split_at (λ b. eqb b 46) n 46 s (no_dot n made.all) refl ∙ ap (λ ps. n ∷ ps) one in
    let placed : parts_token (slice_split (λ b. eqb b 46) w) ≡ Some t =
    sym (other_parts n s (slice_split (λ b. eqb b 46) w) parts (no_packet n h)) ∙ ap (λ v. cond v (place_token n s) None) h ∙ e in
    word_read w (name_begins n (46 ∷ s) made.first)
    ∙ ap (λ o. token_or o (token_or (parts_token (slice_split (λ b. eqb b 46) w)) (numeral_token (numeral_of w)))) (dotted_plain n s)
    ∙ ap (λ o. token_or o (numeral_token (numeral_of w))) placed

pub switches_read : SwitchesAreRead
switches_read n h = dotted_read n (codes "switch") (SwitchOf n) h refl refl

pub ports_read : PortsAreRead
ports_read n h = dotted_read n (codes "port") (PortOf n) h refl refl
