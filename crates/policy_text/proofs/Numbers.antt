-- A number's decimal digits read as the number.
use Rattle.std.proofs.Common.{not, drop, ◌≡◌, ℕ, ◌+◌, ◌-◌, ◌*◌, ◌/◌, ◌%◌, ◌^◌, ◌<◌, ◌≤◌, cond, eqb, true, false, ◌&&◌, List, [], ◌∷◌, ◌++◌, length, Some, None, Ok, refl, sym, ap, ◌∙◌, arith}
use Rattle.std.specs.Prelude.{nat_le, nat_lt}
use Rattle.std.specs.Option.{option_map}
use Rattle.std.specs.List.{All, list_all, find, slice_split}
use Rattle.std.specs.Fmt.{decimal}
use Rattle.std.specs.Str.{bytes_eq}
use Rattle.std.proofs.lemmas.Bool.{and_parts, and_from, false_from_ne_true, false≢true, lt-ltb}
use Rattle.std.proofs.lemmas.Bool.Decides.{nat_tests}
use Rattle.std.proofs.lemmas.List.Folds.{list_all-append}
use Rattle.std.proofs.lemmas.List.Elements.{All-nil, All-cons}
use Rattle.std.proofs.lemmas.List.Splits.{slice_split_none}
use Rattle.std.proofs.lemmas.Slice.Eq.{bytes_eq-Decides}
use Rattle.std.proofs.lemmas.Fmt.{decimal_by_steps}
use Rattle.maple_base.specs.Names.{is_name, is_name_byte, is_first_byte, begins_name, is_keyword}
use Rattle.maple_text.specs.Numbers.{is_digit, is_digits, digits_onto, numeral_within, is_hexadecimal, address_of, numeral_of, hex_onto}
use Rattle.maple_text.specs.declared.number.Numeral.TheVariants.{Number as numeral, TooGreat}
use Rattle.policy_tokens.specs.declared.token.Token.TheVariants.{Keyword as keyword, Name as name, Number as number}
use Rattle.policy_tokens.specs.declared.token.Keyword.{Keyword}
use Rattle.policy_tokens.specs.Bytes.{is_word_byte}
use Rattle.policy_tokens.specs.Spellings.{keyword_text, keywords}
use Rattle.policy_tokens.specs.Words.{plain_token, parts_token, numeral_token, token_or, word_token, sign_of, begins_word, token_of}
use Rattle.policy_text.proofs.Pieces.{Reads, all_weaker, is_word, word}

-- ---- digits and their number

record IsSpelling (n : ℕ) (ds : List ℕ) : Type 0 where
  digits : is_digits ds ≡ true
  worth : digits_onto 0 ds ≡ n

a_digit : (n : ℕ) → n < 10 → is_digit (48 + n) ≡ true
a_digit n h = grind (arith, nat_tests)

onto_last : (ds : List ℕ) (n b : ℕ) → digits_onto n (ds ++ b ∷ []) ≡ 10 * digits_onto n ds + (b - 48)
onto_last [] n b = refl
onto_last (d ∷ ds) n b = onto_last ds (10 * n + (d - 48)) b

one_digit : (n : ℕ) → n < 10 → IsSpelling n ((48 + n) ∷ [])
one_digit n h =
    record {
      digits = and_from (is_digit (48 + n)) true (a_digit n h) refl;
      worth = omega arith;
    }

all_digits : (ds : List ℕ) → is_digits ds ≡ true → list_all is_digit ds ≡ true
all_digits ds h = (and_parts (nat_lt 0 (length ds)) (list_all is_digit ds) h).1

filled : (ds : List ℕ) (b : ℕ) → nat_lt 0 (length (ds ++ b ∷ [])) ≡ true
filled [] b = refl
filled (d ∷ ds) b = lt-ltb 0 (length (d ∷ (ds ++ b ∷ []))) (omega arith)

more_digits : (n : ℕ) (ds : List ℕ) → 10 ≤ n → IsSpelling (n / 10) ds → IsSpelling n (ds ++ (48 + n % 10) ∷ [])
more_digits n ds h x =
    let last = 48 + n % 10 in
    let all = all_digits ds x.digits in
    record {
      digits = and_from (nat_lt 0 (length (ds ++ last ∷ []))) (list_all is_digit (ds ++ last ∷ [])) (filled ds last)
          (list_all-append is_digit ds (last ∷ []) ∙ and_from (list_all is_digit ds) (is_digit last && true) all (and_from (is_digit last) true (a_digit (n % 10) (omega arith)) refl));
      worth = onto_last ds 0 last ∙ omega (arith, x.worth);
    }

spelling : (n : ℕ) → n < 2 ^ 64 → IsSpelling n (decimal n)
spelling n h = decimal_by_steps IsSpelling one_digit more_digits n h

-- ---- digits are no name, no keyword and no two parts

digit_word : (b : ℕ) → is_digit b ≡ true → is_word_byte b ≡ true
digit_word b h = grind (arith, nat_tests)

first_digit : (b : ℕ) (bs : List ℕ) → is_digits (b ∷ bs) ≡ true → is_digit b ≡ true
first_digit b bs h = (and_parts (is_digit b) (list_all is_digit bs) (all_digits (b ∷ bs) h)).0

digits_word : (ds : List ℕ) → is_digits ds ≡ true → is_word ds ≡ true
digits_word [] h = absurd (cc)
digits_word (b ∷ bs) h = all_weaker is_digit is_word_byte (b ∷ bs) digit_word (all_digits (b ∷ bs) h)

no_first : (b : ℕ) → is_digit b ≡ true → is_first_byte b ≡ false
no_first b h = grind (arith, nat_tests)

no_name_begins : (ds : List ℕ) → is_digits ds ≡ true → begins_name ds ≡ false
no_name_begins [] h = refl
no_name_begins (b ∷ bs) h = no_first b (first_digit b bs h)

no_name : (ds : List ℕ) → is_digits ds ≡ true → is_name ds ≡ false
no_name ds h =
    false_from_ne_true (is_name ds) (λ e.
    let whole = and_parts (nat_le (length ds) 31 && begins_name ds && list_all is_name_byte ds) (not (is_keyword ds)) e in
    let bytes = and_parts (nat_le (length ds) 31 && begins_name ds) (list_all is_name_byte ds) whole.0 in
    let begins = (and_parts (nat_le (length ds) 31) (begins_name ds) bytes.0).1 in
    false≢true (sym (no_name_begins ds h) ∙ begins))

no_keyword : (ds : List ℕ) → is_digits ds ≡ true → (ks : List Keyword) → list_all (λ k. not (is_digits (keyword_text k))) ks ≡ true → find (λ k. bytes_eq (keyword_text k) ds) ks ≡ None
no_keyword ds h [] all = refl
no_keyword ds h (k ∷ ks) all =
    let both = and_parts (not (is_digits (keyword_text k))) (list_all (λ k. not (is_digits (keyword_text k))) ks) all in
    let other : bytes_eq (keyword_text k) ds ≡ false =
    false_from_ne_true _ (λ e.
    let same : keyword_text k ≡ ds = (bytes_eq-Decides (keyword_text k) ds).0 e in
    false≢true (sym (ap not (ap is_digits same ∙ h)) ∙ both.0)) in
    ap (λ v. cond v (Some k) (find (λ k. bytes_eq (keyword_text k) ds) ks)) other ∙ no_keyword ds h ks both.1

digit_no_dot : (b : ℕ) → is_digit b ≡ true → eqb b 46 ≡ false
digit_no_dot b h = grind (arith, nat_tests)

no_dot : (ds : List ℕ) → list_all is_digit ds ≡ true → All (λ b. eqb b 46 ≡ false) ds
no_dot [] h = All-nil (λ b. eqb b 46 ≡ false)
no_dot (b ∷ bs) h =
    let both = and_parts (is_digit b) (list_all is_digit bs) h in
    All-cons (λ b. eqb b 46 ≡ false) b bs (digit_no_dot b both.0) (no_dot bs both.1)

word_begins : (ds : List ℕ) → is_digits ds ≡ true → begins_word ds ≡ true
word_begins [] h = absurd (cc)
word_begins (b ∷ bs) h = digit_word b (first_digit b bs h)

-- ---- the token

digits_numeral : (ds : List ℕ) (n : ℕ) → is_digits ds ≡ true → digits_onto 0 ds ≡ n → n < 2 ^ 64 → numeral_of ds ≡ Some (numeral n)
digits_numeral ds n h e small =
    ap (λ v. cond v (Some (numeral_within (2 ^ 64) (digits_onto 0 ds))) (cond (is_hexadecimal ds) (Some (numeral (hex_onto 0 (drop 2 ds)))) (address_of ds))) h
    ∙ ap (λ m. Some (numeral_within (2 ^ 64) m)) e
    ∙ ap (λ v. Some (cond v (numeral n) TooGreat)) (lt-ltb n (2 ^ 64) small)

digits_token : (ds : List ℕ) (n : ℕ) → is_digits ds ≡ true → digits_onto 0 ds ≡ n → n < 2 ^ 64 → token_of ds ≡ Ok (number n)
digits_token ds n h e small =
    let find_key = find (λ k. bytes_eq (keyword_text k) ds) keywords in
    let plain : plain_token ds ≡ None =
    ap (λ v. cond v (Some (name ds)) (option_map keyword find_key)) (no_name ds h) ∙ ap (option_map keyword) (no_keyword ds h keywords refl) in
    let parts : slice_split (λ b. eqb b 46) ds ≡ ds ∷ [] = slice_split_none (λ b. eqb b 46) ds (no_dot ds (all_digits ds h)) in
    ap (λ v. cond v (word_token ds) (sign_of ds)) (word_begins ds h)
    ∙ ap (λ o. token_or o (token_or (parts_token (slice_split (λ b. eqb b 46) ds)) (numeral_token (numeral_of ds)))) plain
    ∙ ap (λ ps. token_or (parts_token ps) (numeral_token (numeral_of ds))) parts
    ∙ ap numeral_token (digits_numeral ds n h e small)

pub number_reads : (n : ℕ) → n < 2 ^ 64 → Reads false (decimal n) (number n ∷ [])
number_reads n h = let s = spelling n h in word (decimal n) (number n) (digits_word (decimal n) s.digits) (digits_token (decimal n) n s.digits s.worth h)
