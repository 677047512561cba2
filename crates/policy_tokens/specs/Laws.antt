-- What holds of the words, signs and tokens of texts, however they are laid out.
use Rattle.std.specs.Prelude.{◌≡◌, ℕ, ◌≤◌, Bool, true, false, not, ◌&&◌, ◌==◌, if◌then◌else◌, map, List, [], ◌∷◌, ◌++◌, length, take, drop, All, Ok, codes}
use Rattle.std.specs.Result.{result_ok, is_ok}
use Rattle.std.specs.List.{filter_map, list_all}
use Rattle.maple_base.specs.FieldNames.{name_of}
use Rattle.maple_base.specs.Names.{is_name}
use Rattle.maple_base.specs.declared.key.Field.{Field}
use Rattle.maple_base.specs.PolicyLimits.{most_bytes}
use Rattle.policy_tokens.specs.declared.token.Keyword.{Keyword}
use Rattle.policy_tokens.specs.declared.token.Sign.{Sign}
use Rattle.policy_tokens.specs.declared.token.Token.TheVariants.{Keyword as keyword_token, Name as name_token, Field as field_token, PacketSwitch, SwitchOf, PortOf, Sign as sign_token}
use Rattle.policy_tokens.specs.Bytes.{is_word_byte, is_blank, is_text_byte, begins_lexeme, may_pair, ends_line}
use Rattle.policy_tokens.specs.Lexemes.{more, lexemes_of}
use Rattle.policy_tokens.specs.Words.{token_of}
use Rattle.policy_tokens.specs.Faults.{faults}
use Rattle.policy_tokens.specs.Tokens.{tokens_of}
use Rattle.policy_tokens.specs.Spellings.{keyword_text, sign_text}

-- the words and signs of a text, without their positions
abbrev pub words_of : List ℕ → List (List ℕ)
words_of text = map (λ l. l.bytes) (lexemes_of text)

-- one word or one sign: the first byte begins it, and all others belong to it
abbrev pub IsOneLexeme : List ℕ → Type 0
IsOneLexeme [] = ⊥
IsOneLexeme (b ∷ bs) = (begins_lexeme b ≡ true) × (more b bs ≡ length bs)

-- whether a byte behind a word or a sign would belong to it: a further byte of the word, or the `=` of a sign of two bytes
abbrev pub goes_on : List ℕ → ℕ → Bool
goes_on [] c = false
goes_on (b ∷ []) c = if is_word_byte b then is_word_byte c else may_pair b && c == 61
goes_on (b ∷ bs) c = is_word_byte b && is_word_byte c

-- a word or a sign ends where a text begins
abbrev pub EndsAt : List ℕ → List ℕ → Type 0
EndsAt w [] = Unit {0}
EndsAt w (c ∷ cs) = goes_on w c ≡ false

-- a word or a sign stands ahead of the words and signs of the text that it ends at
abbrev pub LexemesAreRead : Type 0
LexemesAreRead = (w text : List ℕ) → IsOneLexeme w → EndsAt w text → words_of (w ++ text) ≡ w ∷ words_of text

-- a blank adds no word and no sign
abbrev pub BlanksAddNothing : Type 0
BlanksAddNothing = (b : ℕ) (text : List ℕ) → is_blank b ≡ true → words_of (b ∷ text) ≡ words_of text

-- neither does a comment, with the line feed that ends it
abbrev pub CommentsAddNothing : Type 0
CommentsAddNothing = (comment text : List ℕ) → list_all (λ b. not (ends_line b)) comment ≡ true → words_of (35 ∷ (comment ++ 10 ∷ text)) ≡ words_of text

-- nor one that the text ends in
abbrev pub LastCommentsAddNothing : Type 0
LastCommentsAddNothing = (comment : List ℕ) → list_all (λ b. not (ends_line b)) comment ≡ true → words_of (35 ∷ comment) ≡ []

-- each word and sign stands in the text where it is said to stand
abbrev pub LexemesStandThere : Type 0
LexemesStandThere = (text : List ℕ) → All (λ l. take (length l.bytes) (drop l.offset text) ≡ l.bytes) (lexemes_of text)

-- the words and signs of a text decide its tokens, but for their positions
abbrev pub WordsDecide : Type 0
WordsDecide = (text : List ℕ) → map (λ t. t.token) (tokens_of text).tokens ≡ filter_map (λ w. result_ok (token_of w)) (words_of text)

-- a text has no fault where it is not too long, each byte may stand in it, and each word and sign is a token
abbrev pub IsFaultless : Type 0
IsFaultless =
    (text : List ℕ) → list_all is_text_byte text ≡ true → length text ≤ most_bytes → list_all (λ w. is_ok (token_of w)) (words_of text) ≡ true → faults text ≡ []

-- each token but the numbers, of which each has many spellings, is read from its spelling
abbrev pub KeywordsAreRead : Type 0
KeywordsAreRead = (k : Keyword) → token_of (keyword_text k) ≡ Ok (keyword_token k)

abbrev pub SignsAreRead : Type 0
SignsAreRead = (s : Sign) → token_of (sign_text s) ≡ Ok (sign_token s)

abbrev pub FieldsAreRead : Type 0
FieldsAreRead = (f : Field) → token_of (codes "pkt." ++ name_of f) ≡ Ok (field_token f)

abbrev pub PacketSwitchIsRead : Type 0
PacketSwitchIsRead = token_of (codes "pkt.switch") ≡ Ok PacketSwitch

abbrev pub NamesAreRead : Type 0
NamesAreRead = (n : List ℕ) → is_name n ≡ true → token_of n ≡ Ok (name_token n)

abbrev pub SwitchesAreRead : Type 0
SwitchesAreRead = (n : List ℕ) → is_name n ≡ true → token_of (n ++ codes ".switch") ≡ Ok (SwitchOf n)

abbrev pub PortsAreRead : Type 0
PortsAreRead = (n : List ℕ) → is_name n ≡ true → token_of (n ++ codes ".port") ≡ Ok (PortOf n)
