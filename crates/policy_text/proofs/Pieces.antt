-- Texts that read as tokens, whatever stands behind them where it may.
use Rattle.std.proofs.Common.{◌≡◌, ℕ, ◌+◌, cond, eqb, true, false, Bool, not, ◌&&◌, ◌||◌, map, List, [], ◌∷◌, ◌++◌, length, append_assoc, Ok, refl, sym, ap, ◌∙◌, subst, arith}
use Rattle.std.specs.Prelude.{codes}
use Rattle.std.specs.List.{prefix_len, list_all}
use Rattle.std.proofs.lemmas.Bool.{and_parts, and_from}
use Rattle.std.proofs.lemmas.Bool.Decides.{nat_tests}
use Rattle.std.proofs.lemmas.List.Folds.{list_all-append}
use Rattle.policy_tokens.specs.declared.token.Token.{Token}
use Rattle.policy_tokens.specs.declared.token.Token.TheVariants.{Keyword as keyword, Sign as sign}
use Rattle.policy_tokens.specs.declared.token.Keyword.{Keyword}
use Rattle.policy_tokens.specs.declared.token.Sign.{Sign}
use Rattle.policy_tokens.specs.declared.token.Sign.TheVariants as mark
use Rattle.policy_tokens.specs.Bytes.{is_word_byte, is_blank, is_text_byte, begins_lexeme, begins_comment, begins_equal, may_pair, ends_line}
use Rattle.policy_tokens.specs.Lexemes.{more}
use Rattle.policy_tokens.specs.Spellings.{keyword_text, sign_text}
use Rattle.policy_tokens.specs.Words.{token_of}
use Rattle.policy_tokens.specs.Laws.{words_of, IsOneLexeme, goes_on, EndsAt}
use Rattle.policy_tokens.proofs.LaidOut.{lexemes_read, blanks_add}
use Rattle.policy_tokens.proofs.Readings.{keywords_read, signs_read}

-- ---- what reads as tokens

-- a byte that goes on no word and no sign
abbrev pub is_apart : ℕ → Bool
is_apart c = not (is_word_byte c || eqb c 61)

abbrev pub Apart : List ℕ → Type 0
Apart [] = Unit {0}
Apart (c ∷ cs) = is_apart c ≡ true

abbrev pub Begins : List ℕ → Type 0
Begins [] = ⊥
Begins (c ∷ cs) = is_apart c ≡ true

-- anything may stand behind a closed text
abbrev pub May : Bool → List ℕ → Type 0
May true rest = Unit {0}
May false rest = Apart rest

pub record Spells (text : List ℕ) (ts : List Token) : Type 0 where
  pub bytes : list_all is_text_byte text ≡ true
  pub words : map token_of (words_of text) ≡ map (λ t. Ok t) ts

pub record Reads (closed : Bool) (text : List ℕ) (ts : List Token) : Type 0 where
  pub on : (rest : List ℕ) (us : List Token) → May closed rest → Spells rest us → Spells (text ++ rest) (ts ++ us)

spells_at : (a b : List ℕ) (ts us : List Token) → a ≡ b → ts ≡ us → Spells a ts → Spells b us
spells_at a b ts us p q h = subst (λ x. Spells x us) p (subst (Spells a) q h)

-- ---- texts put together

pub joins : {k m : Bool} {a b : List ℕ} {ts us : List Token} → Reads k a ts → Reads m b us → ((rest : List ℕ) → May m rest → May k (b ++ rest)) → Reads m (a ++ b) (ts ++ us)
joins {k} {m} {a} {b} {ts} {us} x y fits =
    record {
      on = λ rest vs may s. spells_at (a ++ (b ++ rest)) ((a ++ b) ++ rest) (ts ++ (us ++ vs)) ((ts ++ us) ++ vs) (sym (append_assoc a b rest)) (sym (append_assoc ts us vs))
          (x.on (b ++ rest) (us ++ vs) (fits rest may) (y.on rest vs may s));
    }

begins_apart : (b rest : List ℕ) → Begins b → Apart (b ++ rest)
begins_apart [] rest h = absurd h
begins_apart (c ∷ cs) rest h = h

-- a closed text, and a text behind it
pub ahead : {m : Bool} {a b : List ℕ} {ts us : List Token} → Reads true a ts → Reads m b us → Reads m (a ++ b) (ts ++ us)
ahead x y = joins x y (λ rest may. tt)

-- a text, and one behind it that goes on none of its words
pub beside : {m : Bool} {a b : List ℕ} {ts us : List Token} → Reads false a ts → Begins b → Reads m b us → Reads m (a ++ b) (ts ++ us)
beside {m} {a} {b} {ts} {us} x h y = joins x y (λ rest may. begins_apart b rest h)

pub empty : (k : Bool) → Reads k [] []
empty k = record { on = λ rest us may s. s }

pub reads_at : {k : Bool} {a : List ℕ} {ts : List Token} (b : List ℕ) (us : List Token) → a ≡ b → ts ≡ us → Reads k a ts → Reads k b us
reads_at {k} {a} {ts} b us p q h = subst (λ x. Reads k x us) p (subst (Reads k a) q h)

-- ---- one word or sign, and blanks

one : (k : Bool) (w : List ℕ) (t : Token) → IsOneLexeme w → list_all is_text_byte w ≡ true → token_of w ≡ Ok t → ((rest : List ℕ) → May k rest → EndsAt w rest) → Reads k w (t ∷ [])
one k w t whole bytes token ends =
    record {
      on = λ rest us may s. record {
        bytes = list_all-append is_text_byte w rest ∙ and_from (list_all is_text_byte w) (list_all is_text_byte rest) bytes s.bytes;
        words = ap (map token_of) (lexemes_read w rest whole (ends rest may)) ∙ ap (λ v. v ∷ map token_of (words_of rest)) token ∙ ap (λ vs. Ok t ∷ vs) s.words;
      };
    }

blank : (k : Bool) (b : ℕ) → is_blank b ≡ true → is_text_byte b ≡ true → Reads k (b ∷ []) []
blank k b h g =
    record {
      on = λ rest us may s. record {
        bytes = and_from (is_text_byte b) (list_all is_text_byte rest) g s.bytes;
        words = ap (map token_of) (blanks_add b rest h) ∙ s.words;
      };
    }

pub space : (k : Bool) → Reads k (32 ∷ []) []
space k = blank k 32 refl refl

pub feed : (k : Bool) → Reads k (10 ∷ []) []
feed k = blank k 10 refl refl

-- ---- words

abbrev pub is_word : List ℕ → Bool
is_word [] = false
is_word (b ∷ bs) = is_word_byte b && list_all is_word_byte bs

word_begins : (b : ℕ) → is_word_byte b ≡ true → begins_lexeme b ≡ true
word_begins b h = grind (arith, nat_tests)

word_more : (b : ℕ) (x : List ℕ) → is_word_byte b ≡ true → more b x ≡ prefix_len is_word_byte x
word_more b x t =
    ap (λ v. cond v (prefix_len is_word_byte x) (cond (begins_comment b) (prefix_len (λ c. not (ends_line c)) x) (cond (may_pair b && begins_equal x) 1 0))) t

whole_prefix : (p : ℕ → Bool) (bs : List ℕ) → list_all p bs ≡ true → prefix_len p bs ≡ length bs
whole_prefix p [] h = refl
whole_prefix p (b ∷ bs) h =
    let both = and_parts (p b) (list_all p bs) h in
    ap (λ v. cond v (1 + prefix_len p bs) 0) both.0 ∙ omega (arith, whole_prefix p bs both.1)

word_whole : (w : List ℕ) → is_word w ≡ true → IsOneLexeme w
word_whole [] h = absurd (cc)
word_whole (b ∷ bs) h =
    let both = and_parts (is_word_byte b) (list_all is_word_byte bs) h in
    (word_begins b both.0, word_more b bs both.0 ∙ whole_prefix is_word_byte bs both.1)

text_byte : (b : ℕ) → is_word_byte b ≡ true → is_text_byte b ≡ true
text_byte b h = grind (arith, nat_tests)

pub all_weaker : (p q : ℕ → Bool) (bs : List ℕ) → ((b : ℕ) → p b ≡ true → q b ≡ true) → list_all p bs ≡ true → list_all q bs ≡ true
all_weaker p q [] f h = refl
all_weaker p q (b ∷ bs) f h = let both = and_parts (p b) (list_all p bs) h in and_from (q b) (list_all q bs) (f b both.0) (all_weaker p q bs f both.1)

word_bytes : (w : List ℕ) → is_word w ≡ true → list_all is_text_byte w ≡ true
word_bytes [] h = refl
word_bytes (b ∷ bs) h = all_weaker is_word_byte is_text_byte (b ∷ bs) text_byte h

none_of : (x y : Bool) → not (x || y) ≡ true → (x ≡ false) × (y ≡ false)
none_of true y h = absurd (cc)
none_of false true h = absurd (cc)
none_of false false h = (refl, refl)

word_ends : (w rest : List ℕ) → is_word w ≡ true → Apart rest → EndsAt w rest
word_ends w [] h a = tt
word_ends [] (c ∷ cs) h a = refl
word_ends (b ∷ []) (c ∷ cs) h a =
    let both = and_parts (is_word_byte b) true h in
    ap (λ v. cond v (is_word_byte c) (may_pair b && eqb c 61)) both.0 ∙ (none_of (is_word_byte c) (eqb c 61) a).0
word_ends (b ∷ d ∷ ds) (c ∷ cs) h a =
    let both = and_parts (is_word_byte b) (list_all is_word_byte (d ∷ ds)) h in
    ap (λ v. v && is_word_byte c) both.0 ∙ (none_of (is_word_byte c) (eqb c 61) a).0

pub word : (w : List ℕ) (t : Token) → is_word w ≡ true → token_of w ≡ Ok t → Reads false w (t ∷ [])
word w t h token = one false w t (word_whole w h) (word_bytes w h) token (λ rest may. word_ends w rest h may)

pub keyword_reads : (k : Keyword) → is_word (keyword_text k) ≡ true → Reads false (keyword_text k) (keyword k ∷ [])
keyword_reads k h = word (keyword_text k) (keyword k) h (keywords_read k)

-- ---- signs

closed_sign : (k : Bool) (s : Sign) → IsOneLexeme (sign_text s) → list_all is_text_byte (sign_text s) ≡ true → ((c : ℕ) → goes_on (sign_text s) c ≡ false) → Reads k (sign_text s) (sign s ∷ [])
closed_sign k s whole bytes h = one k (sign_text s) (sign s) whole bytes (signs_read s) (λ rest may. ends rest)
  where
    ends : (rest : List ℕ) → EndsAt (sign_text s) rest
    ends [] = tt
    ends (c ∷ cs) = h c

-- a sign that no byte behind it goes on
pub closed : (k : Bool) (s : Sign) → EndsAt (sign_text s) (codes "=") → Reads k (sign_text s) (sign s ∷ [])
closed k mark.OpenBrace h = closed_sign k mark.OpenBrace (refl, refl) refl (λ c. refl)
closed k mark.CloseBrace h = closed_sign k mark.CloseBrace (refl, refl) refl (λ c. refl)
closed k mark.OpenParenthesis h = closed_sign k mark.OpenParenthesis (refl, refl) refl (λ c. refl)
closed k mark.CloseParenthesis h = closed_sign k mark.CloseParenthesis (refl, refl) refl (λ c. refl)
closed k mark.OpenBracket h = closed_sign k mark.OpenBracket (refl, refl) refl (λ c. refl)
closed k mark.CloseBracket h = closed_sign k mark.CloseBracket (refl, refl) refl (λ c. refl)
closed k mark.Semicolon h = closed_sign k mark.Semicolon (refl, refl) refl (λ c. refl)
closed k mark.Comma h = closed_sign k mark.Comma (refl, refl) refl (λ c. refl)
closed k mark.Equal h = closed_sign k mark.Equal (refl, refl) refl (λ c. refl)
closed k mark.NotEqual h = closed_sign k mark.NotEqual (refl, refl) refl (λ c. refl)
closed k mark.LessEqual h = closed_sign k mark.LessEqual (refl, refl) refl (λ c. refl)
closed k mark.Plus h = closed_sign k mark.Plus (refl, refl) refl (λ c. refl)
closed k mark.Minus h = closed_sign k mark.Minus (refl, refl) refl (λ c. refl)
closed k mark.Assign h = absurd (cc)
closed k mark.Less h = absurd (cc)

-- a sign that only a `=` behind it goes on
open_sign : (s : Sign) → IsOneLexeme (sign_text s) → list_all is_text_byte (sign_text s) ≡ true → ((c : ℕ) → goes_on (sign_text s) c ≡ eqb c 61) → Reads false (sign_text s) (sign s ∷ [])
open_sign s whole bytes h = one false (sign_text s) (sign s) whole bytes (signs_read s) ends
  where
    ends : (rest : List ℕ) → Apart rest → EndsAt (sign_text s) rest
    ends [] a = tt
    ends (c ∷ cs) a = h c ∙ (none_of (is_word_byte c) (eqb c 61) a).1

pub assign_sign : Reads false (codes "=") (sign mark.Assign ∷ [])
assign_sign = open_sign mark.Assign (refl, refl) refl (λ c. refl)

pub less : Reads false (codes "<") (sign mark.Less ∷ [])
less = open_sign mark.Less (refl, refl) refl (λ c. refl)
