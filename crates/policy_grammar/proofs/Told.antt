-- What a test of a token tells, and what follows in a table of tests.
use Rattle.std.proofs.Common.{◌≡◌, ℕ, Bool, true, if◌then◌else◌, List, Some, Ok, refl, sym, ap, ◌∙◌, arith}
use Rattle.std.specs.Str.{bytes_eq}
use Rattle.std.proofs.lemmas.Bool.{cond_both, false≢true}
use Rattle.std.proofs.lemmas.Slice.Eq.{bytes_eq-Decides}
use Rattle.maple_base.specs.declared.key.Field.{Field}
use Rattle.policy_tokens.specs.declared.token.Token.{Token}
use Rattle.policy_tokens.specs.declared.token.Token.TheVariants.{Keyword as keyword, Name as name, Field as field, Sign as sign}
use Rattle.policy_tokens.specs.declared.token.Keyword.{Keyword}
use Rattle.policy_tokens.specs.declared.token.Sign.{Sign}
use Rattle.policy_tokens.specs.Spellings.{keyword_text, sign_text}
use Rattle.policy_tokens.specs.Words.{token_of}
use Rattle.policy_tokens.proofs.Readings.{keywords_read, signs_read}
use Rattle.maple_base.specs.declared.operator.Operator.{Operator}
use Rattle.policy_grammar.specs.Grammar.{is_single, operator_token}
use Rattle.policy_grammar.specs.Automaton.{is_keyword, is_sign, is_name, is_field, is_value, operator_in}

-- the first row of a table, or those behind it
pub row : {A : Type 0} {b : Bool} {x y : A} (P : A → Type 0) → (b ≡ true → P x) → P y → P (if b then x else y)
row {b = b} {x = x} {y = y} P first rest = cond_both b x y P first (λ _. rest)

same_keyword : (k l : Keyword) → bytes_eq (keyword_text l) (keyword_text k) ≡ true → l ≡ k
same_keyword k l h =
    let same = (bytes_eq-Decides (keyword_text l) (keyword_text k)).0 h in
    let read : Ok (keyword l) ≡ Ok (keyword k) = sym (keywords_read l) ∙ ap token_of same ∙ keywords_read k in
    cc

same_sign : (s r : Sign) → bytes_eq (sign_text r) (sign_text s) ≡ true → r ≡ s
same_sign s r h =
    let same = (bytes_eq-Decides (sign_text r) (sign_text s)).0 h in
    let read : Ok (sign r) ≡ Ok (sign s) = sym (signs_read r) ∙ ap token_of same ∙ signs_read s in
    cc

pub keyword_is : (k : Keyword) (t : Token) → is_keyword k t ≡ true → t ≡ keyword k
keyword_is k (keyword l) h = ap (λ x. keyword x) (same_keyword k l h)
keyword_is k t h = absurd (false≢true h)

pub sign_is : (s : Sign) (t : Token) → is_sign s t ≡ true → t ≡ sign s
sign_is s (sign r) h = ap (λ x. sign x) (same_sign s r h)
sign_is s t h = absurd (false≢true h)

pub name_is : (t : Token) → is_name t ≡ true → (x : List ℕ) × (t ≡ name x)
name_is (name x) h = (x, refl)
name_is t h = absurd (false≢true h)

pub field_is : (t : Token) → is_field t ≡ true → (f : Field) × (t ≡ field f)
field_is (field f) h = (f, refl)
field_is t h = absurd (false≢true h)

pub value_single : (t : Token) → is_value t ≡ true → is_single t ≡ true
value_single t h = grind arith

pub operator_is : (t : Token) (o : Operator) → operator_in t ≡ Some o → t ≡ operator_token o
operator_is t o e = grind arith
