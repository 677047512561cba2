-- Which faults words and signs have.
use Rattle.std.proofs.Common.{◌≡◌, ℕ, ◌<◌, eqb, List, Option, Result, Ok, Err, true, refl, subst, arith}
use Rattle.std.specs.Option.{option_map}
use Rattle.std.specs.List.{find, slice_split}
use Rattle.std.specs.Str.{bytes_eq}
use Rattle.std.proofs.lemmas.Bool.{cond_both}
use Rattle.maple_text.specs.Numbers.{numeral_of}
use Rattle.maple_text.specs.declared.number.Numeral.{Numeral}
use Rattle.policy_tokens.specs.declared.token.Token.{Token}
use Rattle.policy_tokens.specs.declared.token.Token.TheVariants.{Sign as sign_token}
use Rattle.maple_base.specs.declared.policy_fault.PolicyFault.{PolicyFault}
use Rattle.maple_base.specs.declared.policy_fault.PolicyFault.TheVariants.{Token as no_token}
use Rattle.maple_base.specs.PolicyFaults.{number_of}
use Rattle.policy_tokens.specs.Faults.{is_of_tokens}
use Rattle.policy_tokens.specs.Spellings.{sign_text, signs}
use Rattle.policy_tokens.specs.Words.{plain_token, parts_token, numeral_token, token_or, word_token, sign_of, token_of, begins_word}

-- a fault is one of words and signs
abbrev IsOfWords : Result Token PolicyFault → Type 0
IsOfWords (Ok t) = Unit {0}
IsOfWords (Err k) = (number_of k < 10) × (is_of_tokens k ≡ true)

of_or : (o : Option Token) (r : Result Token PolicyFault) → IsOfWords r → IsOfWords (token_or o r)
of_or o r h = grind arith

of_numeral : (n : Option Numeral) → IsOfWords (numeral_token n)
of_numeral n = grind arith

of_words : (bytes : List ℕ) → IsOfWords (token_of bytes)
of_words bytes =
    let parts = parts_token (slice_split (λ b. eqb b 46) bytes) in
    let numeral = numeral_token (numeral_of bytes) in
    cond_both (begins_word bytes) (word_token bytes) (sign_of bytes) IsOfWords
    (λ _. of_or (plain_token bytes) (token_or parts numeral) (of_or parts numeral (of_numeral (numeral_of bytes))))
    (λ _. of_or (option_map sign_token (find (λ s. bytes_eq (sign_text s) bytes) signs)) (Err no_token) (omega arith, refl))

-- a word or a sign that is no token has a kind of its own, and comes before a text that is too long
pub kind_of_words : (bytes : List ℕ) (k : PolicyFault) → token_of bytes ≡ Err k → (number_of k < 10) × (is_of_tokens k ≡ true)
kind_of_words bytes k e = subst IsOfWords e (of_words bytes)
