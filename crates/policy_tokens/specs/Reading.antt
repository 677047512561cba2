-- What is read at one byte of a text.
use Rattle.std.specs.Prelude.{ℕ, if◌then◌else◌, List, ◌∷◌, Option, Some, None, Result, Ok, Err}
use Rattle.policy_tokens.specs.declared.token.Token.{Token}
use Rattle.maple_base.specs.declared.policy_fault.PolicyFault.{PolicyFault}
use Rattle.maple_base.specs.declared.policy_fault.PolicyFault.TheVariants.{NotAscii}
use Rattle.policy_tokens.specs.Bytes.{is_text_byte}
use Rattle.policy_tokens.specs.Lexemes.{begun}
use Rattle.policy_tokens.specs.Words.{token_of}

abbrev pub some_token : Result Token PolicyFault → Result (Option Token) PolicyFault
some_token (Ok t) = Ok (Some t)
some_token (Err k) = Err k

abbrev pub token_begun : Option (List ℕ) → Result (Option Token) PolicyFault
token_begun None = Ok None
token_begun (Some bytes) = some_token (token_of bytes)

-- the token that begins with a byte, if one does, or the first fault there
abbrev pub front_token : ℕ → ℕ → List ℕ → Result (Option Token) PolicyFault
front_token past b bs = if is_text_byte b then token_begun (begun past (b ∷ bs)) else Err NotAscii
