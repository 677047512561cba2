-- The tokens of a policy's text.
use Rattle.std.specs.Prelude.{ℕ, List, AllPairs, All, length, Option}
use Rattle.std.specs.Option.{option_map}
use Rattle.std.specs.Result.{result_ok}
use Rattle.std.specs.List.{filter_map}
use Rattle.policy_tokens.specs.declared.token.Position.{Position}
use Rattle.policy_tokens.specs.declared.token.Token.{Token}
use Rattle.policy_tokens.specs.declared.token.PlacedToken.{PlacedToken}
use Rattle.policy_tokens.specs.Lexemes.{Lexeme, lexemes_of}
use Rattle.policy_tokens.specs.Positions.{position_at, IsAhead}
use Rattle.policy_tokens.specs.Words.{token_of}

-- tokens in the order of the text, and the position behind the text
pub record TokenList : Type 0 where
  pub tokens : List PlacedToken
  pub end : Position

abbrev pub placed_at : Position → Token → PlacedToken
placed_at position token = record { token = token; position = position }

-- the token that a word or a sign is, at the position of its first byte
abbrev pub placed : List ℕ → Lexeme → Option PlacedToken
placed text l = option_map (placed_at (position_at text l.offset)) (result_ok (token_of l.bytes))

-- the tokens of a text and the position of its end
abbrev pub tokens_of : List ℕ → TokenList
tokens_of text = record { tokens = filter_map (placed text) (lexemes_of text); end = position_at text (length text) }

-- each token stands ahead of the later ones and of the end
pub record IsInOrder (list : TokenList) : Type 0 where
  pub apart : AllPairs (λ t u. IsAhead t.position u.position) list.tokens
  pub within : All (λ t. IsAhead t.position list.end) list.tokens
