-- The words and signs of a policy's text. A word is a longest run of letters, digits, `_`, `.` and `:`; a sign is two bytes where these make one, else one.
use Rattle.std.specs.Prelude.{ℕ, zero, suc, ◌+◌, not, ◌&&◌, if◌then◌else◌, List, [], ◌∷◌, take, Option, Some, None}
use Rattle.std.specs.Option.{option_map}
use Rattle.std.specs.List.{prefix_len, cons_option}
use Rattle.policy_tokens.specs.Bytes.{is_word_byte, begins_comment, ends_line, may_pair, begins_equal, begins_lexeme}

-- a word or a sign: how many bytes of the text stand ahead of it, and its own bytes
pub record Lexeme : Type 0 where
  pub offset : ℕ
  pub bytes : List ℕ

-- how many of the bytes behind a byte belong to the word, the comment or the sign that it begins; a comment goes on to the end of its line
abbrev pub more : ℕ → List ℕ → ℕ
more b behind =
    if is_word_byte b then prefix_len is_word_byte behind
    else (if begins_comment b then prefix_len (λ c. not (ends_line c)) behind else (if may_pair b && begins_equal behind then 1 else 0))

-- the word or the sign that begins with the first byte of a text; none, where that byte belongs to what began before it
abbrev pub begun : ℕ → List ℕ → Option (List ℕ)
begun zero (b ∷ bs) = if begins_lexeme b then Some (b ∷ take (more b bs) bs) else None
begun past bs = None

-- how many of the bytes behind the first one belong to what began with it or before it
abbrev pub past_behind : ℕ → ℕ → List ℕ → ℕ
past_behind zero b bs = more b bs
past_behind (suc past) b bs = past

abbrev pub lexeme : ℕ → List ℕ → Lexeme
lexeme offset bytes = record { offset = offset; bytes = bytes }

-- the words and signs from a position in the text on, of whose bytes so many belong to what began before
abbrev pub lexemes_from : ℕ → ℕ → List ℕ → List Lexeme
lexemes_from past offset [] = []
lexemes_from past offset (b ∷ bs) = cons_option (option_map (lexeme offset) (begun past (b ∷ bs))) (lexemes_from (past_behind past b bs) (offset + 1) bs)

-- the words and signs of a text
abbrev pub lexemes_of : List ℕ → List Lexeme
lexemes_of text = lexemes_from 0 0 text
