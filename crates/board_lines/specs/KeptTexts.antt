-- What is kept of the text of a policy, which may be of any length: all of it, where it may be a policy's; else no more than its refusal needs.
use Rattle.std.specs.Prelude.{ℕ, ◌+◌, ◌-◌, ◌*◌, ◌≤◌, Bool, ◌==◌, ◌&&◌, nat_lt, fold, if◌then◌else◌, List, [], ◌∷◌, ◌++◌, length}
use Rattle.maple_base.specs.PolicyLimits.{most_bytes}
use Rattle.maple_text.specs.Numbers.{is_digit}
use Rattle.policy_tokens.specs.Bytes.{is_word_byte}

-- a word of so many bytes is a number or no token
abbrev pub long_word : ℕ
long_word = 39

-- what is kept of a text: bytes of it; how many of them stand ahead of the line that goes on; and of a word that goes on behind byte 65,537, how many more of its
-- bytes may be kept that are no digits, how many zeros begin the digits that end it, and how many digits stand behind these zeros
pub record Kept : Type 0 where
  pub bytes : List ℕ
  pub ahead : ℕ
  pub spare : ℕ
  pub zeros : ℕ
  pub digits : ℕ

abbrev pub nothing_kept : Kept
nothing_kept = record { bytes = []; ahead = 0; spare = long_word; zeros = 0; digits = 0 }

abbrev pub is_zero : ℕ → Bool
is_zero b = b == 48

-- a further digit of the word: a zero that begins a number is kept where fewer than 39 do, and any other digit where fewer than 39 stand behind these
abbrev pub keep_digit : Kept → ℕ → Kept
keep_digit k b =
    if is_zero b && k.digits == 0
    then (if nat_lt k.zeros long_word then record k { bytes = k.bytes ++ b ∷ []; zeros = k.zeros + 1 } else k)
    else (if nat_lt k.digits long_word then record k { bytes = k.bytes ++ b ∷ []; digits = k.digits + 1 } else k)

-- another byte: behind one that ends the word nothing is kept
abbrev pub keep_other : Kept → ℕ → Kept
keep_other k b = record k { bytes = k.bytes ++ b ∷ []; spare = (if is_word_byte b then k.spare - 1 else 0); zeros = 0; digits = 0 }

-- a byte behind the first 65,537
abbrev pub keep_behind : Kept → ℕ → Kept
keep_behind k b = if k.spare == 0 then k else (if is_digit b then keep_digit k b else keep_other k b)

-- a further byte of the text
abbrev pub keep : Kept → ℕ → Kept
keep k b = if nat_lt most_bytes (length k.bytes) then keep_behind k b else record k { bytes = k.bytes ++ b ∷ [] }

-- what is kept of a text
abbrev pub kept_text : List ℕ → List ℕ
kept_text text = (fold keep nothing_kept text).bytes

-- no more is kept than this, whatever comes: 68,696 bytes
abbrev pub most_kept : ℕ
most_kept = most_bytes + 1 + long_word * (2 * long_word + 1) + 2 * long_word

-- what holds of all that is kept
pub record IsKept (k : Kept) : Type 0 where
  pub ahead : k.ahead ≤ length k.bytes
  pub spare : k.spare ≤ long_word
  pub zeros : k.zeros ≤ long_word
  pub digits : k.digits ≤ long_word
  pub bytes : length k.bytes ≤ most_bytes + 1 + (long_word - k.spare) * (2 * long_word + 1) + k.zeros + k.digits
