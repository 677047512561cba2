-- The bytes of a policy's text.
use Rattle.std.specs.Prelude.{ℕ, Bool, false, not, ◌&&◌, ◌||◌, ◌==◌, nat_le, List, [], ◌∷◌}

-- a printable byte of ASCII other than the space
abbrev pub is_visible : ℕ → Bool
is_visible b = nat_le 33 b && nat_le b 126

-- space, tab, line feed and carriage return part words and signs
abbrev pub is_blank : ℕ → Bool
is_blank b = b == 32 || b == 9 || b == 10 || b == 13

-- a byte that may stand in a text
abbrev pub is_text_byte : ℕ → Bool
is_text_byte b = is_visible b || is_blank b

abbrev pub is_letter : ℕ → Bool
is_letter b = (nat_le 97 b && nat_le b 122) || (nat_le 65 b && nat_le b 90)

-- a letter, a digit, `_`, `.` or `:`
abbrev pub is_word_byte : ℕ → Bool
is_word_byte b = is_letter b || (nat_le 48 b && nat_le b 57) || b == 95 || b == 46 || b == 58

-- a comment begins with `#`
abbrev pub begins_comment : ℕ → Bool
begins_comment b = b == 35

-- a line ends with a line feed
abbrev pub ends_line : ℕ → Bool
ends_line b = b == 10

-- `=`, `!` and `<` make one sign with a `=` behind them
abbrev pub may_pair : ℕ → Bool
may_pair b = b == 61 || b == 33 || b == 60

abbrev pub begins_equal : List ℕ → Bool
begins_equal [] = false
begins_equal (b ∷ bs) = b == 61

-- any visible byte begins a word or a sign, but for the `#` of a comment
abbrev pub begins_lexeme : ℕ → Bool
begins_lexeme b = is_visible b && not (begins_comment b)
