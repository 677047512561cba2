-- Numbers in text.
use Rattle.std.specs.Prelude.{ℕ, ◌+◌, ◌-◌, ◌*◌, ◌^◌, Bool, false, ◌&&◌, ◌||◌, ◌==◌, nat_le, nat_lt, if◌then◌else◌, List, [], ◌∷◌, length, drop, Option, Some, None}
use Rattle.std.specs.List.{list_all, slice_split}
use Rattle.std.specs.Slice.Scan.{big_endian}
use Rattle.maple_text.specs.declared.number.Numeral.{Numeral}
use Rattle.maple_text.specs.declared.number.Numeral.TheVariants.{Number, TooGreat}

abbrev pub is_digit : ℕ → Bool
is_digit b = nat_le 48 b && nat_lt b 58

-- the number that decimal digits spell behind a number
abbrev pub digits_onto : ℕ → List ℕ → ℕ
digits_onto n [] = n
digits_onto n (b ∷ bs) = digits_onto (10 * n + (b - 48)) bs

-- one digit or more
abbrev pub is_digits : List ℕ → Bool
is_digits word = nat_lt 0 (length word) && list_all is_digit word

-- the number that a word spells in decimal digits, leading zeros allowed, where it is below 2 ^ 64
abbrev pub number_of : List ℕ → Option ℕ
number_of word = if is_digits word && nat_lt (digits_onto 0 word) (2 ^ 64) then Some (digits_onto 0 word) else None

-- a digit of base 16, of either case
abbrev pub is_hex_digit : ℕ → Bool
is_hex_digit b = is_digit b || (nat_le 97 b && nat_lt b 103) || (nat_le 65 b && nat_lt b 71)

-- what such a digit is worth
abbrev pub hex_worth : ℕ → ℕ
hex_worth b = if is_digit b then b - 48 else (if nat_le 97 b then b - 87 else b - 55)

-- the number that digits of base 16 spell behind a number
abbrev pub hex_onto : ℕ → List ℕ → ℕ
hex_onto n [] = n
hex_onto n (b ∷ bs) = hex_onto (16 * n + hex_worth b) bs

-- 1 to 16 digits of base 16
abbrev pub are_hex_digits : List ℕ → Bool
are_hex_digits ds = nat_lt 0 (length ds) && nat_le (length ds) 16 && list_all is_hex_digit ds

-- `0x` and 1 to 16 digits of base 16
abbrev pub is_hexadecimal : List ℕ → Bool
is_hexadecimal (a ∷ b ∷ ds) = a == 48 && b == 120 && are_hex_digits ds
is_hexadecimal word = false

-- a number that is told where it is below a bound
abbrev pub numeral_within : ℕ → ℕ → Numeral
numeral_within bound n = if nat_lt n bound then Number n else TooGreat

abbrev pub is_byte : ℕ → Bool
is_byte n = nat_lt n 256

-- four numbers, each of at most 255, as one number in network order
abbrev pub four_bytes : ℕ → ℕ → ℕ → ℕ → Numeral
four_bytes a b c d = if is_byte a && is_byte b && is_byte c && is_byte d then Number (big_endian 0 (a ∷ b ∷ c ∷ d ∷ [])) else TooGreat

-- an IPv4 address: four decimal numbers
abbrev pub dotted : List (List ℕ) → Option Numeral
dotted (a ∷ b ∷ c ∷ d ∷ []) =
    if is_digits a && is_digits b && is_digits c && is_digits d then Some (four_bytes (digits_onto 0 a) (digits_onto 0 b) (digits_onto 0 c) (digits_onto 0 d)) else None
dotted parts = None

-- two digits of base 16
abbrev pub is_pair : List ℕ → Bool
is_pair part = length part == 2 && list_all is_hex_digit part

-- an Ethernet address: six pairs of digits of base 16
abbrev pub paired : List (List ℕ) → Option Numeral
paired (a ∷ b ∷ c ∷ d ∷ e ∷ f ∷ []) =
    if is_pair a && is_pair b && is_pair c && is_pair d && is_pair e && is_pair f
    then Some (Number (big_endian 0 (0 ∷ 0 ∷ hex_onto 0 a ∷ hex_onto 0 b ∷ hex_onto 0 c ∷ hex_onto 0 d ∷ hex_onto 0 e ∷ hex_onto 0 f ∷ [])))
    else None
paired parts = None

abbrev pub or_else : Option Numeral → Option Numeral → Option Numeral
or_else (Some n) other = Some n
or_else None other = other

-- a word that is parted by dots or by colons
abbrev pub address_of : List ℕ → Option Numeral
address_of word = or_else (dotted (slice_split (λ b. b == 46) word)) (paired (slice_split (λ b. b == 58) word))

-- the number that a word spells: decimal digits, `0x` and digits of base 16, four decimal numbers joined by dots, or six pairs of digits of base 16
-- joined by colons; none where it is no such word; too great where it is 2 ^ 64 or more, or a part behind a dot passes 255
abbrev pub numeral_of : List ℕ → Option Numeral
numeral_of word =
    if is_digits word then Some (numeral_within (2 ^ 64) (digits_onto 0 word))
    else (if is_hexadecimal word then Some (Number (hex_onto 0 (drop 2 word))) else address_of word)

abbrev pub value_within : Option Numeral → Option ℕ
value_within (Some (Number n)) = Some n
value_within other = None

-- the number that a word spells, where it is one and not too great
abbrev pub value_of : List ℕ → Option ℕ
value_of word = value_within (numeral_of word)
