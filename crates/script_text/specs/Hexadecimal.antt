-- Bytes in pairs of hexadecimal digits, of either case.
use Rattle.std.specs.Prelude.{ℕ, ◌+◌, ◌*◌, ◌%◌, Bool, ◌&&◌, ◌==◌, nat_le, List, [], ◌∷◌, length}
use Rattle.std.specs.List.{list_all}
use Rattle.maple_text.specs.Numbers.{is_hex_digit, hex_worth}

-- an even number of digits, at least two
abbrev pub are_pairs : List ℕ → Bool
are_pairs digits = nat_le 2 (length digits) && length digits % 2 == 0 && list_all is_hex_digit digits

-- the bytes of pairs of digits
abbrev pub paired_bytes : List ℕ → List ℕ
paired_bytes (a ∷ b ∷ digits) = (16 * hex_worth a + hex_worth b) ∷ paired_bytes digits
paired_bytes digits = []
