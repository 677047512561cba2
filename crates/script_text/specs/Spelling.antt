-- How the words of a script's line are spelled.
use Rattle.std.specs.Prelude.{◌≡◌, ℕ, ◌+◌, ◌*◌, ◌^◌, ◌<◌, ◌≤◌, Bool, not, ◌==◌, List, [], ◌∷◌, Some, None, IsTrue}
use Rattle.std.specs.List.{join_with_byte, list_all}
use Rattle.maple_base.specs.declared.cells.Place.{Place}
use Rattle.maple_base.specs.declared.key.Field.{Field}
use Rattle.maple_base.specs.declared.key.Field.TheVariants.{InPort}
use Rattle.maple_base.specs.declared.key.Match.{Match}
use Rattle.maple_base.specs.FieldNames.{name_of}
use Rattle.maple_base.specs.Keys.{width_of, fix, fixed_of}
use Rattle.maple_text.specs.Numbers.{value_of, is_hex_digit, hex_worth}

-- a text without a byte
abbrev pub lacks : ℕ → List ℕ → Bool
lacks stop = list_all (λ b. not (b == stop))

-- a text is cut into these parts: it is the parts with the byte between each two of them, and no part has the byte
pub record IsCutAt (stop : ℕ) (text : List ℕ) (parts : List (List ℕ)) : Type 0 where
  pub joined : text ≡ join_with_byte stop parts
  pub apart : IsTrue (list_all (lacks stop) parts)

-- the words of a line, which single spaces part
abbrev pub AreWords : List ℕ → List (List ℕ) → Type 0
AreWords line words = IsCutAt 32 line words

-- a number, as decimal digits, as `0x` and digits of base 16, as an IPv4 address or as an Ethernet address
abbrev pub IsNumber : List ℕ → ℕ → Type 0
IsNumber word n = value_of word ≡ Some n

-- a port, and an Ethernet address
abbrev pub IsPort : List ℕ → ℕ → Type 0
IsPort word p = IsNumber word p × (p < 2 ^ 16)

abbrev pub IsAddress : List ℕ → ℕ → Type 0
IsAddress word m = IsNumber word m × (m < 2 ^ 48)

-- 1 to 100,000 turns
abbrev pub IsTurns : List ℕ → ℕ → Type 0
IsTurns word n = IsNumber word n × (1 ≤ n) × (n ≤ 100000)

-- a switch, and a port of it
pub record IsPlace (switch_word port_word : List ℕ) (place : Place) : Type 0 where
  pub of_switch : IsNumber switch_word place.switch
  pub of_port : IsPort port_word place.port

-- bytes, each as two digits of base 16 of either case, the high one first
pub data ArePairs : List ℕ → List ℕ → Type 0 where
  NoPair : ArePairs [] []
  Pair : {a b : ℕ} {digits bytes : List ℕ} → IsTrue (is_hex_digit a) → IsTrue (is_hex_digit b) → ArePairs digits bytes
      → ArePairs (a ∷ b ∷ digits) ((16 * hex_worth a + hex_worth b) ∷ bytes)

-- `name=number`: a field but in_port, which a line has by itself, and a number of the field's width
pub record IsField (word : List ℕ) (f : Field) (n : ℕ) : Type 0 where
  pub digits : List ℕ
  pub parts : IsCutAt 61 word (name_of f ∷ digits ∷ [])
  pub number : IsNumber digits n
  pub width : n < 2 ^ width_of f
  pub other : f ≡ InPort → ⊥

-- where these fields are named, further words name further fields, none of them twice, and then all these are named
pub data AreFields : Match → List (List ℕ) → Match → Type 0 where
  NoField : {m : Match} → AreFields m [] m
  OneField : {m all : Match} {w : List ℕ} {ws : List (List ℕ)} {f : Field} {n : ℕ} → IsField w f n → fixed_of m f ≡ None
      → AreFields (fix f n m) ws all → AreFields m (w ∷ ws) all
