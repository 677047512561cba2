-- Which token a word or a sign is, or why it is none.
use Rattle.std.specs.Prelude.{ℕ, Bool, false, ◌==◌, if◌then◌else◌, List, [], ◌∷◌, Option, Some, None, Result, Ok, Err, codes}
use Rattle.std.specs.Option.{option_map}
use Rattle.std.specs.List.{find, slice_split}
use Rattle.std.specs.Str.{bytes_eq}
use Rattle.maple_base.specs.FieldNames.{field_named}
use Rattle.maple_base.specs.Names.{is_name}
use Rattle.maple_text.specs.Numbers.{numeral_of}
use Rattle.maple_text.specs.declared.number.Numeral.{Numeral}
use Rattle.maple_text.specs.declared.number.Numeral.TheVariants.{Number as number, TooGreat}
use Rattle.policy_tokens.specs.declared.token.Token.{Token}
use Rattle.policy_tokens.specs.declared.token.Token.TheVariants.{Keyword as keyword_token, Name as name_token, Field as field_token, PacketSwitch, SwitchOf, PortOf, Number as number_token, Sign as sign_token}
use Rattle.maple_base.specs.declared.policy_fault.PolicyFault.{PolicyFault}
use Rattle.maple_base.specs.declared.policy_fault.PolicyFault.TheVariants.{Token as no_token, NumberRange}
use Rattle.policy_tokens.specs.Bytes.{is_word_byte}
use Rattle.policy_tokens.specs.Spellings.{keyword_text, keywords, sign_text, signs}

-- a keyword, or a name
abbrev pub plain_token : List ℕ → Option Token
plain_token word = if is_name word then Some (name_token word) else option_map keyword_token (find (λ k. bytes_eq (keyword_text k) word) keywords)

-- behind `pkt.`: a field of the packet, or the switch that it came to
abbrev pub packet_token : List ℕ → Option Token
packet_token part = if bytes_eq part (codes "switch") then Some PacketSwitch else option_map field_token (field_named part)

-- behind a name and a dot: the switch or the port of a place
abbrev pub place_token : List ℕ → List ℕ → Option Token
place_token name part =
    if bytes_eq part (codes "switch") then Some (SwitchOf name) else (if bytes_eq part (codes "port") then Some (PortOf name) else None)

-- a word of two parts with a dot between them
abbrev pub parts_token : List (List ℕ) → Option Token
parts_token (front ∷ part ∷ []) =
    if bytes_eq front (codes "pkt") then packet_token part else (if is_name front then place_token front part else None)
parts_token parts = None

-- a number; too great a one is a fault
abbrev pub numeral_token : Option Numeral → Result Token PolicyFault
numeral_token (Some (number n)) = Ok (number_token n)
numeral_token (Some TooGreat) = Err NumberRange
numeral_token None = Err no_token

abbrev pub token_or : Option Token → Result Token PolicyFault → Result Token PolicyFault
token_or (Some t) other = Ok t
token_or None other = other

-- a word is a keyword, a name, a field or the switch of the packet, the switch or the port of a place, or a number
abbrev pub word_token : List ℕ → Result Token PolicyFault
word_token word = token_or (plain_token word) (token_or (parts_token (slice_split (λ b. b == 46) word)) (numeral_token (numeral_of word)))

abbrev pub sign_of : List ℕ → Result Token PolicyFault
sign_of bytes = token_or (option_map sign_token (find (λ s. bytes_eq (sign_text s) bytes) signs)) (Err no_token)

abbrev pub begins_word : List ℕ → Bool
begins_word [] = false
begins_word (b ∷ bs) = is_word_byte b

-- the token that a word or a sign is
abbrev pub token_of : List ℕ → Result Token PolicyFault
token_of bytes = if begins_word bytes then word_token bytes else sign_of bytes
