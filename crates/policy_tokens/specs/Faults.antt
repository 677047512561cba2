-- What is wrong with a policy's text, as far as its bytes, words and signs tell, and which fault comes first.
use Rattle.std.specs.Prelude.{◌≡◌, ℕ, ◌+◌, Bool, true, false, ◌&&◌, ◌||◌, ◌==◌, nat_lt, if◌then◌else◌, List, [], ◌∷◌, ◌++◌, length, Option, Some, None}
use Rattle.std.specs.Option.{option_map}
use Rattle.std.specs.Result.{result_err}
use Rattle.std.specs.List.{filter_map}
use Rattle.maple_base.specs.declared.policy_fault.PolicyFault.{PolicyFault}
use Rattle.maple_base.specs.declared.policy_fault.PolicyFault.TheVariants.{NotAscii, Token as no_token, NumberRange, TooLong}
use Rattle.policy_tokens.specs.declared.fault.TokensError.{TokensError}
use Rattle.policy_tokens.specs.declared.fault.TokensError.TheVariants.{Fault as fault, NoMemory}
use Rattle.policy_tokens.specs.Bytes.{is_text_byte}
use Rattle.maple_base.specs.PolicyFaults.{number_of}
use Rattle.maple_base.specs.PolicyLimits.{most_bytes}
use Rattle.policy_tokens.specs.Lexemes.{Lexeme, lexemes_of}
use Rattle.policy_tokens.specs.Positions.{position_at}
use Rattle.policy_tokens.specs.Words.{token_of}

-- what is wrong, and how many bytes stand ahead of it
pub record Fault : Type 0 where
  pub offset : ℕ
  pub kind : PolicyFault

abbrev pub fault_at : ℕ → PolicyFault → Fault
fault_at offset kind = record { offset = offset; kind = kind }

-- the bytes that may not stand in a text, in comments too, from a position on
abbrev pub strange_bytes : ℕ → List ℕ → List Fault
strange_bytes offset [] = []
strange_bytes offset (b ∷ bs) = if is_text_byte b then strange_bytes (offset + 1) bs else fault_at offset NotAscii ∷ strange_bytes (offset + 1) bs

-- a text has at most 65,536 bytes; the fault is at the byte behind these
abbrev pub too_long : List ℕ → List Fault
too_long text = if nat_lt most_bytes (length text) then fault_at most_bytes TooLong ∷ [] else []

-- a word or a sign that is no token
abbrev pub lexeme_fault : Lexeme → Option Fault
lexeme_fault l = option_map (fault_at l.offset) (result_err (token_of l.bytes))

-- all faults of a text
abbrev pub faults : List ℕ → List Fault
faults text = strange_bytes 0 text ++ too_long text ++ filter_map lexeme_fault (lexemes_of text)

-- the earlier position decides, and at one position the lesser number
abbrev pub is_before : Fault → Fault → Bool
is_before f g = nat_lt f.offset g.offset || (f.offset == g.offset && nat_lt (number_of f.kind) (number_of g.kind))

abbrev pub earlier : Fault → Option Fault → Fault
earlier f None = f
earlier f (Some g) = if is_before g f then g else f

-- the first of these faults
abbrev pub earliest : List Fault → Option Fault
earliest [] = None
earliest (f ∷ fs) = Some (earlier f (earliest fs))

-- a fault's position and kind, as errors tell them
abbrev pub told : List ℕ → Fault → TokensError
told text f = fault (position_at text f.offset) f.kind

-- the error tells the first fault of the text
abbrev pub IsErrorOf : List ℕ → TokensError → Type 0
IsErrorOf text NoMemory = Unit {0}
IsErrorOf text (fault position kind) = option_map (told text) (earliest (faults text)) ≡ Some (fault position kind)

-- the faults of bytes, words and signs
abbrev pub is_of_tokens : PolicyFault → Bool
is_of_tokens NotAscii = true
is_of_tokens no_token = true
is_of_tokens NumberRange = true
is_of_tokens TooLong = true
is_of_tokens kind = false

abbrev pub IsFaultOfTokens : TokensError → Type 0
IsFaultOfTokens NoMemory = Unit {0}
IsFaultOfTokens (fault position kind) = is_of_tokens kind ≡ true
