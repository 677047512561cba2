-- Which policy a text is of, and what is told of a text that is of none. A text is tested in three passes: over its bytes, words and signs; over its grammar and its limits; over its names and types. The first pass that finds a fault decides, by the first position, and there by the least number.
use Rattle.std.specs.Prelude.{◌≡◌, ◌⊎◌, ℕ, map, List, [], Some, unwrap_or}
use Rattle.std.specs.List.{slice_get}
use Rattle.std.specs.Option.{option_map}
use Rattle.maple_base.specs.declared.policy_fault.PolicyFault.{PolicyFault}
use Rattle.maple_base.specs.PolicyFaults.{number_of}
use Rattle.policy_lang.specs.declared.Policy.{Policy}
use Rattle.policy_lang.specs.Faults.{Fault, name_faults, first_by, place_in}
use Rattle.policy_lang.specs.PolicyTree.{policy_tree}
use Rattle.policy_tokens.specs.declared.token.Token.{Token}
use Rattle.policy_tokens.specs.declared.token.Position.{Position}
use Rattle.policy_tokens.specs.declared.fault.TokensError.TheVariants.{Fault as token_fault}
use Rattle.policy_tokens.specs.Faults.{faults, IsErrorOf}
use Rattle.policy_tokens.specs.Tokens.{TokenList, tokens_of}
use Rattle.policy_grammar.specs.Grammar.{File, AreStatements, file_tokens}
use Rattle.policy_outline.specs.FileNodes.{file_nodes, site_token}
use Rattle.policy_outline.specs.Limits.{IsFree, IsFault}
use Rattle.policy_tree.specs.Trees.{statements_acts, file_tree}
use Rattle.policy_text.specs.declared.reading.ReadError.{ReadError}
use Rattle.policy_text.specs.declared.reading.ReadError.TheVariants.{Refused, NoMemory}

-- ---- texts of policies

abbrev pub plain : TokenList → List Token
plain list = map (λ p. p.token) list.tokens

-- the tokens are those of a file that the grammar has and that passes no limit
pub record IsFileOf (f : File) (tokens : List Token) : Type 0 where
  pub body : AreStatements f.body
  pub same : tokens ≡ file_tokens f
  pub free : IsFree f

-- what is wrong with the names and types of a file
abbrev pub file_faults : File → List Fault
file_faults f = name_faults f.tables (statements_acts f.body)

-- the policy is that of these tokens: it is the syntax tree of their file, and its names and types are right
pub record IsPolicyOf (policy : Policy) (tokens : List Token) : Type 0 where
  pub file : File
  pub is_file : IsFileOf file tokens
  pub tree : policy_tree policy ≡ file_tree file
  pub named : file_faults file ≡ []

-- the text is one of this policy: each of its bytes, words and signs is right, and the policy is that of its tokens
pub record IsTextOf (policy : Policy) (text : List ℕ) : Type 0 where
  pub faultless : faults text ≡ []
  pub is_policy : IsPolicyOf policy (plain (tokens_of text))

-- ---- what is told of other texts

-- the position of the token that has so many ahead of it, and that of the end where all are ahead
abbrev pub token_position : TokenList → ℕ → Position
token_position list i = unwrap_or (option_map (λ t. t.position) (slice_get list.tokens i)) list.end

-- the first pass finds this fault
pub record IsTokenFault (text : List ℕ) (position : Position) (kind : ℕ) : Type 0 where
  pub fault : PolicyFault
  pub first : IsErrorOf text (token_fault position fault)
  pub number : kind ≡ number_of fault

-- the second pass finds it
pub record IsOutlineFault (list : TokenList) (position : Position) (kind : ℕ) : Type 0 where
  pub token : ℕ
  pub fault : PolicyFault
  pub first : IsFault (plain list) token fault
  pub lies : position ≡ token_position list token
  pub number : kind ≡ number_of fault

-- the third pass finds it: of the names and types of its file, the first by the tokens at which they lie, tables ahead of all
pub record IsNameFault (list : TokenList) (position : Position) (kind : ℕ) : Type 0 where
  pub file : File
  pub is_file : IsFileOf file (plain list)
  pub fault : Fault
  pub first : first_by (place_in (file_nodes file)) (file_faults file) ≡ Some fault
  pub lies : position ≡ token_position list (site_token file fault.site)
  pub number : kind ≡ number_of fault.kind

-- one pass finds it, and the passes ahead find nothing
abbrev pub IsTold : List ℕ → Position → ℕ → Type 0
IsTold text position kind =
    IsTokenFault text position kind ⊎ ((faults text ≡ []) × (IsOutlineFault (tokens_of text) position kind ⊎ IsNameFault (tokens_of text) position kind))

abbrev pub HasNoPolicy : List ℕ → Type 0
HasNoPolicy text = (policy : Policy) → ¬ (IsTextOf policy text)

-- the error tells what is wrong with a text that no policy has, or that memory ran out
abbrev pub IsRefused : List ℕ → ReadError → Type 0
IsRefused text (Refused line column kind) = HasNoPolicy text × IsTold text (record { line = line; column = column }) kind
IsRefused text NoMemory = Unit {0}

-- ---- what is told of tokens

-- the second or the third pass finds this, or memory ran out
abbrev pub IsWrong : TokenList → ReadError → Type 0
IsWrong list (Refused line column kind) =
    IsOutlineFault list (record { line = line; column = column }) kind ⊎ IsNameFault list (record { line = line; column = column }) kind
IsWrong list NoMemory = Unit {0}
