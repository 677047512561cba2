-- The grammar of policies: what is written in a policy's text, and which tokens are written. An expression is written at a level: 0 is a chain of `or`, 1 of `and`, 2 a negation, 3 a comparison or a test of a field, 4 a chain of `+` and `-`, 5 a single thing or parentheses. Each is also one of every lesser level.
use Rattle.std.specs.Prelude.{◌≡◌, ℕ, ◌≤◌, Bool, true, false, List, [], ◌∷◌, ◌++◌, length, All, ⊤}
use Rattle.maple_base.specs.declared.key.Field.{Field}
use Rattle.policy_tokens.specs.declared.token.Token.{Token}
use Rattle.policy_tokens.specs.declared.token.Token.TheVariants.{Keyword as keyword, Name as name, Field as field, PacketSwitch, SwitchOf, PortOf, Number, Sign as sign}
use Rattle.policy_tokens.specs.declared.token.Keyword.TheVariants as word
use Rattle.policy_tokens.specs.declared.token.Sign.TheVariants as mark
use Rattle.maple_base.specs.declared.operator.Operator.{Operator}
use Rattle.maple_base.specs.declared.operator.Operator.TheVariants.{Or, And, Equal, NotEqual, Less, LessEqual, Add, Sub}
use Rattle.maple_base.specs.Operators.{level_of, left_level, right_level}

-- ---- expressions

-- the calls with two expressions
pub data Callee : Type 0 where
  Up : Callee
  At : Callee

-- an expression, as it is written
pub data Phrase : Type 0 where
  -- a number, a name, a part of a place, the packet's switch or a field of it
  Single : Token → Phrase
  -- `up(a, b)` or `at(a, b)`
  Call : Callee → Phrase → Phrase → Phrase
  -- `(a)`
  Group : Phrase → Phrase
  -- `not a`
  Negation : Phrase → Phrase
  -- `pkt.f is a`
  Test : Field → Phrase → Phrase
  -- `a or b` and its kin
  Pair : Operator → Phrase → Phrase → Phrase

abbrev pub callee_token : Callee → Token
callee_token Up = keyword word.Up
callee_token At = keyword word.At

abbrev pub operator_token : Operator → Token
operator_token Or = keyword word.Or
operator_token And = keyword word.And
operator_token Equal = sign mark.Equal
operator_token NotEqual = sign mark.NotEqual
operator_token Less = sign mark.Less
operator_token LessEqual = sign mark.LessEqual
operator_token Add = sign mark.Plus
operator_token Sub = sign mark.Minus

-- the tokens of an expression
abbrev pub phrase_tokens : Phrase → List Token
phrase_tokens (Single t) = t ∷ []
phrase_tokens (Call c a b) = callee_token c ∷ sign mark.OpenParenthesis ∷ (phrase_tokens a ++ sign mark.Comma ∷ (phrase_tokens b ++ sign mark.CloseParenthesis ∷ []))
phrase_tokens (Group a) = sign mark.OpenParenthesis ∷ (phrase_tokens a ++ sign mark.CloseParenthesis ∷ [])
phrase_tokens (Negation a) = keyword word.Not ∷ phrase_tokens a
phrase_tokens (Test f a) = field f ∷ keyword word.Is ∷ phrase_tokens a
phrase_tokens (Pair o a b) = phrase_tokens a ++ operator_token o ∷ phrase_tokens b

-- a token that is an expression of its own
abbrev pub is_single : Token → Bool
is_single (keyword k) = false
is_single (name x) = true
is_single (field f) = true
is_single PacketSwitch = true
is_single (SwitchOf x) = true
is_single (PortOf x) = true
is_single (Number n) = true
is_single (sign s) = false

-- the grammar has this expression at this level
abbrev pub IsPhrase : ℕ → Phrase → Type 0
IsPhrase least (Single t) = is_single t ≡ true
IsPhrase least (Call c a b) = IsPhrase 0 a × IsPhrase 0 b
IsPhrase least (Group a) = IsPhrase 0 a
IsPhrase least (Negation a) = (least ≤ 2) × IsPhrase 2 a
IsPhrase least (Test f a) = (least ≤ 3) × IsPhrase 4 a
IsPhrase least (Pair o a b) = (least ≤ level_of o) × IsPhrase (left_level o) a × IsPhrase (right_level o) b

-- ---- statements

-- what an `if` asks: `host(a) as x`, `hop(a) as x`, `t[a] as x`, or an expression
pub data Question : Type 0 where
  Host : Phrase → List ℕ → Question
  Hop : Phrase → List ℕ → Question
  Lookup : List ℕ → Phrase → List ℕ → Question
  Holds : Phrase → Question

-- a statement without a block
pub data Action : Type 0 where
  Drop : Action
  Flood : Action
  -- the first expression of an `out`, and those behind it
  Out : Phrase → List Phrase → Action
  Route : Phrase → Action
  Let : List ℕ → Phrase → Action
  Assign : List ℕ → Phrase → Action

-- statements, one after the other: the first, with its blocks, and those behind it
pub data Statements : Type 0 where
  Nothing : Statements
  Plain : Action → Statements → Statements
  If : Question → Statements → Statements → Statements
  IfElse : Question → Statements → Statements → Statements → Statements
  While : Phrase → Statements → Statements → Statements

abbrev pub question_tokens : Question → List Token
question_tokens (Host a x) = keyword word.Host ∷ sign mark.OpenParenthesis ∷ (phrase_tokens a ++ sign mark.CloseParenthesis ∷ keyword word.As ∷ name x ∷ [])
question_tokens (Hop a x) = keyword word.Hop ∷ sign mark.OpenParenthesis ∷ (phrase_tokens a ++ sign mark.CloseParenthesis ∷ keyword word.As ∷ name x ∷ [])
question_tokens (Lookup t a x) = name t ∷ sign mark.OpenBracket ∷ (phrase_tokens a ++ sign mark.CloseBracket ∷ keyword word.As ∷ name x ∷ [])
question_tokens (Holds a) = phrase_tokens a

-- expressions, each behind a comma
abbrev pub more_tokens : List Phrase → List Token
more_tokens [] = []
more_tokens (a ∷ as_) = sign mark.Comma ∷ (phrase_tokens a ++ more_tokens as_)

abbrev pub action_tokens : Action → List Token
action_tokens Drop = keyword word.Drop ∷ sign mark.Semicolon ∷ []
action_tokens Flood = keyword word.Flood ∷ sign mark.Semicolon ∷ []
action_tokens (Out a more) = keyword word.Out ∷ (phrase_tokens a ++ (more_tokens more ++ sign mark.Semicolon ∷ []))
action_tokens (Route a) = keyword word.Route ∷ (phrase_tokens a ++ sign mark.Semicolon ∷ [])
action_tokens (Let x a) = keyword word.Let ∷ name x ∷ sign mark.Assign ∷ (phrase_tokens a ++ sign mark.Semicolon ∷ [])
action_tokens (Assign x a) = name x ∷ sign mark.Assign ∷ (phrase_tokens a ++ sign mark.Semicolon ∷ [])

abbrev pub in_braces : List Token → List Token
in_braces ts = sign mark.OpenBrace ∷ (ts ++ sign mark.CloseBrace ∷ [])

abbrev pub if_tokens : Question → List Token → List Token
if_tokens q first = keyword word.If ∷ (question_tokens q ++ in_braces first)

abbrev pub while_tokens : Phrase → List Token → List Token
while_tokens a body = keyword word.While ∷ (phrase_tokens a ++ in_braces body)

abbrev pub statements_tokens : Statements → List Token
statements_tokens Nothing = []
statements_tokens (Plain s rest) = action_tokens s ++ statements_tokens rest
statements_tokens (If q first rest) = if_tokens q (statements_tokens first) ++ statements_tokens rest
statements_tokens (IfElse q first second rest) =
    if_tokens q (statements_tokens first) ++ (keyword word.Else ∷ in_braces (statements_tokens second)) ++ statements_tokens rest
statements_tokens (While a body rest) = while_tokens a (statements_tokens body) ++ statements_tokens rest

-- the grammar has these parts
abbrev pub IsQuestion : Question → Type 0
IsQuestion (Host a x) = IsPhrase 0 a
IsQuestion (Hop a x) = IsPhrase 0 a
IsQuestion (Lookup t a x) = IsPhrase 0 a
IsQuestion (Holds a) = IsPhrase 0 a

-- an `out` has at most 16 expressions: this many behind the first
abbrev pub most_behind_first : ℕ
most_behind_first = 15

abbrev pub IsAction : Action → Type 0
IsAction Drop = ⊤
IsAction Flood = ⊤
IsAction (Out a more) = IsPhrase 0 a × All (IsPhrase 0) more × (length more ≤ most_behind_first)
IsAction (Route a) = IsPhrase 0 a
IsAction (Let x a) = IsPhrase 0 a
IsAction (Assign x a) = IsPhrase 0 a

abbrev pub AreStatements : Statements → Type 0
AreStatements Nothing = ⊤
AreStatements (Plain s rest) = IsAction s × AreStatements rest
AreStatements (If q first rest) = IsQuestion q × AreStatements first × AreStatements rest
AreStatements (IfElse q first second rest) = IsQuestion q × AreStatements first × AreStatements second × AreStatements rest
AreStatements (While a body rest) = IsPhrase 0 a × AreStatements body × AreStatements rest

-- ---- files

-- a whole text: the tables that it names, whether it is of a policy that learns, and its statements
pub record File : Type 0 where
  pub tables : List (List ℕ)
  pub learning : Bool
  pub body : Statements

abbrev pub tables_tokens : List (List ℕ) → List Token
tables_tokens [] = []
tables_tokens (x ∷ xs) = keyword word.Table ∷ name x ∷ sign mark.Semicolon ∷ tables_tokens xs

abbrev pub learning_tokens : Bool → List Token
learning_tokens true = keyword word.Learning ∷ []
learning_tokens false = []

abbrev pub file_tokens : File → List Token
file_tokens f = tables_tokens f.tables ++ (keyword word.Policy ∷ (learning_tokens f.learning ++ in_braces (statements_tokens f.body)))

-- the tokens are those of a file that the grammar has
pub record IsText (tokens : List Token) : Type 0 where
  pub file : File
  pub body : AreStatements file.body
  pub same : tokens ≡ file_tokens file

-- some file begins with these tokens
pub record Begins (tokens : List Token) : Type 0 where
  pub rest : List Token
  pub whole : IsText (tokens ++ rest)
