-- What was read so far. A reader's state keeps no names and no expressions: here is what was written, for each state.
use Rattle.std.proofs.Common.{◌≡◌, ℕ, ◌≤◌, Bool, List, [], ◌∷◌, ◌++◌, length, Option, Some, None}
use Rattle.std.specs.Prelude.{All}
use Rattle.maple_base.specs.declared.key.Field.{Field}
use Rattle.policy_tokens.specs.declared.token.Token.{Token}
use Rattle.policy_tokens.specs.declared.token.Token.TheVariants.{Keyword as keyword, Name as name, Field as field, Sign as sign}
use Rattle.policy_tokens.specs.declared.token.Keyword.TheVariants as word
use Rattle.policy_tokens.specs.declared.token.Sign.TheVariants as mark
use Rattle.policy_grammar.specs.declared.stage.Around.{Around}
use Rattle.policy_grammar.specs.declared.stage.Around.TheVariants.{Left, Not, Is, Group, First, Second}
use Rattle.policy_grammar.specs.declared.stage.Base.{Base}
use Rattle.policy_grammar.specs.declared.stage.Base.TheVariants as base
use Rattle.policy_grammar.specs.declared.stage.Shape.{Shape}
use Rattle.policy_grammar.specs.declared.stage.Shape.TheVariants as shape
use Rattle.policy_grammar.specs.declared.stage.Block.{Block}
use Rattle.policy_grammar.specs.declared.stage.Block.TheVariants as block
use Rattle.policy_grammar.specs.declared.stage.Stage.{Stage}
use Rattle.policy_grammar.specs.declared.stage.Stage.TheVariants as at
use Rattle.maple_base.specs.Operators.{level_of, left_level}
use Rattle.policy_grammar.specs.Grammar.{Phrase, Single, Callee, callee_token, operator_token, phrase_tokens, IsPhrase, Question, question_tokens, IsQuestion, Action, action_tokens, IsAction, Statements, statements_tokens, AreStatements, if_tokens, File, tables_tokens, learning_tokens, file_tokens}
use Rattle.policy_grammar.specs.Automaton.{State, least_in, shape_level}

-- ---- expressions

-- an expression of at least this level
pub record PhraseOf (level : ℕ) : Type 0 where
  pub phrase : Phrase
  pub right : IsPhrase level phrase

-- what is written around an expression
abbrev pub AroundOf : List Around → Type 0
AroundOf [] = Unit {0}
AroundOf (Left o ∷ as_) = AroundOf as_ × PhraseOf (left_level o) × (least_in as_ ≤ level_of o)
AroundOf (Not ∷ as_) = AroundOf as_ × (least_in as_ ≤ 2)
AroundOf (Is ∷ as_) = AroundOf as_ × Field × (least_in as_ ≤ 3)
AroundOf (Group ∷ as_) = AroundOf as_
AroundOf (First ∷ as_) = AroundOf as_ × Callee
AroundOf (Second ∷ as_) = AroundOf as_ × Callee × PhraseOf 0

abbrev pub around_tokens : (as_ : List Around) → AroundOf as_ → List Token
around_tokens [] w = []
around_tokens (Left o ∷ as_) w = around_tokens as_ w.0 ++ (phrase_tokens w.1.phrase ++ operator_token o ∷ [])
around_tokens (Not ∷ as_) w = around_tokens as_ w.0 ++ keyword word.Not ∷ []
around_tokens (Is ∷ as_) w = around_tokens as_ w.0 ++ field w.1 ∷ keyword word.Is ∷ []
around_tokens (Group ∷ as_) w = around_tokens as_ w ++ sign mark.OpenParenthesis ∷ []
around_tokens (First ∷ as_) w = around_tokens as_ w.0 ++ callee_token w.1 ∷ sign mark.OpenParenthesis ∷ []
around_tokens (Second ∷ as_) w = around_tokens as_ w.0 ++ callee_token w.1 ∷ sign mark.OpenParenthesis ∷ (phrase_tokens w.2.phrase ++ sign mark.Comma ∷ [])

-- a name or a field stands alone
abbrev pub Alone : Shape → Phrase → Type 0
Alone shape.Name a = (x : List ℕ) × (a ≡ Single (name x))
Alone shape.Field a = (f : Field) × (a ≡ Single (field f))
Alone s a = Unit {0}

-- an expression of this shape, where one of at least this level may stand
pub record ShapedOf (s : Shape) (level : ℕ) : Type 0 where
  pub phrase : Phrase
  pub right : IsPhrase (shape_level s) phrase
  pub alone : Alone s phrase
  pub room : level ≤ shape_level s

-- the expressions of an `out` ahead of the one that is read
pub record OutOf (n : ℕ) : Type 0 where
  pub ahead : List Phrase
  pub right : All (IsPhrase 0) ahead
  pub count : length ahead ≡ n
  pub few : n ≤ 15

abbrev pub ahead_tokens : List Phrase → List Token
ahead_tokens [] = []
ahead_tokens (a ∷ as_) = phrase_tokens a ++ sign mark.Comma ∷ ahead_tokens as_

-- what is written ahead of an expression and what stands around it
abbrev pub BaseOf : Base → Type 0
BaseOf (base.Out n) = OutOf n
BaseOf base.Let = List ℕ
BaseOf base.Assign = List ℕ
BaseOf base.Lookup = List ℕ
BaseOf b = Unit {0}

abbrev pub base_tokens : (b : Base) → BaseOf b → List Token
base_tokens (base.Out n) w = keyword word.Out ∷ ahead_tokens w.ahead
base_tokens base.Route w = keyword word.Route ∷ []
base_tokens base.Let x = keyword word.Let ∷ name x ∷ sign mark.Assign ∷ []
base_tokens base.Assign x = name x ∷ sign mark.Assign ∷ []
base_tokens base.If w = keyword word.If ∷ []
base_tokens base.While w = keyword word.While ∷ []
base_tokens base.Host w = keyword word.If ∷ keyword word.Host ∷ sign mark.OpenParenthesis ∷ []
base_tokens base.Hop w = keyword word.If ∷ keyword word.Hop ∷ sign mark.OpenParenthesis ∷ []
base_tokens base.Lookup x = keyword word.If ∷ name x ∷ sign mark.OpenBracket ∷ []

-- ---- statements

pub record StatementsOf : Type 0 where
  pub statements : Statements
  pub right : AreStatements statements

pub record QuestionOf : Type 0 where
  pub question : Question
  pub right : IsQuestion question

-- a question without the name that it binds
pub record AskingOf : Type 0 where
  pub front : List Token
  pub question : List ℕ → Question
  pub right : (x : List ℕ) → IsQuestion (question x)
  pub same : (x : List ℕ) → question_tokens (question x) ≡ front ++ keyword word.As ∷ name x ∷ []

-- a statement without the semicolon
pub record DecidedOf : Type 0 where
  pub front : List Token
  pub action : Action
  pub right : IsAction action
  pub same : action_tokens action ≡ front ++ sign mark.Semicolon ∷ []

-- behind `host` and `hop`
abbrev pub AsksOf : Base → Type 0
AsksOf base.Host = Unit {0}
AsksOf base.Hop = Unit {0}
AsksOf b = ⊥

abbrev pub asks_tokens : (b : Base) → AsksOf b → List Token
asks_tokens base.Host w = keyword word.If ∷ keyword word.Host ∷ []
asks_tokens base.Hop w = keyword word.If ∷ keyword word.Hop ∷ []
asks_tokens b w = absurd w

-- what is written of a file ahead of its statements
pub record HeadOf : Type 0 where
  pub tables : List (List ℕ)
  pub learning : Bool

-- what is written ahead of the statements of the innermost block, by the blocks that are open
abbrev pub OpenOf : List Block → Type 0
OpenOf [] = HeadOf
OpenOf (block.First ∷ bs) = OpenOf bs × StatementsOf × QuestionOf
OpenOf (block.Second ∷ bs) = OpenOf bs × StatementsOf × QuestionOf × StatementsOf
OpenOf (block.Loop ∷ bs) = OpenOf bs × StatementsOf × PhraseOf 0

abbrev pub open_tokens : (bs : List Block) → OpenOf bs → List Token
open_tokens [] w = tables_tokens w.tables ++ keyword word.Policy ∷ (learning_tokens w.learning ++ sign mark.OpenBrace ∷ [])
open_tokens (block.First ∷ bs) w = open_tokens bs w.0 ++ (statements_tokens w.1.statements ++ keyword word.If ∷ (question_tokens w.2.question ++ sign mark.OpenBrace ∷ []))
open_tokens (block.Second ∷ bs) w =
    open_tokens bs w.0 ++ (statements_tokens w.1.statements ++ (if_tokens w.2.question (statements_tokens w.3.statements) ++ keyword word.Else ∷ sign mark.OpenBrace ∷ []))
open_tokens (block.Loop ∷ bs) w = open_tokens bs w.0 ++ (statements_tokens w.1.statements ++ keyword word.While ∷ (phrase_tokens w.2.phrase ++ sign mark.OpenBrace ∷ []))

-- what is written behind the statements of the innermost block
abbrev pub StageOf : Stage → List Around → Type 0
StageOf at.Statement as_ = Unit {0}
StageOf at.Else as_ = QuestionOf × StatementsOf
StageOf at.Decided as_ = DecidedOf
StageOf at.Let as_ = Unit {0}
StageOf at.LetName as_ = List ℕ
StageOf at.Assigned as_ = List ℕ
StageOf at.If as_ = Unit {0}
StageOf (at.Asks b) as_ = AsksOf b
StageOf (at.Ahead b) as_ = BaseOf b × AroundOf as_
StageOf (at.Callee b) as_ = BaseOf b × AroundOf as_ × Callee
StageOf (at.Behind b s) as_ = BaseOf b × AroundOf as_ × ShapedOf s (least_in as_)
StageOf at.Asked as_ = AskingOf
StageOf at.As as_ = AskingOf
StageOf at.Bound as_ = QuestionOf
StageOf at.ElseBlock as_ = QuestionOf × StatementsOf
StageOf p as_ = ⊥

abbrev pub stage_tokens : (p : Stage) (as_ : List Around) → StageOf p as_ → List Token
stage_tokens at.Statement as_ w = []
stage_tokens at.Else as_ w = if_tokens w.0.question (statements_tokens w.1.statements)
stage_tokens at.Decided as_ w = w.front
stage_tokens at.Let as_ w = keyword word.Let ∷ []
stage_tokens at.LetName as_ x = keyword word.Let ∷ name x ∷ []
stage_tokens at.Assigned as_ x = name x ∷ []
stage_tokens at.If as_ w = keyword word.If ∷ []
stage_tokens (at.Asks b) as_ w = asks_tokens b w
stage_tokens (at.Ahead b) as_ w = base_tokens b w.0 ++ around_tokens as_ w.1
stage_tokens (at.Callee b) as_ w = base_tokens b w.0 ++ (around_tokens as_ w.1 ++ callee_token w.2 ∷ [])
stage_tokens (at.Behind b s) as_ w = base_tokens b w.0 ++ (around_tokens as_ w.1 ++ phrase_tokens w.2.phrase)
stage_tokens at.Asked as_ w = keyword word.If ∷ w.front
stage_tokens at.As as_ w = keyword word.If ∷ (w.front ++ keyword word.As ∷ [])
stage_tokens at.Bound as_ w = keyword word.If ∷ question_tokens w.question
stage_tokens at.ElseBlock as_ w = if_tokens w.0.question (statements_tokens w.1.statements) ++ keyword word.Else ∷ []
stage_tokens p as_ w = absurd w

-- ---- files

abbrev pub NoneOpen : List Block → Type 0
NoneOpen [] = Unit {0}
NoneOpen (b ∷ bs) = ⊥

-- a whole text
pub record FileOf : Type 0 where
  pub file : File
  pub right : AreStatements file.body

-- what is written where no statements are read: ahead of them all, and behind them all
abbrev pub OuterOf : Stage → List Block → Type 0
OuterOf at.Start bs = NoneOpen bs × List (List ℕ)
OuterOf at.Table bs = NoneOpen bs × List (List ℕ)
OuterOf at.TableName bs = NoneOpen bs × List (List ℕ) × List ℕ
OuterOf at.Policy bs = NoneOpen bs × List (List ℕ)
OuterOf at.Learning bs = NoneOpen bs × List (List ℕ)
OuterOf at.End bs = FileOf
OuterOf p bs = ⊥

abbrev pub outer_tokens : (p : Stage) (bs : List Block) → OuterOf p bs → List Token
outer_tokens at.Start bs w = tables_tokens w.1
outer_tokens at.Table bs w = tables_tokens w.1 ++ keyword word.Table ∷ []
outer_tokens at.TableName bs w = tables_tokens w.1 ++ keyword word.Table ∷ name w.2 ∷ []
outer_tokens at.Policy bs w = tables_tokens w.1 ++ keyword word.Policy ∷ []
outer_tokens at.Learning bs w = tables_tokens w.1 ++ keyword word.Policy ∷ keyword word.Learning ∷ []
outer_tokens at.End bs w = file_tokens w.file
outer_tokens p bs w = absurd w

-- what is written where the reader is in a state, and its tokens
pub data Written (s : State) : Type 0 where
  Outer : OuterOf s.stage s.blocks → Written s
  Inner : OpenOf s.blocks → StatementsOf → StageOf s.stage s.around → Written s

-- the tokens of what is written in the policy's braces
abbrev pub inner_tokens : (bs : List Block) → OpenOf bs → StatementsOf → List Token → List Token
inner_tokens bs o ss ts = open_tokens bs o ++ (statements_tokens ss.statements ++ ts)

abbrev pub tokens_of : (s : State) → Written s → List Token
tokens_of s (Outer w) = outer_tokens s.stage s.blocks w
tokens_of s (Inner o ss w) = inner_tokens s.blocks o ss (stage_tokens s.stage s.around w)

-- these tokens are what is written where the reader is in the state
pub record Reached (ts : List Token) (s : State) : Type 0 where
  pub written : Written s
  pub same : tokens_of s written ≡ ts

-- the state behind one more token, if there is one, is reached by all of them
abbrev pub Led : List Token → Option State → Type 0
Led ts None = Unit {0}
Led ts (Some s) = Reached ts s

pub record Leads (ts : List Token) (t : Token) (next : Option State) : Type 0 where
  pub led : Led (ts ++ t ∷ []) next
