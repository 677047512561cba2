-- How a policy's tokens are read, one after the other. Behind each token the reader stands at a stage, with what stands around the expression that it reads and with the blocks that are open, the innermost first.
use Rattle.std.specs.Prelude.{ℕ, ◌+◌, Bool, true, false, ◌&&◌, nat_lt, nat_le, if◌then◌else◌, List, [], ◌∷◌, Option, Some, None}
use Rattle.std.specs.Option.{option_and_then}
use Rattle.std.specs.Str.{bytes_eq}
use Rattle.policy_tokens.specs.declared.token.Token.{Token}
use Rattle.policy_tokens.specs.declared.token.Token.TheVariants.{Keyword as keyword, Name as name, Field as field, PacketSwitch, SwitchOf, PortOf, Number, Sign as sign}
use Rattle.policy_tokens.specs.declared.token.Keyword.{Keyword}
use Rattle.policy_tokens.specs.declared.token.Keyword.TheVariants as word
use Rattle.policy_tokens.specs.declared.token.Sign.{Sign}
use Rattle.policy_tokens.specs.declared.token.Sign.TheVariants as mark
use Rattle.policy_tokens.specs.Spellings.{keyword_text, sign_text}
use Rattle.maple_base.specs.declared.operator.Operator.{Operator}
use Rattle.maple_base.specs.declared.operator.Operator.TheVariants.{Or, And, Equal, NotEqual, Less, LessEqual, Add, Sub}
use Rattle.policy_grammar.specs.declared.stage.Around.{Around}
use Rattle.policy_grammar.specs.declared.stage.Around.TheVariants.{Left, Not, Is, Group, First, Second}
use Rattle.policy_grammar.specs.declared.stage.Base.{Base}
use Rattle.policy_grammar.specs.declared.stage.Base.TheVariants as base
use Rattle.policy_grammar.specs.declared.stage.Shape.{Shape}
use Rattle.policy_grammar.specs.declared.stage.Shape.TheVariants as shape
use Rattle.policy_grammar.specs.declared.stage.Block.{Block}
use Rattle.policy_grammar.specs.declared.stage.Block.TheVariants as block
use Rattle.policy_grammar.specs.declared.stage.Stage.{Stage}
use Rattle.policy_grammar.specs.declared.stage.Stage.TheVariants as at
use Rattle.maple_base.specs.Operators.{level_of, left_level, right_level}
use Rattle.policy_grammar.specs.Grammar.{most_behind_first}

pub record State : Type 0 where
  pub stage : Stage
  pub around : List Around
  pub blocks : List Block

-- ---- tokens

abbrev pub is_keyword : Keyword → Token → Bool
is_keyword k (keyword l) = bytes_eq (keyword_text l) (keyword_text k)
is_keyword k t = false

abbrev pub is_sign : Sign → Token → Bool
is_sign s (sign r) = bytes_eq (sign_text r) (sign_text s)
is_sign s t = false

abbrev pub is_name : Token → Bool
is_name (name x) = true
is_name t = false

abbrev pub is_field : Token → Bool
is_field (field f) = true
is_field t = false

-- a token that is an expression of its own, and neither a name nor a field
abbrev pub is_value : Token → Bool
is_value PacketSwitch = true
is_value (SwitchOf x) = true
is_value (PortOf x) = true
is_value (Number n) = true
is_value t = false

-- of tests with what follows from each: that of the first that holds
abbrev pub chosen : {A : Type 0} → List (Bool × Option A) → Option A
chosen [] = None
chosen ((b, a) ∷ rest) = if b then a else chosen rest

abbrev pub operator_in : Token → Option Operator
operator_in t =
    chosen ((is_keyword word.Or t, Some Or) ∷ (is_keyword word.And t, Some And) ∷ (is_sign mark.Equal t, Some Equal) ∷ (is_sign mark.NotEqual t, Some NotEqual)
    ∷ (is_sign mark.Less t, Some Less) ∷ (is_sign mark.LessEqual t, Some LessEqual) ∷ (is_sign mark.Plus t, Some Add) ∷ (is_sign mark.Minus t, Some Sub) ∷ [])

-- ---- expressions

-- an expression that stands there is of at least this level
abbrev pub least : Around → ℕ
least (Left o) = right_level o
least Not = 2
least Is = 4
least Group = 0
least First = 0
least Second = 0

abbrev pub least_in : List Around → ℕ
least_in [] = 0
least_in (a ∷ as_) = least a

abbrev pub shape_level : Shape → ℕ
shape_level shape.Name = 5
shape_level shape.Field = 5
shape_level shape.Whole = 5
shape_level shape.Test = 3
shape_level shape.Negation = 2
shape_level (shape.Pair o) = level_of o

-- what an expression becomes a part of, once nothing more of it comes
abbrev pub made : Around → Shape
made (Left o) = shape.Pair o
made Not = shape.Negation
made Is = shape.Test
made Group = shape.Whole
made First = shape.Whole
made Second = shape.Whole

-- a token takes as its left part an expression of this level, with all that ends ahead of it
abbrev pub pull_of : Option Operator → ℕ
pull_of (Some o) = level_of o
pull_of None = 0

-- `is` and `[` take the name or the field just ahead of them
abbrev pub pull : Token → ℕ
pull t = if is_keyword word.Is t then 5 else (if is_sign mark.OpenBracket t then 5 else pull_of (operator_in t))

pub record Settled : Type 0 where
  pub around : List Around
  pub shape : Shape

-- what ends ahead of a token
abbrev pub settle : ℕ → List Around → Shape → Settled
settle n [] s = record { around = []; shape = s }
settle n (a ∷ as_) s = if nat_lt n (least a) then settle n as_ (made a) else record { around = a ∷ as_; shape = s }

-- ---- the reader

-- a state without an expression
abbrev pub to : Stage → List Block → Option State
to p bs = Some (record { stage = p; around = []; blocks = bs })

-- a state in an expression
abbrev pub within : Stage → List Around → List Block → Option State
within p as_ bs = Some (record { stage = p; around = as_; blocks = bs })

abbrev pub ahead : Base → List Around → List Block → Token → Option State
ahead b as_ bs t =
    chosen ((is_sign mark.OpenParenthesis t, within (at.Ahead b) (Group ∷ as_) bs)
    ∷ (is_keyword word.Not t && nat_le (least_in as_) 2, within (at.Ahead b) (Not ∷ as_) bs)
    ∷ (is_keyword word.Up t, within (at.Callee b) as_ bs)
    ∷ (is_keyword word.At t, within (at.Callee b) as_ bs)
    ∷ (is_name t, within (at.Behind b shape.Name) as_ bs)
    ∷ (is_field t, within (at.Behind b shape.Field) as_ bs)
    ∷ (is_value t, within (at.Behind b shape.Whole) as_ bs) ∷ [])

abbrev pub behind_operator : Base → List Around → Shape → List Block → Operator → Option State
behind_operator b as_ s bs o = if nat_le (left_level o) (shape_level s) then within (at.Ahead b) (Left o ∷ as_) bs else None

-- `is`, behind a field that a test may begin with
abbrev pub behind_is : Base → List Around → Shape → List Block → Option State
behind_is b as_ shape.Field bs = if nat_le (least_in as_) 3 then within (at.Ahead b) (Is ∷ as_) bs else None
behind_is b as_ s bs = None

-- `[`, behind the name of a table
abbrev pub behind_bracket : Base → List Around → Shape → List Block → Option State
behind_bracket base.If [] shape.Name bs = to (at.Ahead base.Lookup) bs
behind_bracket b as_ s bs = None

-- `)`
abbrev pub behind_parenthesis : Base → List Around → List Block → Option State
behind_parenthesis b (Group ∷ as_) bs = within (at.Behind b shape.Whole) as_ bs
behind_parenthesis b (Second ∷ as_) bs = within (at.Behind b shape.Whole) as_ bs
behind_parenthesis base.Host [] bs = to at.Asked bs
behind_parenthesis base.Hop [] bs = to at.Asked bs
behind_parenthesis b as_ bs = None

-- `,`
abbrev pub behind_comma : Base → List Around → List Block → Option State
behind_comma b (First ∷ as_) bs = within (at.Ahead b) (Second ∷ as_) bs
behind_comma (base.Out n) [] bs = if nat_lt n most_behind_first then to (at.Ahead (base.Out (n + 1))) bs else None
behind_comma b as_ bs = None

-- `;`
abbrev pub behind_semicolon : Base → List Around → List Block → Option State
behind_semicolon (base.Out n) [] bs = to at.Statement bs
behind_semicolon base.Route [] bs = to at.Statement bs
behind_semicolon base.Let [] bs = to at.Statement bs
behind_semicolon base.Assign [] bs = to at.Statement bs
behind_semicolon b as_ bs = None

-- `{`
abbrev pub behind_brace : Base → List Around → List Block → Option State
behind_brace base.If [] bs = to at.Statement (block.First ∷ bs)
behind_brace base.While [] bs = to at.Statement (block.Loop ∷ bs)
behind_brace b as_ bs = None

-- `]`
abbrev pub behind_index : Base → List Around → List Block → Option State
behind_index base.Lookup [] bs = to at.Asked bs
behind_index b as_ bs = None

abbrev pub behind : Base → Settled → List Block → Token → Option State
behind b s bs t =
    chosen ((is_keyword word.Is t, behind_is b s.around s.shape bs)
    ∷ (is_sign mark.OpenBracket t, behind_bracket b s.around s.shape bs)
    ∷ (is_sign mark.CloseParenthesis t, behind_parenthesis b s.around bs)
    ∷ (is_sign mark.Comma t, behind_comma b s.around bs)
    ∷ (is_sign mark.Semicolon t, behind_semicolon b s.around bs)
    ∷ (is_sign mark.OpenBrace t, behind_brace b s.around bs)
    ∷ (is_sign mark.CloseBracket t, behind_index b s.around bs)
    ∷ (true, option_and_then (behind_operator b s.around s.shape bs) (operator_in t)) ∷ [])

-- a closing brace, of the innermost block that is open or of the policy
abbrev pub closed : List Block → Option State
closed [] = to at.End []
closed (block.First ∷ bs) = to at.Else bs
closed (block.Second ∷ bs) = to at.Statement bs
closed (block.Loop ∷ bs) = to at.Statement bs

abbrev pub statement : List Block → Token → Option State
statement bs t =
    chosen ((is_keyword word.Drop t, to at.Decided bs) ∷ (is_keyword word.Flood t, to at.Decided bs) ∷ (is_keyword word.Out t, to (at.Ahead (base.Out 0)) bs)
    ∷ (is_keyword word.Route t, to (at.Ahead base.Route) bs) ∷ (is_keyword word.Let t, to at.Let bs) ∷ (is_keyword word.If t, to at.If bs)
    ∷ (is_keyword word.While t, to (at.Ahead base.While) bs) ∷ (is_name t, to at.Assigned bs) ∷ (is_sign mark.CloseBrace t, closed bs) ∷ [])

-- where one token alone may stand
abbrev pub only : Bool → Option State → Option State
only b s = if b then s else None

abbrev pub step_at : Stage → List Around → List Block → Token → Option State
step_at at.Start as_ bs t = chosen ((is_keyword word.Table t, to at.Table bs) ∷ (is_keyword word.Policy t, to at.Policy bs) ∷ [])
step_at at.Table as_ bs t = only (is_name t) (to at.TableName bs)
step_at at.TableName as_ bs t = only (is_sign mark.Semicolon t) (to at.Start bs)
step_at at.Policy as_ bs t = chosen ((is_keyword word.Learning t, to at.Learning bs) ∷ (is_sign mark.OpenBrace t, to at.Statement bs) ∷ [])
step_at at.Learning as_ bs t = only (is_sign mark.OpenBrace t) (to at.Statement bs)
step_at at.Statement as_ bs t = statement bs t
step_at at.Else as_ bs t = if is_keyword word.Else t then to at.ElseBlock bs else statement bs t
step_at at.Decided as_ bs t = only (is_sign mark.Semicolon t) (to at.Statement bs)
step_at at.Let as_ bs t = only (is_name t) (to at.LetName bs)
step_at at.LetName as_ bs t = only (is_sign mark.Assign t) (to (at.Ahead base.Let) bs)
step_at at.Assigned as_ bs t = only (is_sign mark.Assign t) (to (at.Ahead base.Assign) bs)
step_at at.If as_ bs t =
    if is_keyword word.Host t then to (at.Asks base.Host) bs else (if is_keyword word.Hop t then to (at.Asks base.Hop) bs else ahead base.If [] bs t)
step_at (at.Asks b) as_ bs t = only (is_sign mark.OpenParenthesis t) (to (at.Ahead b) bs)
step_at (at.Ahead b) as_ bs t = ahead b as_ bs t
step_at (at.Callee b) as_ bs t = only (is_sign mark.OpenParenthesis t) (within (at.Ahead b) (First ∷ as_) bs)
step_at (at.Behind b s) as_ bs t = behind b (settle (pull t) as_ s) bs t
step_at at.Asked as_ bs t = only (is_keyword word.As t) (to at.As bs)
step_at at.As as_ bs t = only (is_name t) (to at.Bound bs)
step_at at.Bound as_ bs t = only (is_sign mark.OpenBrace t) (to at.Statement (block.First ∷ bs))
step_at at.ElseBlock as_ bs t = only (is_sign mark.OpenBrace t) (to at.Statement (block.Second ∷ bs))
step_at at.End as_ bs t = None

-- the state behind a token, where one may stand there
abbrev pub step : State → Token → Option State
step s t = step_at s.stage s.around s.blocks t

-- the state behind tokens
abbrev pub run : State → List Token → Option State
run s [] = Some s
run s (t ∷ ts) = option_and_then (λ next. run next ts) (step s t)

abbrev pub start : State
start = record { stage = at.Start; around = []; blocks = [] }

abbrev pub end : State
end = record { stage = at.End; around = []; blocks = [] }
