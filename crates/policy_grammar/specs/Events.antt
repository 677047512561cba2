-- What is read of a policy, part by part: the parts of an expression come ahead of what they are parts of.
use Rattle.std.specs.Prelude.{ℕ, ◌+◌, Bool, true, false, nat_lt, if◌then◌else◌, List, [], ◌∷◌, ◌++◌, length, map, Option, Some, None}
use Rattle.policy_tokens.specs.declared.token.Token.{Token}
use Rattle.policy_tokens.specs.declared.token.Token.TheVariants.{Name as name, Field as field}
use Rattle.policy_tokens.specs.declared.token.Keyword.TheVariants as word
use Rattle.policy_tokens.specs.declared.token.Sign.TheVariants as mark
use Rattle.maple_base.specs.declared.operator.Operator.{Operator}
use Rattle.policy_grammar.specs.declared.event.Event.{Event}
use Rattle.policy_grammar.specs.declared.event.Event.TheVariants as event
use Rattle.policy_grammar.specs.declared.stage.Around.{Around}
use Rattle.policy_grammar.specs.declared.stage.Around.TheVariants as around
use Rattle.policy_grammar.specs.declared.stage.Base.{Base}
use Rattle.policy_grammar.specs.declared.stage.Base.TheVariants as base
use Rattle.policy_grammar.specs.declared.stage.Block.{Block}
use Rattle.policy_grammar.specs.declared.stage.Block.TheVariants as block
use Rattle.policy_grammar.specs.declared.stage.Stage.{Stage}
use Rattle.policy_grammar.specs.declared.stage.Stage.TheVariants as at
use Rattle.policy_grammar.specs.Grammar.{Callee, Up, At, Phrase, Single, Call, Group, Negation, Test, Pair, Question, Host, Hop, Lookup, Holds, Action, Drop, Flood, Out, Route, Let, Assign, Statements, Nothing, Plain, If, IfElse, While, File}
use Rattle.policy_grammar.specs.Automaton.{State, least, pull, settle, operator_in, is_keyword, is_sign, step}

-- ---- of what is written

abbrev pub callee_event : Callee → Event
callee_event Up = event.Up
callee_event At = event.At

abbrev pub phrase_events : Phrase → List Event
phrase_events (Single t) = event.Single t ∷ []
phrase_events (Call c a b) = callee_event c ∷ (phrase_events a ++ (phrase_events b ++ event.Call ∷ []))
phrase_events (Group a) = event.Group ∷ (phrase_events a ++ event.GroupEnd ∷ [])
phrase_events (Negation a) = event.Not ∷ (phrase_events a ++ event.Negation ∷ [])
phrase_events (Test f a) = event.Single (field f) ∷ event.Is ∷ (phrase_events a ++ event.Test ∷ [])
phrase_events (Pair o a b) = phrase_events a ++ event.Operator o ∷ (phrase_events b ++ event.Pair o ∷ [])

abbrev pub question_events : Question → List Event
question_events (Host a x) = event.Begin ∷ (phrase_events a ++ event.Host ∷ event.Name x ∷ event.Bind ∷ [])
question_events (Hop a x) = event.Begin ∷ (phrase_events a ++ event.Hop ∷ event.Name x ∷ event.Bind ∷ [])
question_events (Lookup t a x) = event.Single (name t) ∷ event.Index ∷ (phrase_events a ++ event.Lookup ∷ event.Name x ∷ event.Bind ∷ [])
question_events (Holds a) = phrase_events a ++ event.Holds ∷ []

abbrev pub phrases_events : List Phrase → List Event
phrases_events [] = []
phrases_events (a ∷ as_) = phrase_events a ++ phrases_events as_

-- a statement without a block, behind its beginning
abbrev pub action_events : Action → List Event
action_events Drop = event.Drop ∷ []
action_events Flood = event.Flood ∷ []
action_events (Out a more) = phrase_events a ++ (phrases_events more ++ event.Out (length more + 1) ∷ [])
action_events (Route a) = phrase_events a ++ event.Route ∷ []
action_events (Let x a) = event.Name x ∷ (phrase_events a ++ event.Let ∷ [])
action_events (Assign x a) = event.Name x ∷ (phrase_events a ++ event.Assign ∷ [])

-- a block
abbrev pub enclosed : List Event → List Event
enclosed es = event.Open ∷ (es ++ event.Close ∷ [])

abbrev pub statements_events : Statements → List Event
statements_events Nothing = []
statements_events (Plain s rest) = event.Begin ∷ (action_events s ++ statements_events rest)
statements_events (If q first rest) = event.Begin ∷ (question_events q ++ (enclosed (statements_events first) ++ event.If ∷ statements_events rest))
statements_events (IfElse q first second rest) =
    event.Begin ∷ (question_events q ++ (enclosed (statements_events first) ++ (enclosed (statements_events second) ++ event.IfElse ∷ statements_events rest)))
statements_events (While a body rest) = event.Begin ∷ (phrase_events a ++ (enclosed (statements_events body) ++ event.While ∷ statements_events rest))

abbrev pub learning_events : Bool → List Event
learning_events true = event.Learning ∷ []
learning_events false = []

abbrev pub file_events : File → List Event
file_events f = map event.Table f.tables ++ (learning_events f.learning ++ statements_events f.body)

-- ---- of what is read

-- what ends ahead of a token
abbrev pub ended : Around → Event
ended (around.Left o) = event.Pair o
ended around.Not = event.Negation
ended around.Is = event.Test
ended around.Group = event.GroupEnd
ended around.First = event.Call
ended around.Second = event.Call

abbrev pub endings : ℕ → List Around → List Event
endings n [] = []
endings n (a ∷ as_) = if nat_lt n (least a) then ended a ∷ endings n as_ else []

abbrev pub operator_event : Option Operator → List Event
operator_event (Some o) = event.Operator o ∷ []
operator_event None = []

-- `)`: of parentheses, of a call, or of what an `if` asks
abbrev pub closing : Base → List Around → List Event
closing b (a ∷ as_) = ended a ∷ []
closing base.Host [] = event.Host ∷ []
closing base.Hop [] = event.Hop ∷ []
closing b [] = []

-- `;`
abbrev pub finished : Base → List Event
finished (base.Out n) = event.Out (n + 1) ∷ []
finished base.Route = event.Route ∷ []
finished base.Let = event.Let ∷ []
finished base.Assign = event.Assign ∷ []
finished b = []

-- `{`
abbrev pub opening : Base → List Event
opening base.If = event.Holds ∷ event.Open ∷ []
opening b = event.Open ∷ []

abbrev pub behind_events : Base → List Around → Token → List Event
behind_events b as_ t =
    if is_keyword word.Is t then event.Is ∷ [] else (if is_sign mark.OpenBracket t then event.Index ∷ [] else (
    if is_sign mark.CloseParenthesis t then closing b as_ else (if is_sign mark.Comma t then [] else (
    if is_sign mark.Semicolon t then finished b else (if is_sign mark.OpenBrace t then opening b else (
    if is_sign mark.CloseBracket t then event.Lookup ∷ [] else operator_event (operator_in t)))))))

abbrev pub ahead_events : Token → List Event
ahead_events t =
    if is_sign mark.OpenParenthesis t then event.Group ∷ [] else (if is_keyword word.Not t then event.Not ∷ [] else (
    if is_keyword word.Up t then event.Up ∷ [] else (if is_keyword word.At t then event.At ∷ [] else event.Single t ∷ [])))

-- a closing brace
abbrev pub closed_events : List Block → List Event
closed_events [] = []
closed_events (block.First ∷ bs) = event.Close ∷ []
closed_events (block.Second ∷ bs) = event.Close ∷ event.IfElse ∷ []
closed_events (block.Loop ∷ bs) = event.Close ∷ event.While ∷ []

abbrev pub name_events : Token → List Event
name_events (name x) = event.Name x ∷ []
name_events t = []

abbrev pub table_events : Token → List Event
table_events (name x) = event.Table x ∷ []
table_events t = []

abbrev pub statement_events : List Block → Token → List Event
statement_events bs t =
    if is_sign mark.CloseBrace t then closed_events bs else (if is_keyword word.Drop t then event.Begin ∷ event.Drop ∷ [] else (
    if is_keyword word.Flood t then event.Begin ∷ event.Flood ∷ [] else event.Begin ∷ name_events t))

abbrev pub question_first : Token → List Event
question_first t =
    if is_keyword word.Host t then event.Begin ∷ [] else (if is_keyword word.Hop t then event.Begin ∷ [] else ahead_events t)

abbrev pub events_at : Stage → List Around → List Block → Token → List Event
events_at at.Table as_ bs t = table_events t
events_at at.Policy as_ bs t = if is_keyword word.Learning t then event.Learning ∷ [] else []
events_at at.Statement as_ bs t = statement_events bs t
events_at at.Else as_ bs t = if is_keyword word.Else t then [] else event.If ∷ statement_events bs t
events_at at.Let as_ bs t = name_events t
events_at at.If as_ bs t = question_first t
events_at (at.Ahead b) as_ bs t = ahead_events t
events_at (at.Behind b s) as_ bs t = endings (pull t) as_ ++ behind_events b (settle (pull t) as_ s).around t
events_at at.As as_ bs t = name_events t
events_at at.Bound as_ bs t = event.Bind ∷ event.Open ∷ []
events_at at.ElseBlock as_ bs t = event.Open ∷ []
events_at p as_ bs t = []

-- what a token adds to what was read
abbrev pub events : State → Token → List Event
events s t = events_at s.stage s.around s.blocks t

abbrev pub events_onto : Option State → (State → List Event) → List Event
events_onto None rest = []
events_onto (Some n) rest = rest n

-- what is read of tokens, from a state on
abbrev pub trace : State → List Token → List Event
trace s [] = []
trace s (t ∷ ts) = events s t ++ events_onto (step s t) (λ n. trace n ts)
