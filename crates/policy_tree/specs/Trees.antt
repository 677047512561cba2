-- The syntax tree of what is written. Parentheses make no node.
use Rattle.std.specs.Prelude.{◌≡◌, List, ◌∷◌, map}
use Rattle.policy_tokens.specs.declared.token.Token.{Token}
use Rattle.policy_tokens.specs.declared.token.Token.TheVariants.{Keyword as keyword, Name as name, Field as field, PacketSwitch as packet_switch, SwitchOf as switch_of, PortOf as port_of, Number as number, Sign as sign}
use Rattle.policy_grammar.specs.Grammar as written
use Rattle.policy_grammar.specs.Grammar.{Phrase, Group, Negation, Question, Action, Statements, Nothing, Plain, File}
use Rattle.policy_lang.specs.declared.Expr.{Expr}
use Rattle.policy_lang.specs.declared.Head.{Head}
use Rattle.policy_lang.specs.declared.Statement.{Statement}
use Rattle.policy_lang.specs.Tree.{Atom, Number, Var, SwitchOf, PortOf, PacketSwitch, Packet, Callee, Up, At, Term, Single, Call, Is, Not, Pair, Host, Hop, Table, Ask, Binds, Holds, Act, Acts, Drop, Flood, Out, Route, Let, Assign, If, IfElse, While, Done, Then}
use Rattle.policy_lang.specs.TreeOf.{term_of, terms_of, ask_of, acts_of}
use Rattle.policy_lang.specs.PolicyTree.{PolicyTree}

-- ---- expressions

-- the expression of one token; no keyword and no sign is one
abbrev pub atom_in : Token → Atom
atom_in (name x) = Var x
atom_in (field f) = Packet f
atom_in packet_switch = PacketSwitch
atom_in (switch_of x) = SwitchOf x
atom_in (port_of x) = PortOf x
atom_in (number n) = Number n
atom_in (keyword k) = Number 0
atom_in (sign s) = Number 0

abbrev pub callee_in : written.Callee → Callee
callee_in written.Up = Up
callee_in written.At = At

abbrev pub phrase_term : Phrase → Term
phrase_term (written.Single t) = Single (atom_in t)
phrase_term (written.Call c a b) = Call (callee_in c) (phrase_term a) (phrase_term b)
phrase_term (Group a) = phrase_term a
phrase_term (Negation a) = Not (phrase_term a)
phrase_term (written.Test f a) = Is f (phrase_term a)
phrase_term (written.Pair o a b) = Pair o (phrase_term a) (phrase_term b)

abbrev pub IsExpr : Phrase → Expr → Type 0
IsExpr a e = term_of e ≡ phrase_term a

abbrev pub AreExprs : List Phrase → List Expr → Type 0
AreExprs as_ es = terms_of es ≡ map phrase_term as_

-- ---- statements

abbrev pub question_ask : Question → Ask
question_ask (written.Host a x) = Binds Host (phrase_term a) x
question_ask (written.Hop a x) = Binds Hop (phrase_term a) x
question_ask (written.Lookup t a x) = Binds (Table t) (phrase_term a) x
question_ask (written.Holds a) = Holds (phrase_term a)

abbrev pub IsHead : Question → Head → Type 0
IsHead q h = ask_of h ≡ question_ask q

abbrev pub action_act : Action → Act
action_act written.Drop = Drop
action_act written.Flood = Flood
action_act (written.Out a more) = Out (map phrase_term (a ∷ more))
action_act (written.Route a) = Route (phrase_term a)
action_act (written.Let x a) = Let x (phrase_term a)
action_act (written.Assign x a) = Assign x (phrase_term a)

-- the statements of what is written
abbrev pub statements_acts : Statements → Acts
statements_acts Nothing = Done
statements_acts (Plain s rest) = Then (action_act s) (statements_acts rest)
statements_acts (written.If q first rest) = Then (If (question_ask q) (statements_acts first)) (statements_acts rest)
statements_acts (written.IfElse q first second rest) = Then (IfElse (question_ask q) (statements_acts first) (statements_acts second)) (statements_acts rest)
statements_acts (written.While a body rest) = Then (While (phrase_term a) (statements_acts body)) (statements_acts rest)

abbrev pub AreTrees : Statements → List Statement → Type 0
AreTrees ss ts = acts_of ts ≡ statements_acts ss

-- ---- files

abbrev pub file_tree : File → PolicyTree
file_tree f = record { tables = f.tables; learning = f.learning; body = statements_acts f.body }
