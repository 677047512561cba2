-- What is written in the printed form of a policy: the words of its tree, and parentheses round each part whose level is too low for its place.
use Rattle.std.specs.Prelude.{ℕ, nat_lt, if◌then◌else◌, map, List, [], ◌∷◌}
use Rattle.maple_base.specs.Operators.{left_level, right_level}
use Rattle.policy_tokens.specs.declared.token.Token.{Token}
use Rattle.policy_tokens.specs.declared.token.Token.TheVariants.{Name as name, Field as field, PacketSwitch as packet_switch, SwitchOf as switch_of, PortOf as port_of, Number as number}
use Rattle.policy_grammar.specs.Grammar as written
use Rattle.policy_grammar.specs.Grammar.{Phrase, Group, Negation, Question, Statements, Nothing, Plain, File}
use Rattle.policy_lang.specs.Nodes.{level_of}
use Rattle.policy_lang.specs.PolicyTree.{PolicyTree}
use Rattle.policy_lang.specs.Tree.{Atom, Number, Var, SwitchOf, PortOf, PacketSwitch, Packet, Callee, Up, At, Term, Single, Call, Is, Not, Pair, Host, Hop, Table, Ask, Binds, Holds, Act, Acts, Drop, Flood, Out, Route, Let, Assign, If, IfElse, While, Done, Then}

-- ---- expressions

abbrev pub atom_token : Atom → Token
atom_token (Number n) = number n
atom_token (Var x) = name x
atom_token (SwitchOf x) = switch_of x
atom_token (PortOf x) = port_of x
atom_token PacketSwitch = packet_switch
atom_token (Packet f) = field f

abbrev pub callee_written : Callee → written.Callee
callee_written Up = written.Up
callee_written At = written.At

-- where a part of at least a level may stand, one of a lesser level stands in parentheses
abbrev pub in_group : ℕ → ℕ → Phrase → Phrase
in_group least level a = if nat_lt level least then Group a else a

abbrev pub phrase_of : Term → Phrase
phrase_of (Single a) = written.Single (atom_token a)
phrase_of (Call c l r) = written.Call (callee_written c) (phrase_of l) (phrase_of r)
phrase_of (Is f e) = written.Test f (in_group 4 (level_of e) (phrase_of e))
phrase_of (Not e) = Negation (in_group 2 (level_of e) (phrase_of e))
phrase_of (Pair o l r) = written.Pair o (in_group (left_level o) (level_of l) (phrase_of l)) (in_group (right_level o) (level_of r) (phrase_of r))

-- ---- statements

abbrev pub question_of : Ask → Question
question_of (Binds Host e x) = written.Host (phrase_of e) x
question_of (Binds Hop e x) = written.Hop (phrase_of e) x
question_of (Binds (Table t) e x) = written.Lookup t (phrase_of e) x
question_of (Holds e) = written.Holds (phrase_of e)

-- an `out` has an expression
abbrev pub out_of : List Term → written.Action
out_of [] = written.Drop
out_of (e ∷ es) = written.Out (phrase_of e) (map phrase_of es)

abbrev mutual
  -- a statement, ahead of the statements behind it
  pub put : Act → Statements → Statements
  put Drop rest = Plain written.Drop rest
  put Flood rest = Plain written.Flood rest
  put (Out es) rest = Plain (out_of es) rest
  put (Route e) rest = Plain (written.Route (phrase_of e)) rest
  put (Let x e) rest = Plain (written.Let x (phrase_of e)) rest
  put (Assign x e) rest = Plain (written.Assign x (phrase_of e)) rest
  put (If q b) rest = written.If (question_of q) (statements_of b) rest
  put (IfElse q b c) rest = written.IfElse (question_of q) (statements_of b) (statements_of c) rest
  put (While e b) rest = written.While (phrase_of e) (statements_of b) rest

  -- what is written of statements
  pub statements_of : Acts → Statements
  statements_of Done = Nothing
  statements_of (Then s rest) = put s (statements_of rest)

-- the file that the printed form of a policy is
abbrev pub file_of : PolicyTree → File
file_of p = record { tables = p.tables; learning = p.learning; body = statements_of p.body }
