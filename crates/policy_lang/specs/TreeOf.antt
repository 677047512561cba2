-- The plain tree that the parts of a policy stand for.
use Rattle.std.specs.Prelude.{List, [], ◌∷◌, map, Option, Some, None}
use Rattle.maple_base.specs.declared.operator.Operator.TheVariants as operator
use Rattle.policy_lang.specs.declared.Expr.{Expr}
use Rattle.policy_lang.specs.declared.Expr.TheVariants as expr
use Rattle.policy_lang.specs.declared.Head.{Head}
use Rattle.policy_lang.specs.declared.Head.TheVariants as head
use Rattle.policy_lang.specs.declared.Statement.{Statement, fold-Statement}
use Rattle.policy_lang.specs.declared.Statement.TheOpen as stmt
use Rattle.policy_lang.specs.declared.Statement.TheOpen.{Statement-F, Block-F}
use Rattle.policy_lang.specs.declared.Block.{Block, fold-Block}
use Rattle.policy_lang.specs.Tree.{Number, Var, SwitchOf, PortOf, PacketSwitch, Packet, Up, At, Term, Single, Call, Is, Not, Pair, Host, Hop, Table, Ask, Binds, Holds, Act, Acts, Drop, Flood, Out, Route, Let, Assign, If, IfElse, While, Done, Then}

abbrev pub term_of : Expr → Term
term_of (expr.Number n) = Single (Number n)
term_of (expr.Var x) = Single (Var x)
term_of (expr.SwitchOf x) = Single (SwitchOf x)
term_of (expr.PortOf x) = Single (PortOf x)
term_of expr.PacketSwitch = Single PacketSwitch
term_of (expr.Packet f) = Single (Packet f)
term_of (expr.Up' p l q r) = Call Up (term_of l) (term_of r)
term_of (expr.At' p l q r) = Call At (term_of l) (term_of r)
term_of (expr.Is' f p e) = Is f (term_of e)
term_of (expr.Not' p e) = Not (term_of e)
term_of (expr.And' p l q r) = Pair operator.And (term_of l) (term_of r)
term_of (expr.Or' p l q r) = Pair operator.Or (term_of l) (term_of r)
term_of (expr.Add' p l q r) = Pair operator.Add (term_of l) (term_of r)
term_of (expr.Sub' p l q r) = Pair operator.Sub (term_of l) (term_of r)
term_of (expr.Equal' p l q r) = Pair operator.Equal (term_of l) (term_of r)
term_of (expr.NotEqual' p l q r) = Pair operator.NotEqual (term_of l) (term_of r)
term_of (expr.Less' p l q r) = Pair operator.Less (term_of l) (term_of r)
term_of (expr.LessEqual' p l q r) = Pair operator.LessEqual (term_of l) (term_of r)

abbrev pub terms_of : List Expr → List Term
terms_of = map term_of

abbrev pub ask_of : Head → Ask
ask_of (head.Host e x) = Binds Host (term_of e) x
ask_of (head.Hop e x) = Binds Hop (term_of e) x
ask_of (head.Lookup t e x) = Binds (Table t) (term_of e) x
ask_of (head.Test e) = Holds (term_of e)

-- statements in order
abbrev pub in_order : List Act → Acts
in_order [] = Done
in_order (s ∷ ss) = Then s (in_order ss)

abbrev pub if_or_else : Ask → Acts → Option Acts → Act
if_or_else q first None = If q first
if_or_else q first (Some second) = IfElse q first second

-- one statement, with the trees of its blocks in their places
abbrev pub act_layer : Statement-F Act Acts → Act
act_layer stmt.Drop = Drop
act_layer stmt.Flood = Flood
act_layer (stmt.Out es) = Out (terms_of es)
act_layer (stmt.Route e) = Route (term_of e)
act_layer (stmt.Let x e) = Let x (term_of e)
act_layer (stmt.Assign x e) = Assign x (term_of e)
act_layer (stmt.If h first second) = if_or_else (ask_of h) first second
act_layer (stmt.While e body) = While (term_of e) body

abbrev pub block_layer : Block-F Act Acts → Acts
block_layer b = in_order b.list.items

abbrev pub act_of : Statement → Act
act_of = fold-Statement Act Acts act_layer block_layer

-- the tree of a block
abbrev pub tree_of : Block → Acts
tree_of = fold-Block Act Acts act_layer block_layer

-- the tree of statements
abbrev pub acts_of : List Statement → Acts
acts_of ss = in_order (map act_of ss)
