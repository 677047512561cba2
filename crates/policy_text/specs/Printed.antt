-- The printed form of a policy: one statement a line, two spaces more in each block, and parentheses exactly where the tree could not be read without them.
use Rattle.std.specs.Prelude.{ℕ, zero, suc, Bool, true, false, nat_lt, if◌then◌else◌, List, [], ◌∷◌, ◌++◌, Option, Some, None, codes}
use Rattle.std.specs.Fmt.{decimal}
use Rattle.std.specs.List.{flat_map}
use Rattle.maple_base.specs.FieldNames.{name_of}
use Rattle.maple_base.specs.Operators.{left_level, right_level}
use Rattle.maple_base.specs.declared.key.Field.{Field}
use Rattle.maple_base.specs.declared.operator.Operator.{Operator}
use Rattle.maple_base.specs.declared.operator.Operator.TheVariants.{Or, And, Equal, NotEqual, Less, LessEqual, Add, Sub}
use Rattle.policy_lang.specs.declared.Policy.{Policy}
use Rattle.policy_lang.specs.Tree.{Atom, Number, Var, SwitchOf, PortOf, PacketSwitch, Packet, Callee, Up, At, Term, Single, Call, Is, Not, Pair, Source, Host, Hop, Table, Ask, Binds, Holds, Act, Acts, Drop, Flood, Out, Route, Let, Assign, If, IfElse, While, Done, Then}
use Rattle.policy_lang.specs.PolicyTree.{PolicyTree, policy_tree}
use Rattle.policy_lang.specs.Nodes.{level_of}

-- one text and then another
infixr 8 ◌&◌
abbrev pub ◌&◌ : List ℕ → List ℕ → List ℕ
a & b = a ++ b

-- ---- expressions

-- where a part of at least a level may stand, one of a lesser level stands in parentheses
abbrev pub in_place : ℕ → ℕ → List ℕ → List ℕ
in_place least level text = if nat_lt level least then codes "(" & text & codes ")" else text

-- a field of the packet
abbrev pub field_text : Field → List ℕ
field_text f = codes "pkt." & name_of f

-- two parts with an operator between
abbrev pub around : List ℕ → List ℕ → List ℕ → List ℕ
around sign left right = left & codes " " & sign & codes " " & right

abbrev pub sign_of : Operator → List ℕ
sign_of Or = codes "or"
sign_of And = codes "and"
sign_of Equal = codes "=="
sign_of NotEqual = codes "!="
sign_of Less = codes "<"
sign_of LessEqual = codes "<="
sign_of Add = codes "+"
sign_of Sub = codes "-"

-- two parts, each with its level, and their operator between
abbrev pub joined : Operator → ℕ → List ℕ → ℕ → List ℕ → List ℕ
joined o k left m right = around (sign_of o) (in_place (left_level o) k left) (in_place (right_level o) m right)

-- a call of two parts
abbrev pub call_text : List ℕ → List ℕ → List ℕ → List ℕ
call_text name left right = name & codes "(" & left & codes ", " & right & codes ")"

abbrev pub callee_text : Callee → List ℕ
callee_text Up = codes "up"
callee_text At = codes "at"

abbrev pub atom_text : Atom → List ℕ
atom_text (Number n) = decimal n
atom_text (Var x) = x
atom_text (SwitchOf x) = x & codes ".switch"
atom_text (PortOf x) = x & codes ".port"
atom_text PacketSwitch = codes "pkt.switch"
atom_text (Packet f) = field_text f

-- the text of an expression; chains of one operator group to the left
abbrev pub expr_text : Term → List ℕ
expr_text (Single a) = atom_text a
expr_text (Call c l r) = call_text (callee_text c) (expr_text l) (expr_text r)
expr_text (Is f e) = around (codes "is") (field_text f) (in_place 4 (level_of e) (expr_text e))
expr_text (Not e) = codes "not " & in_place 2 (level_of e) (expr_text e)
expr_text (Pair o l r) = joined o (level_of l) (expr_text l) (level_of r) (expr_text r)

-- ---- statements

-- expressions, each behind a comma
abbrev pub more_text : List Term → List ℕ
more_text [] = []
more_text (e ∷ es) = codes ", " & expr_text e & more_text es

-- expressions with commas between
abbrev pub exprs_text : List Term → List ℕ
exprs_text [] = []
exprs_text (e ∷ es) = expr_text e & more_text es

-- what stands ahead of a binding head's expression, and behind it
abbrev pub source_text : Source → List ℕ
source_text Host = codes "host("
source_text Hop = codes "hop("
source_text (Table t) = t & codes "["

abbrev pub source_end : Source → List ℕ
source_end Host = codes ") as "
source_end Hop = codes ") as "
source_end (Table t) = codes "] as "

abbrev pub head_text : Ask → List ℕ
head_text (Binds s e x) = source_text s & expr_text e & source_end s & x
head_text (Holds e) = expr_text e

-- two spaces for each block round a line
abbrev pub indent : ℕ → List ℕ
indent zero = []
indent (suc blocks) = codes "  " & indent blocks

abbrev pub line : ℕ → List ℕ → List ℕ
line blocks text = indent blocks & text & codes "\n"

-- lines of a statement or a block, by the number of blocks round them
abbrev pub Lines : Type 0
Lines = ℕ → List ℕ

-- the block of an `else`, and the closing brace
abbrev pub else_text : Option Lines → Lines
else_text None blocks = line blocks (codes "}")
else_text (Some second) blocks = line blocks (codes "} else {") & second (suc blocks) & line blocks (codes "}")

-- an `if`: its line, its block, and the block of its `else` or the closing brace
abbrev pub if_text : Ask → Lines → Option Lines → Lines
if_text h first second blocks = line blocks (codes "if " & head_text h & codes " {") & first (suc blocks) & else_text second blocks

abbrev pub while_text : Term → Lines → Lines
while_text e body blocks = line blocks (codes "while " & expr_text e & codes " {") & body (suc blocks) & line blocks (codes "}")

abbrev mutual
  pub act_text : Act → Lines
  act_text Drop = λ blocks. line blocks (codes "drop;")
  act_text Flood = λ blocks. line blocks (codes "flood;")
  act_text (Out es) = λ blocks. line blocks (codes "out " & exprs_text es & codes ";")
  act_text (Route e) = λ blocks. line blocks (codes "route " & expr_text e & codes ";")
  act_text (Let x e) = λ blocks. line blocks (codes "let " & x & codes " = " & expr_text e & codes ";")
  act_text (Assign x e) = λ blocks. line blocks (x & codes " = " & expr_text e & codes ";")
  act_text (If q b) = if_text q (acts_text b) None
  act_text (IfElse q b c) = if_text q (acts_text b) (Some (acts_text c))
  act_text (While e b) = while_text e (acts_text b)

  -- the lines of statements
  pub acts_text : Acts → Lines
  acts_text Done = λ blocks. []
  acts_text (Then s rest) = λ blocks. act_text s blocks & acts_text rest blocks

-- ---- policies

abbrev pub table_text : List ℕ → List ℕ
table_text x = codes "table " & x & codes ";\n"

abbrev pub opening : Bool → List ℕ
opening true = codes "policy learning {\n"
opening false = codes "policy {\n"

-- the printed form of a tree
abbrev pub text_of : PolicyTree → List ℕ
text_of p = flat_map table_text p.tables & opening p.learning & acts_text p.body 1 & codes "}\n"

-- the printed form of a policy
abbrev pub policy_text : Policy → List ℕ
policy_text p = text_of (policy_tree p)
