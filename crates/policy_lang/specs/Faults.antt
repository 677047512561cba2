-- What is wrong with a policy's names and types, and which fault comes first.
--
-- Each statement, binding head and expression is a node. Nodes are numbered from 1 in the order of the text; of two nodes that begin with one word the outer one comes first.
use Rattle.std.specs.Prelude.{◌≡◌, ℕ, ◌+◌, ◌-◌, Bool, true, false, not, ◌&&◌, ◌||◌, ◌==◌, nat_lt, if◌then◌else◌, List, [], ◌∷◌, ◌++◌, Option, Some, None, is_some, is_none, unwrap_or}
use Rattle.std.specs.List.{list_any, slice_get}
use Rattle.std.specs.Str.{bytes_eq}
use Rattle.maple_base.specs.declared.operator.Operator.{Operator}
use Rattle.maple_base.specs.declared.operator.Operator.TheVariants as operator
use Rattle.maple_base.specs.declared.policy_fault.PolicyFault.{PolicyFault}
use Rattle.maple_base.specs.declared.policy_fault.PolicyFault.TheVariants.{UnknownName, Twice, TypeMismatch}
use Rattle.maple_base.specs.PolicyFaults.{number_of}
use Rattle.policy_lang.specs.declared.nodes.Node.{Node}
use Rattle.policy_lang.specs.Tree.{Atom, Number, Var, SwitchOf, PortOf, PacketSwitch, Packet, Callee, Up, At, Term, Single, Call, Is, Not, Pair, Source, Host, Hop, Table as InTable, Ask, Binds, Holds, Act, Acts, Drop, Flood, Out, Route, Let, Assign, If, IfElse, While, Done, Then}
use Rattle.policy_lang.specs.Sizes.{size_of, ask_size, act_size, acts_size}
use Rattle.policy_lang.specs.Nodes.{node, nodes_of, AreFree}

-- where a fault lies: at the name of a table; at the first word of a node; at the first word of an expression, with the parentheses round it; at the name that a `let` declares or a head binds
pub data Site : Type 0 where
  AtTable : Site
  AtNode : ℕ → Site
  AtWhole : ℕ → Site
  AtName : ℕ → Site

-- the node in which a fault lies; 0 for a table
abbrev pub node_of : Site → ℕ
node_of AtTable = 0
node_of (AtNode n) = n
node_of (AtWhole n) = n
node_of (AtName n) = n

-- the node of this number, from 1 on
abbrev pub numbered : List Node → ℕ → Node
numbered nodes n = unwrap_or (slice_get nodes (n - 1)) (node 0 0 0 0)

-- the token at which a site lies, where these are the nodes; tables come ahead of all nodes
abbrev pub place_in : List Node → Site → ℕ
place_in nodes AtTable = 0
place_in nodes (AtNode n) = (numbered nodes n).first
place_in nodes (AtWhole n) = (numbered nodes n).whole
place_in nodes (AtName n) = (numbered nodes n).named

pub record Fault : Type 0 where
  pub kind : PolicyFault
  pub site : Site

-- ---- types

pub data Type_ : Type 0 where
  NumberType : Type_
  TruthType : Type_
  PlaceType : Type_

abbrev pub same_type : Type_ → Type_ → Bool
same_type NumberType NumberType = true
same_type TruthType TruthType = true
same_type PlaceType PlaceType = true
same_type t u = false

-- what a name in force is: a table, or a variable of a type; the type is not known where the variable's value has an unknown name
pub data Meaning : Type 0 where
  Table : Meaning
  Variable : Option Type_ → Meaning

-- the names in force, in the order in which they were declared
abbrev pub Names : Type 0
Names = List (List ℕ × Meaning)

abbrev pub meaning_of : List ℕ → Names → Option Meaning
meaning_of x [] = None
meaning_of x ((y, m) ∷ names) = if bytes_eq x y then Some m else meaning_of x names

abbrev pub type_meant : Option Meaning → Option Type_
type_meant (Some (Variable t)) = t
type_meant m = None

abbrev pub atom_type : Atom → Names → Option Type_
atom_type (Number n) names = Some NumberType
atom_type (Var x) names = type_meant (meaning_of x names)
atom_type (SwitchOf x) names = Some NumberType
atom_type (PortOf x) names = Some NumberType
atom_type PacketSwitch names = Some NumberType
atom_type (Packet f) names = Some NumberType

abbrev pub call_type : Callee → Type_
call_type Up = TruthType
call_type At = PlaceType

-- the type of what an operator makes, and of its parts
abbrev pub pair_type : Operator → Type_
pair_type operator.Add = NumberType
pair_type operator.Sub = NumberType
pair_type o = TruthType

abbrev pub operand_type : Operator → Type_
operand_type operator.And = TruthType
operand_type operator.Or = TruthType
operand_type o = NumberType

-- the type of an expression; none where it is a name that has none
abbrev pub type_of : Term → Names → Option Type_
type_of (Single a) names = atom_type a names
type_of (Call c l r) names = Some (call_type c)
type_of (Is f e) names = Some TruthType
type_of (Not e) names = Some TruthType
type_of (Pair o l r) names = Some (pair_type o)

-- ---- names and types that are wrong

abbrev pub unless_so : Bool → PolicyFault → Site → List Fault
unless_so true kind site = []
unless_so false kind site = record { kind = kind; site = site } ∷ []

abbrev pub suits : Option Type_ → Type_ → Bool
suits None wanted = true
suits (Some t) wanted = same_type t wanted

-- a name that stands for a value
abbrev pub value_faults : Option Meaning → ℕ → List Fault
value_faults None n = unless_so false UnknownName (AtNode n)
value_faults (Some Table) n = unless_so false TypeMismatch (AtNode n)
value_faults (Some (Variable t)) n = []

-- a name that stands for a place
abbrev pub place_faults : Option Meaning → ℕ → List Fault
place_faults None n = unless_so false UnknownName (AtNode n)
place_faults (Some Table) n = unless_so false TypeMismatch (AtNode n)
place_faults (Some (Variable t)) n = unless_so (suits t PlaceType) TypeMismatch (AtNode n)

-- a name that stands for a table
abbrev pub table_faults : Option Meaning → ℕ → List Fault
table_faults None n = unless_so false UnknownName (AtNode n)
table_faults (Some Table) n = []
table_faults (Some (Variable t)) n = unless_so false TypeMismatch (AtNode n)

abbrev pub atom_faults : Atom → Names → ℕ → List Fault
atom_faults (Number v) names n = []
atom_faults (Var x) names n = value_faults (meaning_of x names) n
atom_faults (SwitchOf x) names n = place_faults (meaning_of x names) n
atom_faults (PortOf x) names n = place_faults (meaning_of x names) n
atom_faults PacketSwitch names n = []
atom_faults (Packet f) names n = []

-- an expression of this number that has another type than is wanted
abbrev pub type_faults : Type_ → Term → Names → ℕ → List Fault
type_faults wanted e names n = unless_so (suits (type_of e names) wanted) TypeMismatch (AtWhole n)

-- the same of two expressions, of which the first has this number, ahead of what is wrong in them
abbrev pub parts_faults : Type_ → (ℕ → List Fault) → (ℕ → List Fault) → Term → Term → Names → ℕ → List Fault
parts_faults wanted in_left in_right l r names n = type_faults wanted l names n ++ in_left n ++ type_faults wanted r names (n + size_of l) ++ in_right (n + size_of l)

-- the parts of an expression are of the types that it takes
abbrev pub expr_faults : Term → Names → ℕ → List Fault
expr_faults (Single a) names n = atom_faults a names n
expr_faults (Call c l r) names n = parts_faults NumberType (expr_faults l names) (expr_faults r names) l r names (n + 1)
expr_faults (Is f e) names n = type_faults NumberType e names (n + 1) ++ expr_faults e names (n + 1)
expr_faults (Not e) names n = type_faults TruthType e names (n + 1) ++ expr_faults e names (n + 1)
expr_faults (Pair o l r) names n = parts_faults (operand_type o) (expr_faults l names) (expr_faults r names) l r names (n + 1)

-- an expression that is to be of a type
abbrev pub operand_faults : Type_ → Term → Names → ℕ → List Fault
operand_faults wanted e names n = type_faults wanted e names n ++ expr_faults e names n

abbrev pub numbers_faults : List Term → Names → ℕ → List Fault
numbers_faults [] names n = []
numbers_faults (e ∷ es) names n = operand_faults NumberType e names n ++ numbers_faults es names (n + size_of e)

-- a name that is not in force yet is declared; one that is keeps its meaning
abbrev pub with_name : List ℕ → Meaning → Names → Names
with_name x m names = if is_some (meaning_of x names) then names else names ++ (x, m) ∷ []

abbrev pub declared_faults : List ℕ → Names → ℕ → List Fault
declared_faults x names n = unless_so (is_none (meaning_of x names)) Twice (AtName n)

-- what a head reads
abbrev pub source_faults : Source → Names → ℕ → List Fault
source_faults Host names n = []
source_faults Hop names n = []
source_faults (InTable t) names n = table_faults (meaning_of t names) n

-- the type of the name that a head binds
abbrev pub bound_type : Source → Type_
bound_type Host = PlaceType
bound_type Hop = NumberType
bound_type (InTable t) = NumberType

abbrev pub ask_faults : Ask → Names → ℕ → List Fault
ask_faults (Binds s e x) names n = source_faults s names n ++ operand_faults NumberType e names (n + 1) ++ declared_faults x names n
ask_faults (Holds e) names n = operand_faults TruthType e names n

-- the names in force in the first block behind a head
abbrev pub names_behind : Ask → Names → Names
names_behind (Binds s e x) names = with_name x (Variable (Some (bound_type s))) names
names_behind (Holds e) names = names

-- a variable is given a value of its own type
abbrev pub assigned_faults : Option Meaning → Term → Names → ℕ → List Fault
assigned_faults None e names n = unless_so false UnknownName (AtNode n) ++ expr_faults e names (n + 1)
assigned_faults (Some Table) e names n = unless_so false TypeMismatch (AtNode n) ++ expr_faults e names (n + 1)
assigned_faults (Some (Variable None)) e names n = expr_faults e names (n + 1)
assigned_faults (Some (Variable (Some t))) e names n = operand_faults t e names (n + 1)

-- ---- statements

-- the names in force behind a statement
abbrev pub names_after : Act → Names → Names
names_after (Let x e) names = with_name x (Variable (type_of e names)) names
names_after s names = names

-- a name that a block declares is in force up to the end of the block
abbrev mutual
  pub act_faults : Act → Names → ℕ → List Fault
  act_faults Drop names n = []
  act_faults Flood names n = []
  act_faults (Out es) names n = numbers_faults es names (n + 1)
  act_faults (Route e) names n = operand_faults PlaceType e names (n + 1)
  act_faults (Let x e) names n = declared_faults x names n ++ expr_faults e names (n + 1)
  act_faults (Assign x e) names n = assigned_faults (meaning_of x names) e names n
  act_faults (If q b) names n = ask_faults q names (n + 1) ++ acts_faults b (names_behind q names) (n + 1 + ask_size q)
  act_faults (IfElse q b c) names n =
      ask_faults q names (n + 1) ++ acts_faults b (names_behind q names) (n + 1 + ask_size q) ++ acts_faults c names (n + 1 + ask_size q + acts_size b)
  act_faults (While e b) names n = operand_faults TruthType e names (n + 1) ++ acts_faults b names (n + 1 + size_of e)

  pub acts_faults : Acts → Names → ℕ → List Fault
  acts_faults Done names n = []
  acts_faults (Then s rest) names n = act_faults s names n ++ acts_faults rest (names_after s names) (n + act_size s)

-- ---- policies

-- a table is named that an earlier one is named by
abbrev pub tables_faults : List (List ℕ) → List (List ℕ) → List Fault
tables_faults seen [] = []
tables_faults seen (t ∷ ts) = unless_so (not (list_any (bytes_eq t) seen)) Twice AtTable ++ tables_faults (t ∷ seen) ts

-- tables are in force everywhere
abbrev pub tables_behind : Names → List (List ℕ) → Names
tables_behind names [] = names
tables_behind names (t ∷ ts) = tables_behind (with_name t Table names) ts

abbrev pub table_names : List (List ℕ) → Names
table_names tables = tables_behind [] tables

-- all that is wrong with the names and types of a policy of these tables and this body
abbrev pub name_faults : List (List ℕ) → Acts → List Fault
name_faults tables body = tables_faults [] tables ++ acts_faults body (table_names tables) 1

-- nothing is wrong: no node is more than 32 deep, there are at most 4,096, no table is named twice, each name is in force and stands for what its place wants, none is declared while it is in force, and each expression has the type that its place wants
pub record IsWellFormed (tables : List (List ℕ)) (body : Acts) : Type 0 where
  pub free : AreFree (nodes_of body)
  pub named : name_faults tables body ≡ []

-- ---- the first fault

-- by the place of the site, the kind's number, and then the node's
abbrev pub is_before_by : (Site → ℕ) → Fault → Fault → Bool
is_before_by place f g =
    nat_lt (place f.site) (place g.site) || (place f.site == place g.site
    && (nat_lt (number_of f.kind) (number_of g.kind) || (number_of f.kind == number_of g.kind
    && nat_lt (node_of f.site) (node_of g.site))))

abbrev pub sooner_by : (Site → ℕ) → Fault → Option Fault → Fault
sooner_by place f None = f
sooner_by place f (Some g) = if is_before_by place g f then g else f

-- the first of some faults, where each site has its place
abbrev pub first_by : (Site → ℕ) → List Fault → Option Fault
first_by place [] = None
first_by place (f ∷ fs) = Some (sooner_by place f (first_by place fs))
