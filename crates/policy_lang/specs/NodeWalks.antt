-- What the walk over a policy's nodes tells. It serves private contracts and proofs alone.
use Rattle.std.specs.Prelude.{◌≡◌, ℕ, ◌+◌, ◌*◌, ◌≤◌, nat_lt, ◌==◌, if◌then◌else◌, List, [], ◌∷◌, ◌++◌, length, Option, Some, None, Result, Ok, Err}
use Rattle.maple_base.specs.PolicyLimits.{deepest}
use Rattle.maple_base.specs.declared.operator.Operator.{Operator}
use Rattle.maple_base.specs.Operators.{left_level, right_level}
use Rattle.policy_lang.specs.declared.nodes.Node.{Node}
use Rattle.policy_lang.specs.declared.nodes.Limit.{Limit}
use Rattle.policy_lang.specs.declared.nodes.WalkStop.{WalkStop}
use Rattle.policy_lang.specs.declared.nodes.WalkStop.TheVariants as stop
use Rattle.policy_lang.specs.Tree.{Term, Single, Call, Is, Not, Pair, Ask, Acts}
use Rattle.policy_lang.specs.Nodes.{opens, length_of, part_length, term_nodes, nodes_from, ask_length, ask_nodes, acts_length, acts_nodes, limit_of, node, AreFree}

-- the first of some nodes begins with this token or behind it
abbrev pub Begins : ℕ → List Node → Type 0
Begins i [] = Unit {0}
Begins i (x ∷ xs) = i ≤ x.first

-- whatever stands behind, from a token on, this is the first limit that is passed
abbrev pub Passes : List Node → List Node → ℕ → Limit → Type 0
Passes old nodes after l = (rest : List Node) → Begins after rest → limit_of (old ++ (nodes ++ rest)) ≡ Some l

-- behind nodes that pass no limit these were walked over, up to a token, or the first limit is told
abbrev pub Walked : List Node → List Node → ℕ → List Node → Result ℕ WalkStop → Type 0
Walked old nodes after new (Ok next) = (new ≡ old ++ nodes) × (next ≡ after) × AreFree new
Walked old nodes after new (Err (stop.Limit l)) = Passes old nodes after l
Walked old nodes after new (Err stop.NoMemory) = Unit {0}

-- the first of nodes was added, which passes no limit
abbrev pub Begun : List Node → Node → List Node → ℕ → List Node → Result Unit WalkStop → Type 0
Begun old x nodes after new (Ok u) = (new ≡ old ++ x ∷ []) × AreFree new
Begun old x nodes after new (Err (stop.Limit l)) = Passes old nodes after l
Begun old x nodes after new (Err stop.NoMemory) = Unit {0}

-- an operator begins with its left part where that has no parentheses; of the parts that so begin with one token, of which the first has a number and depth, the number of the first that is more than 32 deep
abbrev pub unless_deep : ℕ → ℕ → Option ℕ → Option ℕ
unless_deep depth n behind = if nat_lt deepest depth then Some n else behind

abbrev pub deep_in : Term → ℕ → ℕ → Option ℕ
deep_in (Single a) n d = unless_deep d n None
deep_in (Call c l r) n d = unless_deep d n None
deep_in (Is f e) n d = unless_deep d n None
deep_in (Not e) n d = unless_deep d n None
deep_in (Pair o l r) n d = unless_deep d n (if opens (left_level o) l == 0 then deep_in l (n + 1) (d + 1) else None)

-- ---- the parts of an expression, where the first begins with a token

abbrev pub part_nodes : ℕ → Term → ℕ → ℕ → List Node
part_nodes least e i d = term_nodes e i (i + opens least e) d

abbrev pub call_nodes : Term → Term → ℕ → ℕ → List Node
call_nodes l r i d = nodes_from i l d ++ nodes_from (i + length_of l + 1) r d

-- with the comma and the parenthesis
abbrev pub call_length : Term → Term → ℕ
call_length l r = length_of l + 1 + length_of r + 1

abbrev pub pair_nodes : Operator → Term → Term → ℕ → ℕ → List Node
pair_nodes o l r i d = part_nodes (left_level o) l i d ++ part_nodes (right_level o) r (i + part_length (left_level o) l + 1) d

abbrev pub pair_length : Operator → Term → Term → ℕ
pair_length o l r = part_length (left_level o) l + 1 + part_length (right_level o) r

-- a walk takes at most eight tokens for each node, less so many
abbrev pub Spares : ℕ → ℕ → List Node → List Node → Result ℕ WalkStop → Type 0
Spares spare first old new (Ok next) = next + spare + 8 * length old ≤ first + 8 * length new
Spares spare first old new (Err e) = Unit {0}

-- ---- the parts of statements, where the first begins with a token

-- a head that binds a name
abbrev pub binding_nodes : Term → ℕ → ℕ → List Node
binding_nodes e i d = node i i (i + 4 + length_of e) d ∷ nodes_from (i + 2) e (d + 1)

-- behind the block of an `if`: the block of its `else`, from the brace of the first on
abbrev pub other_nodes : Option Acts → ℕ → ℕ → List Node
other_nodes None i d = []
other_nodes (Some b) i d = acts_nodes b (i + 3) d

abbrev pub other_length : Option Acts → ℕ
other_length None = 1
other_length (Some b) = 3 + acts_length b + 1

-- behind the word `if`
abbrev pub if_nodes : Ask → Acts → Option Acts → ℕ → ℕ → List Node
if_nodes q b o i d = ask_nodes q i d ++ (acts_nodes b (i + ask_length q + 1) d ++ other_nodes o (i + ask_length q + 1 + acts_length b) d)

abbrev pub if_length : Ask → Acts → Option Acts → ℕ
if_length q b o = ask_length q + 1 + acts_length b + other_length o

-- behind the word `while`
abbrev pub while_nodes : Term → Acts → ℕ → ℕ → List Node
while_nodes e b i d = nodes_from i e d ++ acts_nodes b (i + length_of e + 1) d

abbrev pub while_length : Term → Acts → ℕ
while_length e b = length_of e + 1 + acts_length b + 1

-- ---- the walks over parts

-- the first node of an expression was added
abbrev pub TermBegun : List Node → Term → ℕ → ℕ → ℕ → List Node → Result Unit WalkStop → Type 0
TermBegun old e w i d new r = Begun old (node w i i d) (term_nodes e w i d) (i + length_of e) new r

abbrev pub PartWalked : List Node → ℕ → Term → ℕ → ℕ → List Node → Result ℕ WalkStop → Type 0
PartWalked old least e i d new r = Walked old (part_nodes least e i d) (i + part_length least e) new r

abbrev pub CallWalked : List Node → Term → Term → ℕ → ℕ → List Node → Result ℕ WalkStop → Type 0
CallWalked old l r i d new result = Walked old (call_nodes l r i d) (i + call_length l r) new result

abbrev pub PairWalked : List Node → Operator → Term → Term → ℕ → ℕ → List Node → Result ℕ WalkStop → Type 0
PairWalked old o l r i d new result = Walked old (pair_nodes o l r i d) (i + pair_length o l r) new result

abbrev pub IfWalked : List Node → Ask → Acts → Option Acts → ℕ → ℕ → List Node → Result ℕ WalkStop → Type 0
IfWalked old q b o i d new r = Walked old (if_nodes q b o i d) (i + if_length q b o) new r

abbrev pub WhileWalked : List Node → Term → Acts → ℕ → ℕ → List Node → Result ℕ WalkStop → Type 0
WhileWalked old e b i d new r = Walked old (while_nodes e b i d) (i + while_length e b) new r

abbrev pub OtherWalked : List Node → Option Acts → ℕ → ℕ → List Node → Result ℕ WalkStop → Type 0
OtherWalked old o i d new r = Walked old (other_nodes o i d) (i + other_length o) new r

abbrev pub ActsWalked : List Node → Acts → ℕ → ℕ → List Node → Result ℕ WalkStop → Type 0
ActsWalked old b i d new r = Walked old (acts_nodes b i d) (i + acts_length b) new r
