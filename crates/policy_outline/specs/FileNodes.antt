-- The nodes of a text, in its order, and the parentheses in it. Each statement, each `host`, `hop` and table that an `if` asks, and each expression is a node; parentheses are none, and a test `pkt.f is a` is one beside its part. A node begins with its first token: an operator begins where its left part does, with the parentheses round that part. A token is told by the number of tokens ahead of it.
use Rattle.std.specs.Prelude.{ℕ, ◌+◌, ◌*◌, if◌then◌else◌, List, [], ◌∷◌, ◌++◌, length}
use Rattle.std.specs.List.{list_any}
use Rattle.std.specs.Str.{bytes_eq}
use Rattle.policy_lang.specs.declared.nodes.Node.{Node}
use Rattle.policy_lang.specs.Nodes.{node}
use Rattle.policy_lang.specs.Faults.{Site, AtTable, place_in}
use Rattle.policy_grammar.specs.Grammar.{Phrase, Single, Call, Group, Negation, Test, Pair, phrase_tokens, Question, Host, Hop, Lookup, Holds, question_tokens, Action, Drop, Flood, Out, Route, Let, Assign, action_tokens, Statements, Nothing, Plain, If, IfElse, While, statements_tokens, File, tables_tokens, learning_tokens}

-- ---- how many tokens there are

abbrev pub phrase_length : Phrase → ℕ
phrase_length a = length (phrase_tokens a)

abbrev pub question_length : Question → ℕ
question_length q = length (question_tokens q)

abbrev pub action_length : Action → ℕ
action_length s = length (action_tokens s)

abbrev pub statements_length : Statements → ℕ
statements_length ss = length (statements_tokens ss)

-- an `if` with its first block has two braces and its first word beside what it asks
abbrev pub if_length : Question → Statements → ℕ
if_length q first = 3 + question_length q + statements_length first

-- ahead of the statements of a file come its tables, `policy`, perhaps `learning`, and a brace
abbrev pub body_first : File → ℕ
body_first f = length (tables_tokens f.tables) + 1 + length (learning_tokens f.learning) + 1

-- ---- nodes

-- the nodes of an expression at a depth that begins with a token, and with another where its own parentheses count; of two that begin with one token the outer one comes first
abbrev pub phrase_nodes : Phrase → ℕ → ℕ → ℕ → List Node
phrase_nodes (Single t) w i d = node w i i d ∷ []
phrase_nodes (Call c a b) w i d = node w i i d ∷ (phrase_nodes a (i + 2) (i + 2) (d + 1) ++ phrase_nodes b (i + 3 + phrase_length a) (i + 3 + phrase_length a) (d + 1))
phrase_nodes (Group a) w i d = phrase_nodes a w (i + 1) d
phrase_nodes (Negation a) w i d = node w i i d ∷ phrase_nodes a (i + 1) (i + 1) (d + 1)
phrase_nodes (Test f a) w i d = node w i i d ∷ phrase_nodes a (i + 2) (i + 2) (d + 1)
phrase_nodes (Pair o a b) w i d = node w i i d ∷ (phrase_nodes a i i (d + 1) ++ phrase_nodes b (i + phrase_length a + 1) (i + phrase_length a + 1) (d + 1))

-- the nodes of an expression that begins with the token of this number, its parentheses among its tokens
abbrev pub nodes_from : ℕ → Phrase → ℕ → List Node
nodes_from i a d = phrase_nodes a i i d

-- expressions, each behind a comma
abbrev pub more_nodes : ℕ → List Phrase → ℕ → List Node
more_nodes i [] d = []
more_nodes i (a ∷ as_) d = nodes_from (i + 1) a d ++ more_nodes (i + 1 + phrase_length a) as_ d

-- a head that binds a name: the name stands behind four tokens and the expression
abbrev pub binding_nodes : ℕ → Phrase → ℕ → List Node
binding_nodes i a d = node i i (i + 4 + phrase_length a) d ∷ nodes_from (i + 2) a (d + 1)

abbrev pub question_nodes : ℕ → Question → ℕ → List Node
question_nodes i (Host a x) d = binding_nodes i a d
question_nodes i (Hop a x) d = binding_nodes i a d
question_nodes i (Lookup t a x) d = binding_nodes i a d
question_nodes i (Holds a) d = nodes_from i a d

-- a statement's own node; the name that a `let` declares is its second token
abbrev pub statement_node : ℕ → ℕ → Node
statement_node i d = node i i (i + 1) d

-- the nodes inside a statement without a block
abbrev pub parts_nodes : ℕ → Action → ℕ → List Node
parts_nodes i Drop d = []
parts_nodes i Flood d = []
parts_nodes i (Out a more) d = nodes_from (i + 1) a d ++ more_nodes (i + 1 + phrase_length a) more d
parts_nodes i (Route a) d = nodes_from (i + 1) a d
parts_nodes i (Let x a) d = nodes_from (i + 3) a d
parts_nodes i (Assign x a) d = nodes_from (i + 2) a d

-- the nodes of statements at a depth, of which the first begins with this token
abbrev pub statements_nodes : ℕ → Statements → ℕ → List Node
statements_nodes i Nothing d = []
statements_nodes i (Plain s rest) d = statement_node i d ∷ (parts_nodes i s (d + 1) ++ statements_nodes (i + action_length s) rest d)
statements_nodes i (If q first rest) d =
    statement_node i d ∷ (question_nodes (i + 1) q (d + 1) ++ (statements_nodes (i + 2 + question_length q) first (d + 1) ++ statements_nodes (i + if_length q first) rest d))
statements_nodes i (IfElse q first second rest) d =
    statement_node i d ∷ (question_nodes (i + 1) q (d + 1) ++ (statements_nodes (i + 2 + question_length q) first (d + 1)
    ++ (statements_nodes (i + if_length q first + 2) second (d + 1) ++ statements_nodes (i + if_length q first + 3 + statements_length second) rest d)))
statements_nodes i (While a body rest) d =
    statement_node i d ∷ (nodes_from (i + 1) a (d + 1) ++ (statements_nodes (i + 2 + phrase_length a) body (d + 1)
    ++ statements_nodes (i + 3 + phrase_length a + statements_length body) rest d))

-- the nodes of a file, in the order of the text: the nth is the node of number n
abbrev pub file_nodes : File → List Node
file_nodes f = statements_nodes (body_first f) f.body 1

-- ---- parentheses that group an expression

-- its token, and how many are open behind it
pub record Parenthesis : Type 0 where
  pub token : ℕ
  pub depth : ℕ

-- the parentheses of an expression that begins with a token, inside so many others
abbrev pub phrase_parentheses : ℕ → Phrase → ℕ → List Parenthesis
phrase_parentheses i (Single t) n = []
phrase_parentheses i (Call c a b) n = phrase_parentheses (i + 2) a n ++ phrase_parentheses (i + 3 + phrase_length a) b n
phrase_parentheses i (Group a) n = record { token = i; depth = n + 1 } ∷ phrase_parentheses (i + 1) a (n + 1)
phrase_parentheses i (Negation a) n = phrase_parentheses (i + 1) a n
phrase_parentheses i (Test f a) n = phrase_parentheses (i + 2) a n
phrase_parentheses i (Pair o a b) n = phrase_parentheses i a n ++ phrase_parentheses (i + phrase_length a + 1) b n

abbrev pub more_parentheses : ℕ → List Phrase → List Parenthesis
more_parentheses i [] = []
more_parentheses i (a ∷ as_) = phrase_parentheses (i + 1) a 0 ++ more_parentheses (i + 1 + phrase_length a) as_

abbrev pub question_parentheses : ℕ → Question → List Parenthesis
question_parentheses i (Host a x) = phrase_parentheses (i + 2) a 0
question_parentheses i (Hop a x) = phrase_parentheses (i + 2) a 0
question_parentheses i (Lookup t a x) = phrase_parentheses (i + 2) a 0
question_parentheses i (Holds a) = phrase_parentheses i a 0

abbrev pub action_parentheses : ℕ → Action → List Parenthesis
action_parentheses i Drop = []
action_parentheses i Flood = []
action_parentheses i (Out a more) = phrase_parentheses (i + 1) a 0 ++ more_parentheses (i + 1 + phrase_length a) more
action_parentheses i (Route a) = phrase_parentheses (i + 1) a 0
action_parentheses i (Let x a) = phrase_parentheses (i + 3) a 0
action_parentheses i (Assign x a) = phrase_parentheses (i + 2) a 0

abbrev pub statements_parentheses : ℕ → Statements → List Parenthesis
statements_parentheses i Nothing = []
statements_parentheses i (Plain s rest) = action_parentheses i s ++ statements_parentheses (i + action_length s) rest
statements_parentheses i (If q first rest) =
    question_parentheses (i + 1) q ++ (statements_parentheses (i + 2 + question_length q) first ++ statements_parentheses (i + if_length q first) rest)
statements_parentheses i (IfElse q first second rest) =
    question_parentheses (i + 1) q ++ (statements_parentheses (i + 2 + question_length q) first
    ++ (statements_parentheses (i + if_length q first + 2) second ++ statements_parentheses (i + if_length q first + 3 + statements_length second) rest))
statements_parentheses i (While a body rest) =
    phrase_parentheses (i + 1) a 0 ++ (statements_parentheses (i + 2 + phrase_length a) body ++ statements_parentheses (i + 3 + phrase_length a + statements_length body) rest)

-- the parentheses of a file that group expressions, in the order of the text
abbrev pub file_parentheses : File → List Parenthesis
file_parentheses f = statements_parentheses (body_first f) f.body

-- ---- places

-- the token of the first table's name that an earlier table has, behind these tables; each has three tokens, of which the second is the name
abbrev pub repeated_table : List (List ℕ) → List (List ℕ) → ℕ
repeated_table seen [] = 0
repeated_table seen (t ∷ ts) = if list_any (bytes_eq t) seen then 3 * length seen + 1 else repeated_table (seen ++ t ∷ []) ts

-- the token at which a site of a file lies
abbrev pub site_token : File → Site → ℕ
site_token f AtTable = repeated_table [] f.tables
site_token f site = place_in (file_nodes f) site
