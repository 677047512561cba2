-- How many nodes of a file begin and end with each of its tokens. A node begins with its first token and ends with its last; a semicolon is no part of a node. It serves private contracts and proofs alone.
use Rattle.std.specs.Prelude.{ℕ, suc, Bool, true, false, List, [], ◌∷◌, ◌++◌, ◌+◌, length}
use Rattle.policy_grammar.specs.Grammar.{Phrase, Single, Call, Group, Negation, Test, Pair, phrase_tokens, Question, Host, Hop, Lookup, Holds, Action, Drop, Flood, Out, Route, Let, Assign, Statements, Nothing, Plain, If, IfElse, While, File}

-- of one token: how many nodes begin with it, how many end with it, how many tokens behind it the name stands that the node declares or binds which begins with it, how many parentheses are open behind it where it opens one, and how many tables are named where it names one
pub record Count : Type 0 where
  pub begun : ℕ
  pub ended : ℕ
  pub name : ℕ
  pub parentheses : ℕ
  pub tables : ℕ

abbrev pub of_none : Count
of_none = record { begun = 0; ended = 0; name = 0; parentheses = 0; tables = 0 }

abbrev pub of_first : Count
of_first = record of_none { begun = 1 }

abbrev pub of_last : Count
of_last = record of_none { ended = 1 }

abbrev pub of_whole : Count
of_whole = record of_none { begun = 1; ended = 1 }

-- the first token of a statement, whose name is its second
abbrev pub of_statement : Count
of_statement = record of_first { name = 1 }

-- a statement of one token and a semicolon
abbrev pub of_decision : Count
of_decision = record of_whole { name = 1 }

-- the first token of a head that binds a name so many tokens behind it
abbrev pub of_head : ℕ → Count
of_head n = record of_first { name = n }

abbrev pub of_opening : ℕ → Count
of_opening n = record of_none { parentheses = n }

abbrev pub of_table : ℕ → Count
of_table n = record of_none { tables = n }

abbrev pub one_begun : Count → Count
one_begun c = record c { begun = suc c.begun }

abbrev pub one_ended : Count → Count
one_ended c = record c { ended = suc c.ended }

-- a node begins with the first of these tokens
abbrev pub begin_first : List Count → List Count
begin_first [] = []
begin_first (c ∷ cs) = one_begun c ∷ cs

-- the count of the last token changed
abbrev pub change_last : (Count → Count) → List Count → List Count
change_last g [] = []
change_last g (c ∷ []) = g c ∷ []
change_last g (c ∷ d ∷ cs) = c ∷ change_last g (d ∷ cs)

-- a node ends with the last of these tokens
abbrev pub end_last : List Count → List Count
end_last = change_last one_ended

-- ---- expressions

-- the tokens of an expression inside so many open parentheses
abbrev pub phrase_counts : ℕ → Phrase → List Count
phrase_counts n (Single t) = of_whole ∷ []
phrase_counts n (Call c a b) = of_first ∷ of_none ∷ (phrase_counts n a ++ of_none ∷ (phrase_counts n b ++ of_last ∷ []))
phrase_counts n (Group a) = of_opening (suc n) ∷ (phrase_counts (suc n) a ++ of_none ∷ [])
phrase_counts n (Negation a) = of_first ∷ end_last (phrase_counts n a)
phrase_counts n (Test f a) = of_first ∷ of_none ∷ end_last (phrase_counts n a)
phrase_counts n (Pair o a b) = begin_first (phrase_counts n a) ++ of_none ∷ end_last (phrase_counts n b)

-- expressions, each behind a comma
abbrev pub more_counts : List Phrase → List Count
more_counts [] = []
more_counts (a ∷ as_) = of_none ∷ (phrase_counts 0 a ++ more_counts as_)

-- ---- statements

-- a head that binds a name
abbrev pub binding_counts : Phrase → List Count
binding_counts a = of_head (4 + length (phrase_tokens a)) ∷ of_none ∷ (phrase_counts 0 a ++ of_none ∷ of_none ∷ of_last ∷ [])

abbrev pub question_counts : Question → List Count
question_counts (Host a x) = binding_counts a
question_counts (Hop a x) = binding_counts a
question_counts (Lookup t a x) = binding_counts a
question_counts (Holds a) = phrase_counts 0 a

abbrev pub action_counts : Action → List Count
action_counts Drop = of_decision ∷ of_none ∷ []
action_counts Flood = of_decision ∷ of_none ∷ []
action_counts (Out a more) = of_statement ∷ (end_last (phrase_counts 0 a ++ more_counts more) ++ of_none ∷ [])
action_counts (Route a) = of_statement ∷ (end_last (phrase_counts 0 a) ++ of_none ∷ [])
action_counts (Let x a) = of_statement ∷ of_none ∷ of_none ∷ (end_last (phrase_counts 0 a) ++ of_none ∷ [])
action_counts (Assign x a) = of_statement ∷ of_none ∷ (end_last (phrase_counts 0 a) ++ of_none ∷ [])

abbrev pub statements_counts : Statements → List Count
statements_counts Nothing = []
statements_counts (Plain s rest) = action_counts s ++ statements_counts rest
statements_counts (If q first rest) = of_statement ∷ (question_counts q ++ of_none ∷ (statements_counts first ++ of_last ∷ statements_counts rest))
statements_counts (IfElse q first second rest) =
    of_statement ∷ (question_counts q ++ of_none ∷ (statements_counts first ++ of_none ∷ of_none ∷ of_none ∷ (statements_counts second ++ of_last ∷ statements_counts rest)))
statements_counts (While a body rest) = of_statement ∷ (phrase_counts 0 a ++ of_none ∷ (statements_counts body ++ of_last ∷ statements_counts rest))

-- ---- files

-- tables, of which so many are named already
abbrev pub tables_counts : ℕ → List (List ℕ) → List Count
tables_counts n [] = []
tables_counts n (x ∷ xs) = of_none ∷ of_table (suc n) ∷ of_none ∷ tables_counts (suc n) xs

abbrev pub learning_counts : Bool → List Count
learning_counts true = of_none ∷ []
learning_counts false = []

abbrev pub file_counts : File → List Count
file_counts f = tables_counts 0 f.tables ++ of_none ∷ (learning_counts f.learning ++ of_none ∷ (statements_counts f.body ++ of_none ∷ []))
