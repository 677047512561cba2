-- How the nodes of a policy are counted while it is read: what each token adds to the counts, event by event.
use Rattle.std.specs.Prelude.{ℕ, suc, zero, ◌-◌, List, [], ◌∷◌, ◌++◌, length, Option, Some, None}
use Rattle.policy_tokens.specs.declared.token.Token.{Token}
use Rattle.policy_grammar.specs.declared.event.Event.{Event}
use Rattle.policy_grammar.specs.declared.event.Event.TheVariants as event
use Rattle.policy_grammar.specs.Automaton.{State, step}
use Rattle.policy_grammar.specs.Events.{events}
use Rattle.policy_outline.specs.Counts.{Count, of_none, one_begun, one_ended, change_last, end_last}

-- what is counted so far: the counts of the tokens that were read; that of the token which is being read; the number of the first token of the expression that was read last; those of the first tokens of what is open around it, the innermost first; the number of the first token of the statement or head that was begun last, until the statement ends or its block opens; how many parentheses are open, and how many tables are named
pub record Counter : Type 0 where
  pub counts : List Count
  pub current : Count
  pub operand : ℕ
  pub firsts : List ℕ
  pub head : ℕ
  pub parentheses : ℕ
  pub tables : ℕ

abbrev pub nothing_counted : Counter
nothing_counted = record { counts = []; current = of_none; operand = 0; firsts = []; head = 0; parentheses = 0; tables = 0 }

-- ---- parts of a step

-- the count of the token of this number changed
abbrev pub change_at : (Count → Count) → ℕ → List Count → List Count
change_at g n [] = []
change_at g zero (c ∷ cs) = g c ∷ cs
change_at g (suc n) (c ∷ cs) = c ∷ change_at g n cs

-- one more node begins with the token of this number
abbrev pub begin_at : ℕ → List Count → List Count
begin_at = change_at one_begun

abbrev pub one_less : Count → Count
one_less c = record c { ended = c.ended - 1 }

-- one node less ends with the last of these tokens
abbrev pub go_on_last : List Count → List Count
go_on_last = change_last one_less

-- the name stands so many tokens behind it
abbrev pub with_name : ℕ → Count → Count
with_name behind c = record c { name = behind }

-- the same of the token of this number
abbrev pub name_at : ℕ → ℕ → List Count → List Count
name_at n behind = change_at (with_name behind) n

abbrev pub first_of_all : List ℕ → ℕ
first_of_all [] = 0
first_of_all (n ∷ ns) = n

abbrev pub all_but_first : List ℕ → List ℕ
all_but_first [] = []
all_but_first (n ∷ ns) = ns

-- a node begins with the token that is read
abbrev pub begins : Counter → Counter
begins c = record c { current = one_begun c.current }

-- a statement or a head begins with it; a statement's name is the next token
abbrev pub begins_statement : Counter → Counter
begins_statement c = record c { current = with_name 1 (one_begun c.current); head = length c.counts }

-- a node ends with it
abbrev pub ends : Counter → Counter
ends c = record c { current = one_ended c.current }

-- a node ended with the token ahead of it
abbrev pub ended_ahead : Counter → Counter
ended_ahead c = record c { counts = end_last c.counts }

-- the expression of the token ahead goes on, as the first part of a node
abbrev pub goes_on : Counter → Counter
goes_on c = record c { counts = go_on_last c.counts }

-- the name of the table ahead begins a head
abbrev pub begins_lookup : Counter → Counter
begins_lookup c = record (goes_on c) { head = c.operand }

-- the token ahead is the name that the head binds, and its last
abbrev pub binds : Counter → Counter
binds c = record c { counts = end_last (name_at c.head (length c.counts - 1 - c.head) c.counts) }

-- what begins with the token of this number is open
abbrev pub opens : ℕ → Counter → Counter
opens n c = record c { firsts = n ∷ c.firsts }

-- the innermost of what is open is the expression that was read last
abbrev pub closes : Counter → Counter
closes c = record c { operand = first_of_all c.firsts; firsts = all_but_first c.firsts }

-- neither an expression nor the beginning of a statement was read last
abbrev pub rests : Counter → Counter
rests c = record c { operand = 0; head = 0 }

abbrev pub names_table : Counter → Counter
names_table c =
    record c {
      current = record c.current { tables = suc c.tables };
      tables = suc c.tables;
    }

abbrev pub opens_parenthesis : Counter → Counter
opens_parenthesis c =
    record c {
      current = record c.current { parentheses = suc c.parentheses };
      firsts = length c.counts ∷ c.firsts;
      parentheses = suc c.parentheses;
    }

abbrev pub closes_parenthesis : Counter → Counter
closes_parenthesis c = record c { operand = first_of_all c.firsts; firsts = all_but_first c.firsts; parentheses = c.parentheses - 1 }

-- an expression of one token
abbrev pub counts_single : Counter → Counter
counts_single c = record c { current = one_begun (one_ended c.current); operand = length c.counts }

-- the expression that was read last is the left part of an operator's node
abbrev pub begins_pair : Counter → Counter
begins_pair c = record c { counts = begin_at c.operand c.counts; firsts = c.operand ∷ c.firsts }

-- ---- a step

abbrev pub counted : Event → Counter → Counter
counted (event.Table x) c = names_table c
counted event.Learning c = c
counted event.Begin c = begins_statement c
counted (event.Name x) c = c
counted (event.Single t) c = counts_single c
counted event.Group c = opens_parenthesis c
counted event.GroupEnd c = closes_parenthesis c
counted event.Up c = opens (length c.counts) (begins c)
counted event.At c = opens (length c.counts) (begins c)
counted event.Call c = closes (ends c)
counted event.Not c = opens (length c.counts) (begins c)
counted event.Negation c = closes (ended_ahead c)
counted event.Is c = opens c.operand (goes_on c)
counted event.Test c = closes (ended_ahead c)
counted (event.Operator o) c = begins_pair c
counted (event.Pair o) c = closes (ended_ahead c)
counted event.Index c = begins_lookup c
counted event.Host c = c
counted event.Hop c = c
counted event.Lookup c = c
counted event.Bind c = binds c
counted event.Holds c = c
counted event.Drop c = rests (ends c)
counted event.Flood c = rests (ends c)
counted (event.Out n) c = rests (ended_ahead c)
counted event.Route c = rests (ended_ahead c)
counted event.Let c = rests (ended_ahead c)
counted event.Assign c = rests (ended_ahead c)
counted event.Open c = rests c
counted event.Close c = c
counted event.If c = ended_ahead c
counted event.IfElse c = ends c
counted event.While c = ends c

abbrev pub counted_all : List Event → Counter → Counter
counted_all [] c = c
counted_all (e ∷ es) c = counted_all es (counted e c)

-- the token was read
abbrev pub passed : Counter → Counter
passed c = record c { counts = c.counts ++ c.current ∷ []; current = of_none }

abbrev pub token_counted : State → Token → Counter → Counter
token_counted s t c = passed (counted_all (events s t) c)

abbrev pub counted_onto : Option State → Counter → (State → Counter) → Counter
counted_onto None c rest = c
counted_onto (Some n) c rest = rest n

-- what is counted behind tokens, which are read from a state on
abbrev pub counted_from : State → Counter → List Token → Counter
counted_from s c [] = c
counted_from s c (t ∷ ts) = counted_onto (step s t) (token_counted s t c) (λ n. counted_from n (token_counted s t c) ts)
