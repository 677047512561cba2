-- The limits on a policy's nodes, parentheses and tables, and what is wrong with tokens.
use Rattle.std.specs.Prelude.{◌≡◌, ℕ, suc, ◌+◌, ◌*◌, ◌<◌, ◌≤◌, ◌⊎◌, ◌↔◌, true, nat_le, List, ◌++◌, length, take, drop, Option, Some, None}
use Rattle.std.specs.List.{list_all, Any}
use Rattle.maple_base.specs.PolicyLimits.{most_tables, most_nodes, deepest, most_parentheses}
use Rattle.maple_base.specs.PolicyFaults.{number_of}
use Rattle.maple_base.specs.declared.policy_fault.PolicyFault.{PolicyFault}
use Rattle.maple_base.specs.declared.policy_fault.PolicyFault.TheVariants.{Syntax, Nesting, Nodes, TooLong}
use Rattle.policy_tokens.specs.declared.token.Token.{Token}
use Rattle.policy_grammar.specs.declared.event.Event.{Event}
use Rattle.policy_grammar.specs.Events.{file_events}
use Rattle.policy_grammar.specs.Grammar.{File, AreStatements, file_tokens, IsText, Begins}
use Rattle.policy_grammar.specs.Reading.{ahead_of}
use Rattle.policy_lang.specs.declared.nodes.Node.{Node}
use Rattle.policy_lang.specs.Nodes.{AreFree}
use Rattle.policy_outline.specs.FileNodes.{file_nodes, file_parentheses}
use Rattle.policy_outline.specs.declared.fault.OutlineError.{OutlineError}
use Rattle.policy_outline.specs.declared.fault.OutlineError.TheVariants.{Fault, NoMemory}

-- ---- limits of a file

-- a node that begins with this token is more than 32 deep, or it opens a parenthesis inside 64 open ones
abbrev pub IsTooDeep : File → ℕ → Type 0
IsTooDeep f i = Any (λ x. (x.first ≡ i) × (deepest < x.depth)) (file_nodes f) ⊎ Any (λ p. (p.token ≡ i) × (most_parentheses < p.depth)) (file_parentheses f)

-- a file passes this limit at a token: `Nodes` where the 4,097th node or a later one begins, `TooLong` at the name of the 17th table
abbrev pub PassesAt : File → ℕ → PolicyFault → Type 0
PassesAt f i Nesting = IsTooDeep f i
PassesAt f i Nodes = Any (λ x. x.first ≡ i) (drop most_nodes (file_nodes f))
PassesAt f i TooLong = (i ≡ 3 * most_tables + 1) × (most_tables < length f.tables)
PassesAt f i kind = ⊥

-- a file that passes no limit
pub record IsFree (f : File) : Type 0 where
  pub nodes : AreFree (file_nodes f)
  pub parentheses : list_all (λ p. nat_le p.depth most_parentheses) (file_parentheses f) ≡ true
  pub tables : length f.tables ≤ most_tables

-- ---- what is wrong with tokens

-- so many tokens can begin a policy, and no more: none goes on with the token behind them, or, where none is behind them, they are no policy
pub record IsFirstWrong (tokens : List Token) (i : ℕ) : Type 0 where
  pub within : i ≤ length tokens
  pub ahead : Begins (take i tokens)
  pub next : i < length tokens → ¬ (Begins (take (suc i) tokens))
  pub whole : i ≡ length tokens → ¬ (IsText tokens)

-- where the first wrong token is, if there is one
abbrev pub IsWrongAt : List Token → Option ℕ → Type 0
IsWrongAt tokens None = IsText tokens
IsWrongAt tokens (Some i) = IsFirstWrong tokens i

-- a file that the grammar has and that begins with these tokens
pub record IsBegunBy (tokens : List Token) (f : File) : Type 0 where
  pub body : AreStatements f.body
  pub rest : List Token
  pub same : file_tokens f ≡ tokens ++ rest

-- of the files that begin with these tokens each passes this limit at this token, and one of them passes none of lesser number there, and none ahead
pub record AllPass (tokens : List Token) (i : ℕ) (kind : PolicyFault) : Type 0 where
  pub within : i < length tokens
  pub each : (f : File) → IsBegunBy tokens f → PassesAt f i kind
  pub file : File
  pub begun : IsBegunBy tokens file
  pub least : (other : PolicyFault) → number_of other < number_of kind → ¬ (PassesAt file i other)
  pub first : (j : ℕ) (other : PolicyFault) → j < i → ¬ (PassesAt file j other)

-- a limit is passed first, by all that can be said of the tokens ahead of the first wrong one, or of all where none is wrong
pub record IsLimit (tokens : List Token) (i : ℕ) (kind : PolicyFault) : Type 0 where
  pub wrong : Option ℕ
  pub is_wrong : IsWrongAt tokens wrong
  pub passed : AllPass (ahead_of wrong tokens) i kind

-- the wrong token comes first: some file that begins with the tokens ahead of it passes no limit at them
pub record IsSyntax (tokens : List Token) (i : ℕ) : Type 0 where
  pub is_wrong : IsFirstWrong tokens i
  pub file : File
  pub begun : IsBegunBy (take i tokens) file
  pub free : (j : ℕ) (kind : PolicyFault) → j < i → ¬ (PassesAt file j kind)

-- the first fault of tokens
abbrev pub IsFault : List Token → ℕ → PolicyFault → Type 0
IsFault tokens i Syntax = IsSyntax tokens i
IsFault tokens i Nesting = IsLimit tokens i Nesting
IsFault tokens i Nodes = IsLimit tokens i Nodes
IsFault tokens i TooLong = IsLimit tokens i TooLong
IsFault tokens i kind = ⊥

abbrev pub IsErrorOf : List Token → OutlineError → Type 0
IsErrorOf tokens (Fault i kind) = IsFault tokens i kind
IsErrorOf tokens NoMemory = Unit {0}

-- the tokens are those of a file that passes no limit, this is what is read of it, and these are its nodes
pub record IsOutline (tokens : List Token) (events : List Event) (nodes : List Node) : Type 0 where
  pub file : File
  pub body : AreStatements file.body
  pub same : tokens ≡ file_tokens file
  pub free : IsFree file
  pub read : events ≡ file_events file
  pub listed : nodes ≡ file_nodes file

-- ---- laws

-- a file is free where it passes no limit at any token
abbrev pub FreePassesNone : Type 0
FreePassesNone = (f : File) → IsFree f ↔ ((i : ℕ) (kind : PolicyFault) → ¬ (PassesAt f i kind))

-- tokens have one first fault
abbrev pub OneFault : Type 0
OneFault = (tokens : List Token) (i j : ℕ) (k l : PolicyFault) → IsFault tokens i k → IsFault tokens j l → (i ≡ j) × (k ≡ l)

-- tokens that have a fault are those of no file that passes no limit
abbrev pub NoFaultOfFree : Type 0
NoFaultOfFree = (tokens : List Token) (i : ℕ) (k : PolicyFault) (f : File) → IsFault tokens i k → AreStatements f.body → tokens ≡ file_tokens f → ¬ (IsFree f)
