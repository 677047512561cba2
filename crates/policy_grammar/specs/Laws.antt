-- What holds of the tokens of each policy.
use Rattle.std.specs.Prelude.{◌≡◌, List, Some, ◌↔◌}
use Rattle.policy_tokens.specs.declared.token.Token.{Token}
use Rattle.policy_grammar.specs.Grammar.{File, AreStatements, file_tokens, IsText, Begins}
use Rattle.policy_grammar.specs.Automaton.{State, start, run}
use Rattle.policy_grammar.specs.Events.{trace, file_events}
use Rattle.policy_grammar.specs.Reading.{RunsToEnd}

-- exactly the tokens of the grammar's files are read to the end
abbrev pub ReadsTexts : Type 0
ReadsTexts = (tokens : List Token) → RunsToEnd tokens ↔ IsText tokens

-- the reader reads these tokens
pub record IsRead (tokens : List Token) : Type 0 where
  pub state : State
  pub reached : run start tokens ≡ Some state

-- exactly the tokens with which some file begins are read
abbrev pub ReadsBeginnings : Type 0
ReadsBeginnings = (tokens : List Token) → IsRead tokens ↔ Begins tokens

-- what is read of a file's tokens is what the file's events are
abbrev pub ReadsEvents : Type 0
ReadsEvents = (f : File) → AreStatements f.body → trace start (file_tokens f) ≡ file_events f
