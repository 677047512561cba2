-- What is read and counted of tokens. It serves private contracts and proofs alone.
use Rattle.std.specs.Prelude.{◌≡◌, ◌+◌, ◌≤◌, ◌++◌, List, Option, Some, None}
use Rattle.policy_tokens.specs.declared.token.Token.{Token}
use Rattle.policy_grammar.specs.declared.event.Event.{Event}
use Rattle.policy_grammar.specs.Automaton.{State, start, step}
use Rattle.policy_grammar.specs.Events.{events}
use Rattle.policy_outline.specs.declared.fault.OutlineError.{OutlineError}
use Rattle.policy_outline.specs.declared.fault.OutlineError.TheVariants.{Fault, NoMemory}
use Rattle.policy_outline.specs.Bounds.{begun_in, ended_in, most_counted}
use Rattle.policy_outline.specs.Counts.{Count}
use Rattle.policy_outline.specs.Counting.{Counter, nothing_counted, token_counted, counted_from}
use Rattle.policy_outline.specs.Scanning.{first_passed}

-- what is counted of tokens
abbrev pub counts_of : List Token → List Count
counts_of ts = (counted_from start nothing_counted ts).counts

-- one more token was read and counted, and what it adds was added; or none like it may stand there
abbrev pub Advances : Option State → Token → State → List Event → List Event → Counter → Counter → Type 0
Advances (Some n) t s es us c d = (step s t ≡ Some n) × (us ≡ es ++ events s t) × (d ≡ token_counted s t c)
Advances None t s es us c d = step s t ≡ None

-- a machine can count so many
pub record AreCountable (counts : List Count) : Type 0 where
  pub begun : begun_in counts ≤ most_counted + 1
  pub ended : ended_in counts ≤ most_counted + 1

-- a limit is passed first at a token
abbrev pub IsStopOf : List Count → OutlineError → Type 0
IsStopOf counts (Fault i kind) = first_passed 0 0 0 counts ≡ Some (i, kind)
IsStopOf counts NoMemory = Unit {0}
