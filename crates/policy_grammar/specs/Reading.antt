-- What a reader's answers say.
use Rattle.std.specs.Prelude.{◌≡◌, ◌≢◌, ℕ, ◌≤◌, ◌++◌, Bool, true, false, List, length, map, take, Option, Some, None}
use Rattle.std.specs.List.{slice_get}
use Rattle.policy_tokens.specs.declared.token.Token.{Token}
use Rattle.policy_tokens.specs.declared.token.PlacedToken.{PlacedToken}
use Rattle.policy_grammar.specs.declared.event.Event.{Event}
use Rattle.policy_grammar.specs.declared.stage.Stage.TheVariants as at
use Rattle.policy_grammar.specs.Automaton.{State, start, step, run}

-- for private contracts: the token was read, and this is the state behind it; or none like it may stand there
abbrev pub Goes : Bool → State → Option State → Type 0
Goes true new s = s ≡ Some new
Goes false new s = s ≡ None

-- for private contracts: what was there is still ahead of what was added
pub record HasGrown (old new : List Event) : Type 0 where
  pub more : List Event
  pub is : new ≡ old ++ more

-- ---- reading tokens

-- tokens, without their places
abbrev pub plain : List PlacedToken → List Token
plain = map (λ p. p.token)

-- the tokens ahead of the one with which no policy can go on, or all
abbrev pub ahead_of : Option ℕ → List Token → List Token
ahead_of None tokens = tokens
ahead_of (Some i) tokens = take i tokens

-- the tokens are read to the end of a policy
pub record RunsToEnd (tokens : List Token) : Type 0 where
  pub state : State
  pub run : run start tokens ≡ Some state
  pub ended : state.stage ≡ at.End

-- the tokens ahead of this index are read, and with the one at it none can go on; where none is at it, the policy has not ended
pub record StopsAt (tokens : List Token) (i : ℕ) : Type 0 where
  pub state : State
  pub within : i ≤ length tokens
  pub run : run start (take i tokens) ≡ Some state
  pub stops : (t : Token) → slice_get tokens i ≡ Some t → step state t ≡ None
  pub unfinished : i ≡ length tokens → state.stage ≢ at.End

abbrev pub Runs : List Token → Option ℕ → Type 0
Runs tokens None = RunsToEnd tokens
Runs tokens (Some i) = StopsAt tokens i
