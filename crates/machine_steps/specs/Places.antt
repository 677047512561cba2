-- Where sessions stand, and what an update asks of the machine's state.
use Rattle.std.specs.Prelude.{◌≡◌, ℕ, true, Some, None}
use Rattle.std.specs.List.{AllByRecursion, slice_get}
use Rattle.machine_steps.specs.Machine.{Session, State, is_live, session_at}
use Rattle.machine_steps.specs.Sound.{AreInRange, AreLearned, HeadsRight}

-- the open session of a connection stands at this place
pub record IsAt (c at : ℕ) (m : State) : Type 0 where
  pub session : Session
  pub there : slice_get m.sessions at ≡ Some session
  pub found : session_at c m ≡ Some session

-- a live session heads for the rules of its switch's traces, and nothing is prepared for it
pub record IsHeading (m : State) (s : Session) : Type 0 where
  pub right : HeadsRight m s
  pub idle : s.prepared ≡ None

-- what an accepted update asks of the state: a session that waits to be accepted may have more
pub record CanReach (m : State) : Type 0 where
  pub ranges : AreInRange m.settings
  pub learned : AllByRecursion (AreLearned m) m.learned
  pub sessions : AllByRecursion (λ (s : Session). is_live s ≡ true → IsHeading m s) m.sessions
