-- Which sessions and lists of traces are looked for, and where they stand.
use Rattle.std.specs.Prelude.{◌≡◌, ℕ, ◌&&◌, ◌==◌, Bool, List, Some}
use Rattle.std.specs.List.{list_any, slice_get}
use Rattle.switch_traces.specs.Traces.{Learnings}
use Rattle.machine_steps.specs.Machine.{Session, State, is_live, has_switch}
use Rattle.machine_steps.specs.Steps.{kept_at}

-- a session of this connection, also an ended one
abbrev pub is_kept : ℕ → Session → Bool
is_kept c s = s.connection == c

-- the session of a connection stands at this place
pub record IsKeptAt (c at : ℕ) (m : State) : Type 0 where
  pub session : Session
  pub there : slice_get m.sessions at ≡ Some session
  pub found : kept_at c m ≡ Some session

-- a live session that has this switch
abbrev pub serves : ℕ → Session → Bool
serves dpid s = is_live s && has_switch dpid s

-- the list of this switch's traces
abbrev pub is_list_of : ℕ → Learnings → Bool
is_list_of dpid l = l.switch == dpid

abbrev pub is_listed : ℕ → List Learnings → Bool
is_listed dpid ls = list_any (is_list_of dpid) ls
