-- Which of the learned traces live, told over what happened, in the order in which it happened.
use Rattle.std.specs.Prelude.{ℕ, Bool, true, false, not, ◌&&◌, ◌==◌, if◌then◌else◌, List, [], ◌∷◌, Option, Some, None}
use Rattle.std.specs.List.{list_all}
use Rattle.maple_base.specs.declared.cells.Cell.{Cell}
use Rattle.maple_base.specs.declared.cells.Value.{Value}
use Rattle.trace_tree.specs.declared.node.Trace.{Trace}
use Rattle.tree_prune.specs.Current.{are_current}

-- a state: the number of its policy, and what its environment has in each cell
pub record State : Type 0 where
  pub policy : ℕ
  pub has : Cell → Value

-- a trace of the policy of this number is learned; the traces of this number are retired, or all are; a state is reached
pub data Event : Type 0 where
  Learned : ℕ → Trace → Event
  Retired : ℕ → Event
  AllRetired : Event
  Reached : State → Event

-- the state's policy has this number, and each recorded cell of the trace has its recorded value there
abbrev pub agrees : State → ℕ → Trace → Bool
agrees s policy r = s.policy == policy && are_current s.has r.cells

-- whether a trace of this policy still lives behind the event
abbrev pub outlives : ℕ → Trace → Event → Bool
outlives policy r (Learned p q) = true
outlives policy r (Retired n) = not (r.number == n)
outlives policy r AllRetired = false
outlives policy r (Reached s) = agrees s policy r

-- whether a trace lives that was learned in state s, with these events behind its learning
abbrev pub lives : State → ℕ → Trace → List Event → Bool
lives s policy r later = agrees s policy r && list_all (outlives policy r) later

-- the traces that live behind these events, the first of which came in state s, in the order learned
abbrev pub live_from : State → List Event → List Trace
live_from s [] = []
live_from s (Learned policy r ∷ later) = if lives s policy r later then r ∷ live_from s later else live_from s later
live_from s (Retired n ∷ later) = live_from s later
live_from s (AllRetired ∷ later) = live_from s later
live_from s (Reached t ∷ later) = live_from t later

-- the traces that live behind these events; before the first state none is learned
abbrev pub live : List Event → List Trace
live [] = []
live (Reached s ∷ later) = live_from s later
live (e ∷ later) = live later

-- the state that was reached last, from s on
abbrev pub state_from : State → List Event → State
state_from s [] = s
state_from s (Reached t ∷ later) = state_from t later
state_from s (e ∷ later) = state_from s later

-- the state that was reached last
abbrev pub state_of : List Event → Option State
state_of [] = None
state_of (Reached s ∷ later) = Some (state_from s later)
state_of (e ∷ later) = state_of later

-- every trace that was learned, in the order learned
abbrev pub learned : List Event → List Trace
learned [] = []
learned (Learned policy r ∷ later) = r ∷ learned later
learned (e ∷ later) = learned later
