-- Legal histories of calls, as the lock has them, and of turns, as the machine has them, are the same.
use Rattle.std.specs.Prelude.{◌≡◌, List, [], ◌∷◌, map}
use Rattle.history_lock.specs.Histories.{event, Replays}
use Rattle.machine_steps.specs.Histories.{Turn, Leads}
use Rattle.machine_steps.specs.Machine.{State}
use Rattle.machine_steps.specs.Sound.{IsSound}
use Rattle.machine_sharing.specs.Sharing.{Call, Turns}

-- a call with the state ahead of it
abbrev pub turn_of : State → Call → Turn
turn_of m e = record { before = m; entry = e.entry; reply = e.reply; behind = e.behind }

-- each has the state ahead of it that is behind the one before
abbrev pub turns_of : State → List Call → List Turn
turns_of m [] = []
turns_of m (e ∷ es) = turn_of m e ∷ turns_of e.behind es

abbrev pub call_of : Turn → Call
call_of t = event t.entry t.reply t.behind

-- ---- the laws

-- the turns of a legal history of calls are a legal history, and its calls are these
pub record AreTurns (m : State) (log : List Call) (last : State) : Type 0 where
  pub leads : Leads m (turns_of m log) last
  pub same : map call_of (turns_of m log) ≡ log

abbrev pub CallsAreTurns : Type 0
CallsAreTurns = (m : State) (log : List Call) (last : State) → Replays Turns m log last → AreTurns m log last

-- the calls of a legal history of turns, from a sound state, are a legal history, and its turns are these
pub record AreCalls (m : State) (turns : List Turn) (last : State) : Type 0 where
  pub replays : Replays Turns m (map call_of turns) last
  pub same : turns_of m (map call_of turns) ≡ turns

abbrev pub TurnsAreCalls : Type 0
TurnsAreCalls = (m : State) (turns : List Turn) (last : State) → IsSound m → Leads m turns last → AreCalls m turns last

-- behind every legal history from a sound state the machine is sound
abbrev pub StatesAreSound : Type 0
StatesAreSound = (m : State) (log : List Call) (last : State) → IsSound m → Replays Turns m log last → IsSound last
