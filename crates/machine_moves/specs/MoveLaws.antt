-- What holds of each turn of the machine, session by session.
use Rattle.std.specs.Prelude.{◌≡◌, ◌≢◌, ℕ, ◌≤◌, true, false, [], ◌∷◌, ◌++◌, Option, Some, None}
use Rattle.std.specs.List.{slice_get}
use Rattle.policy_lang.specs.declared.Policy.{Policy}
use Rattle.switch_session.specs.Calls.{opened}
use Rattle.machine_steps.specs.declared.entry.Entry.{Entry}
use Rattle.machine_steps.specs.declared.entry.Entry.TheVariants.{Open}
use Rattle.machine_steps.specs.declared.reply.Reply.{Reply}
use Rattle.machine_steps.specs.declared.reply.Reply.TheVariants.{NoMemory}
use Rattle.machine_steps.specs.Machine.{PolicyState, Session, State, policy_at, session_at, state_number, this_state, was_opened}
use Rattle.machine_steps.specs.Admitting.{Admits}
use Rattle.machine_steps.specs.Sound.{IsSound}
use Rattle.machine_steps.specs.Steps.{Steps, kept_at}
use Rattle.machine_moves.specs.Moves.{Fares}

-- each open session: an entry does at most two things to it
abbrev pub SessionsMove : Type 0
SessionsMove =
    (old : State) (entry : Entry) (reply : Reply) (new : State) → IsSound old → Admits old entry → Steps old entry reply new
    → (c : ℕ) (s : Session) → session_at c old ≡ Some s → Fares c old entry reply new s

-- a session is opened by its Open alone, on a connection that wasn't opened before
pub record IsOpened (c : ℕ) (old : State) (entry : Entry) (reply : Reply) (s : Session) : Type 0 where
  pub entry_is : entry ≡ Open c
  pub new_one : was_opened c old ≡ false
  pub done : reply ≢ NoMemory
  pub session : s ≡ opened c old.settings.capacity

abbrev pub SessionsOpen : Type 0
SessionsOpen =
    (old : State) (entry : Entry) (reply : Reply) (new : State) → IsSound old → Steps old entry reply new
    → (c : ℕ) (s : Session) → session_at c old ≡ None → session_at c new ≡ Some s → IsOpened c old entry reply s

-- an Open that doesn't want memory, and it alone, opens a connection; opened ones stay so
pub record OpensOnly (old : State) (entry : Entry) (reply : Reply) (new : State) : Type 0 where
  pub stay : (c : ℕ) → was_opened c old ≡ true → was_opened c new ≡ true
  pub opens : (c : ℕ) → entry ≡ Open c → reply ≢ NoMemory → was_opened c new ≡ true
  pub others : (c : ℕ) → was_opened c old ≡ false → was_opened c new ≡ true → entry ≡ Open c

abbrev pub ConnectionsOpen : Type 0
ConnectionsOpen = (old : State) (entry : Entry) (reply : Reply) (new : State) → Steps old entry reply new → OpensOnly old entry reply new

-- an open session is the one whose messages are taken out
abbrev pub OpenIsKept : Type 0
OpenIsKept = (m : State) (c : ℕ) (s : Session) → IsSound m → session_at c m ≡ Some s → kept_at c m ≡ Some s

-- the state of this number
abbrev pub state_of : State → ℕ → Option PolicyState
state_of m n = slice_get (m.states ++ this_state m ∷ []) n

-- states and policies that were stay what they were
pub record Grows (old new : State) : Type 0 where
  pub settings : new.settings ≡ old.settings
  pub later : state_number old ≤ state_number new
  pub states : (n : ℕ) (p : PolicyState) → state_of old n ≡ Some p → state_of new n ≡ Some p
  pub policies : (n : ℕ) (p : Policy) → policy_at old n ≡ Some p → policy_at new n ≡ Some p

abbrev pub StatesGrow : Type 0
StatesGrow = (old : State) (entry : Entry) (reply : Reply) (new : State) → Steps old entry reply new → Grows old new
