-- What a message does to the sessions.
use Rattle.std.specs.Prelude.{◌≡◌, ℕ, set, List, Some, None}
use Rattle.std.specs.List.{slice_get}
use Rattle.of10_codec.specs.declared.message.Message.{Message}
use Rattle.switch_session.specs.Calls.{Answer, Hears}
use Rattle.machine_parts.specs.declared.connection.Connection.{Connection}
use Rattle.machine_steps.specs.Machine.{Session}

-- no aim is being made ready
abbrev pub IsIdle : Connection → Type 0
IsIdle c = c.aim ≡ None

-- the session at a place hears a message
pub record HearsAt (at : ℕ) (m : Message) (old : List Session) (answer : Answer) (new : List Session) : Type 0 where
  pub session : Session
  pub behind : Session
  pub there : slice_get old at ≡ Some session
  pub hears : Hears m session answer behind
  pub now_is : new ≡ set old at behind
