-- The sessions of connections, and how many lines of the report are kept ready for them.
use Rattle.std.specs.Prelude.{ℕ, ◌+◌, if◌then◌else◌, List, [], ◌∷◌}
use Rattle.machine_parts.specs.declared.connection.Connection.{Connection}
use Rattle.machine_steps.specs.Machine.{Session, is_open}

abbrev pub session_of : Connection → Session
session_of c = c.session

-- how many lines an open session may still bring without memory: ready, error and quiet; error and closed
abbrev pub due : Session → ℕ
due s = if is_open s then 2 + (if s.ready then 0 else 1) + (if s.quiet then 0 else 2) else 0

abbrev pub due_all : List Session → ℕ
due_all [] = 0
due_all (s ∷ ss) = due s + due_all ss
