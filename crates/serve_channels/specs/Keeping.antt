-- What a server keeps, beside what was done so far; and what its calls do to it.
use Rattle.std.specs.Prelude.{◌≡◌, ℕ, ◌+◌, Bool, true, false, not, List, [], ◌++◌, length, None, Some}
use Rattle.std.specs.List.{list_all, slice_get}
use Rattle.maple_io.specs.declared.act.Act.{Act}
use Rattle.maple_io.specs.Boards.{sent, was_closed, was_opened}
use Rattle.of10_stream.specs.Steps.{Stream}
use Rattle.machine_steps.specs.declared.entry.Entry.{Entry}
use Rattle.machine_steps.specs.declared.entry.Input.{Input}
use Rattle.machine_steps.specs.declared.entry.Input.TheVariants.{Message, Bad}
use Rattle.machine_steps.specs.Machine.{opening}
use Rattle.machine_steps.specs.Machine.{was_opened as was_session}
use Rattle.machine_desk.specs.Hearing.{is_live, was_begun}
use Rattle.machine_desk.specs.Homes.{IsStaffed, LeavesNone}
use Rattle.sim_steps.specs.Agreeing.{AreCut}
use Rattle.serve_steps.specs.Deeds.{Past, acts_of, bytes_of, has_failed, inputs_of, is_open, is_over, taken_of, turns_of, was_accepted, was_cut}
use Rattle.serve_steps.specs.Parts.{Given}
use Rattle.serve_steps.specs.Runs.{taken_report}
use Rattle.serve_channels.specs.declared.connection.Connection.{Connection}
use Rattle.serve_channels.specs.declared.server.Server.{Server}
use Rattle.serve_channels.specs.Servers.{AreSessions, AreSorted, IsUnknown, home, number_of}
use Rattle.serve_channels.specs.Stretches.{IsAside, Stretch}

-- ---- a connection

abbrev pub is_message : Input → Bool
is_message (Message x) = true
is_message (Bad place bad) = false

-- what was heard is what the bytes that came are cut into, but for the rest; no fault was met
pub record IsHeardTo (c : ℕ) (past : Past) (stream : Stream) : Type 0 where
  pub cut : AreCut 0 (inputs_of c past) (bytes_of c past) stream.rest
  pub place : stream.place + length stream.rest ≡ length (bytes_of c past)
  pub unbroken : stream.broken ≡ None
  pub messages : list_all is_message (inputs_of c past) ≡ true

-- what is kept of a connection agrees with what was done
pub record Agrees (past : Past) (k : Connection) : Type 0 where
  pub queue : k.queue.number ≡ number_of k
  pub begun : was_begun k.inbound.stage ≡ true
  pub live : is_open (number_of k) past ≡ is_live k.inbound.stage
  pub over : is_over (number_of k) past ≡ not (is_live k.inbound.stage)
  pub cut : k.cut ≡ was_cut (number_of k) past
  pub step : taken_of (number_of k) past ≡ sent (number_of k) (acts_of past) ++ k.queue.rest
  pub failed : k.queue.failed ≡ has_failed (number_of k) past
  pub heard : is_live k.inbound.stage ≡ true → IsHeardTo (number_of k) past k.inbound.from.stream
  pub opened : was_opened (number_of k) (acts_of past) ≡ true
  pub closed : was_closed (number_of k) (acts_of past) ≡ false

-- a connection that isn't kept: its session is over and it was closed, or it was never begun
pub record IsForgotten (c : ℕ) (past : Past) : Type 0 where
  pub shut : is_open c past ≡ false
  pub closed : was_closed c (acts_of past) ≡ is_over c past

-- nothing was ever done with this number
pub record IsUnused (c : ℕ) (past : Past) : Type 0 where
  pub unaccepted : was_accepted c past ≡ false
  pub not_over : is_over c past ≡ false
  pub uncut : was_cut c past ≡ false
  pub untaken : taken_of c past ≡ []
  pub unsent : sent c (acts_of past) ≡ []
  pub unfailed : has_failed c past ≡ false
  pub unheard : inputs_of c past ≡ []
  pub unclosed : was_closed c (acts_of past) ≡ false

-- nothing but that it was opened: no byte came on it since
abbrev pub IsBegun : ℕ → Past → Type 0
IsBegun c past = IsUnused c past × (was_opened c (acts_of past) ≡ true) × (bytes_of c past ≡ [])

-- ---- a server

-- what is kept, where these deeds were done so far, and the board's log had these acts before; and this of the packets that wait
pub record Keeps (g : Given) (before : List Act) (past : Past) (log : List Act) (s : Server) (Jobs : Type 0) : Type 0 where
  pub start : s.desk.footing.start ≡ opening g.policy g.settings
  pub turns : s.desk.past ≡ turns_of past
  pub acts : log ≡ before ++ acts_of past
  pub sorted : AreSorted s.connections.items
  pub agree : (at : ℕ) (k : Connection) → slice_get s.connections.items at ≡ Some k → Agrees past k
  pub forgotten : (c : ℕ) → IsUnknown c s.connections.items → IsForgotten c past
  pub unused : (c : ℕ) → was_opened c (acts_of past) ≡ false → IsUnused c past × (was_session c s.desk.now ≡ false)
  pub sessions : AreSessions s.connections.items s.desk.now
  pub crew : IsStaffed home s
  pub jobs : Jobs

-- with nobody beside the server none waits
abbrev pub IsKept : Given → List Act → Past → List Act → Server → Type 0
IsKept g before past log s = Keeps g before past log s (LeavesNone home s)

-- so it is of some deeds
pub record IsServing (log : List Act) (s : Server) : Type 0 where
  pub given : Given
  pub before : List Act
  pub past : Past
  pub kept : IsKept given before past log s

-- whatever these were
abbrev pub ServesSome : Server → Type 0
ServesSome s = (log : List Act) × IsServing log s

-- ---- what a call does

-- a stretch of deeds was done, of which this holds, and all is kept; nothing was done with connections that aren't there, and nothing taken of the report
pub record Went (g : Given) (before : List Act) (So : List Entry → Past → Type 0) (past : Past) (log : List Act) (s : Server) : Type 0 where
  pub done : Past
  pub own : List Entry
  pub stretch : Stretch own done past
  pub so : So own done
  pub kept : IsKept g before (done ++ past) log s
  pub aside : (c : ℕ) → IsUnknown c s.connections.items → IsAside c done
  pub unread : taken_report done ≡ []

-- whatever was done before, where this held of it
abbrev pub GoesFrom : (Past → Type 0) → (Past → List Entry → Past → Type 0) → Server → List Act → Server → List Act → Type 0
GoesFrom Pre So old old_log new new_log =
    (g : Given) (before : List Act) (past : Past) → IsKept g before past old_log old → Pre past → Went g before (So past) past new_log new

abbrev pub Goes : (Past → List Entry → Past → Type 0) → Server → List Act → Server → List Act → Type 0
Goes So old old_log new new_log = GoesFrom (λ past. Unit {0}) So old old_log new new_log

-- the entries are these, in this order
abbrev pub Are : List Entry → Past → List Entry → Past → Type 0
Are entries past own done = own ≡ entries
