-- What of the machine's state is another behind an entry: all that entries do, as one closed sum, which follows from Steps.
use Rattle.std.specs.Prelude.{◌≡◌, ◌⊎◌, ℕ, ◌≤◌, ◌<◌, Bool, true, false, not, ◌==◌, filter, List, [], ◌∷◌, ◌++◌, length, Option, Some, None, Ok, Contains}
use Rattle.std.specs.FinSet as set
use Rattle.std.specs.List.{flat_map}
use Rattle.maple_base.specs.declared.cells.Cell.{Cell}
use Rattle.maple_base.specs.declared.cells.Port.{Port}
use Rattle.maple_base.specs.declared.cells.Value.{Value}
use Rattle.maple_base.specs.declared.decision.Decision.{Decision}
use Rattle.maple_base.specs.declared.items.Item.{Item}
use Rattle.maple_base.specs.declared.key.Key.{Key}
use Rattle.of10_codec.specs.declared.message.Message.{Message}
use Rattle.env_cells.specs.declared.updates.Update.{Update}
use Rattle.env_cells.specs.declared.updates.Update.TheVariants.{Switch}
use Rattle.env_cells.specs.Refusals.{refusal_of}
use Rattle.packet_key.specs.Frames.{key_of}
use Rattle.policy_lang.specs.declared.Policy.{Policy}
use Rattle.report_text.specs.declared.line.Line.{Line}
use Rattle.report_text.specs.declared.line.Line.TheVariants as lines
use Rattle.report_text.specs.declared.line.Why.TheVariants as why
use Rattle.report_text.specs.Report.{spelled}
use Rattle.switch_session.specs.declared.told.End.{End}
use Rattle.switch_session.specs.declared.told.End.TheVariants as ends
use Rattle.switch_session.specs.declared.told.Heard.{Heard}
use Rattle.switch_session.specs.declared.told.Heard.TheVariants as heard
use Rattle.switch_session.specs.Calls.{opened, Hears, TakesOut}
use Rattle.switch_session.specs.Sessions.{ended}
use Rattle.machine_steps.specs.declared.entry.Entry.{Entry}
use Rattle.machine_steps.specs.declared.entry.Entry.TheVariants as entries
use Rattle.machine_steps.specs.declared.entry.Input.TheVariants.{Message as Whole, Bad}
use Rattle.machine_steps.specs.declared.reply.Differs.{Differs}
use Rattle.machine_steps.specs.declared.reply.Reply.{Reply}
use Rattle.machine_steps.specs.declared.reply.Reply.TheVariants.{Done, NoMemory, Ended, Job as JobOpened, Overload, NewState, Answered, Spent, Stale, NotOpen, Out, Lines}
use Rattle.machine_steps.specs.Machine.{Session, Job, State, most_sessions, most_jobs, is_open, session_at, was_opened, open_count, with_session, tells, tells_all}
use Rattle.machine_steps.specs.Steps.{switch_of, updated, renewed, reached, Reaches, Lacks, kept_at, emptied, Joins, Teaches, job_of, item_of, opens_job, quiets, close_job, Answers}

-- ---- replies and entries

-- a reply tells that a state was reached
abbrev pub tells_state : Reply → Bool
tells_state (NewState state pruned) = true
tells_state reply = false

-- of a packet that waits, or that no more may
abbrev pub tells_packet : Reply → Bool
tells_packet (JobOpened item) = true
tells_packet Overload = true
tells_packet reply = false

-- of a run
abbrev pub tells_run : Reply → Bool
tells_run (Answered d l) = true
tells_run Spent = true
tells_run (Stale differs) = true
tells_run NotOpen = true
tells_run reply = false

-- of an end
abbrev pub tells_end : Reply → Bool
tells_end (Ended end) = true
tells_end reply = false

-- that memory ran out
abbrev pub tells_lack : Reply → Bool
tells_lack NoMemory = true
tells_lack reply = false

-- a state, a packet, a run, want of memory
abbrev pub telling : Reply → Bool × Bool × Bool × Bool
telling r = (tells_state r, tells_packet r, tells_run r, tells_lack r)

abbrev pub nothing_told : Bool × Bool × Bool × Bool
nothing_told = (false, false, false, false)

-- the reply tells of none of these, and of no end
abbrev pub IsPlain : Reply → Type 0
IsPlain r = (telling r ≡ nothing_told) × (tells_end r ≡ false)

-- the job that an entry ends or doesn't
abbrev pub job_in : Entry → Option ℕ
job_in (entries.Commit number run) = Some number
job_in (entries.Decide number) = Some number
job_in entry = None

-- an entry may lead to a next state under the same policy
abbrev pub may_advance : Entry → Bool
may_advance (entries.Heard c input) = true
may_advance (entries.Change u) = true
may_advance entry = false

-- an entry ends the session of this connection without a message
abbrev pub IsEndOf : ℕ → Entry → Type 0
IsEndOf c (entries.Gone d fault) = d ≡ c
IsEndOf c (entries.Heard d (Bad place bad)) = d ≡ c
IsEndOf c entry = ⊥

-- ---- messages

-- what was heard makes the session at most another that stays open, and quiet or not as it was
abbrev pub only_moves : Heard → Bool
only_moves heard.Passed = true
only_moves (heard.Acknowledged first) = true
only_moves (heard.Refused kind code breaks) = not breaks
only_moves h = false

-- what the open session of a connection, t from then on, made of a message
pub record Hearing (old : State) (entry : Entry) (h : Heard) (t : Session) : Type 0 where
  pub connection : ℕ
  pub message : Message
  pub is : entry ≡ entries.Heard connection (Whole message)
  pub session : Session
  pub there : session_at connection old ≡ Some session
  pub hears : Hears message session (Ok h) t

-- a session ended as t: its connection or its stream did, its switch was refused, or a message ended it
abbrev pub Ending : State → Entry → Session → Type 0
Ending old entry t =
    ((c : ℕ) × (s : Session) × IsEndOf c entry × (session_at c old ≡ Some s) × (t ≡ ended s))
    ⊎ (((u : Session) × (dpid : ℕ) × (ports : List Port) × Hearing old entry (heard.Features dpid ports) u × (t ≡ ended u))
    ⊎ ((end : End) × Hearing old entry (heard.Ended end) t))

-- a session is put back, and its jobs are closed
abbrev pub shuts : Session → State → State
shuts t m = record (with_session t m) { jobs = filter (λ (j : Job). not (j.connection == t.connection)) m.jobs }

-- a packet came whole or waits at its switch, and what it taught
pub record Packet (old : State) (entry : Entry) (t : Session) (buffer : ℕ) (frame : List ℕ) (k : Key) (taught : State) : Type 0 where
  pub in_port : ℕ
  pub hearing : Hearing old entry (heard.PacketIn buffer in_port frame) t
  pub key : key_of in_port frame ≡ Ok k
  pub teaches : Teaches (switch_of t) k old taught

-- an open job, and a run that ends it
pub record Running (old : State) (entry : Entry) (j : Job) : Type 0 where
  pub number : ℕ
  pub is : job_in entry ≡ Some number
  pub there : Contains old.jobs j
  pub of_number : j.number ≡ number

-- ---- the sum

pub data Effect (old : State) (entry : Entry) (reply : Reply) (new : State) : Type 0 where
  -- memory ran out
  RunsOut : Lacks old reply new → Effect old entry reply new
  -- there is nothing to do, or something is read
  Rests : IsPlain reply → new ≡ old → Effect old entry reply new
  -- no open job is the run's
  Misses : (number : ℕ) → job_in entry ≡ Some number → reply ≡ NotOpen → new ≡ old → Effect old entry reply new
  -- a run isn't of the state now
  Outdates : (number : ℕ) → job_in entry ≡ Some number → (differs : Differs) → reply ≡ Stale differs → (more : List Line) → new ≡ tells_all more old → Effect old entry reply new
  -- the report gets lines, and nothing else changes
  Tells : IsPlain reply → (more : List Line) → new ≡ tells_all more old → Effect old entry reply new
  -- the report is taken
  Reports : entry ≡ entries.TakeReport → reply ≡ Lines (flat_map spelled old.lines) → new ≡ record old { lines = [] } → Effect old entry reply new
  -- a connection is opened, with a session or in vain
  OpensSession : (c : ℕ) → entry ≡ entries.Open c → was_opened c old ≡ false → open_count old < most_sessions → reply ≡ Done
      → new ≡ tells (lines.Open c) (record old { opened = set.insert old.opened c; sessions = old.sessions ++ opened c old.settings.capacity ∷ [] }) → Effect old entry reply new
  TurnsAway : (c : ℕ) → entry ≡ entries.Open c → was_opened c old ≡ false → most_sessions ≤ open_count old → reply ≡ Ended ends.Full
      → new ≡ tells (lines.Closed c why.Full) (record old { opened = set.insert old.opened c }) → Effect old entry reply new
  -- the messages of a session are taken out
  Empties : (c : ℕ) (s t : Session) (bytes : List ℕ) → entry ≡ entries.TakeOut c → kept_at c old ≡ Some s → TakesOut s bytes t → reply ≡ Out bytes
      → new ≡ emptied (is_open s) t old → Effect old entry reply new
  -- a message makes a session another, which stays open
  Moves : (h : Heard) (t : Session) → Hearing old entry h t → only_moves h ≡ true → IsPlain reply → (more : List Line) → new ≡ tells_all more (with_session t old) → Effect old entry reply new
  -- the first error of a batch
  Quiets : (kind code : ℕ) (t : Session) → Hearing old entry (heard.Refused kind code true) t → IsPlain reply
      → new ≡ quiets t (tells (lines.Error t.connection kind code) (with_session t old)) → Effect old entry reply new
  -- a session ends
  Ends : (t : Session) (end : End) → Ending old entry t → reply ≡ Ended end → (more : List Line) → new ≡ tells_all more (shuts t old) → Effect old entry reply new
  -- a state is reached by an update, or by another policy
  Advances : (u : Update) → may_advance entry ≡ true → refusal_of old.scene u ≡ None → reply ≡ reached old (updated u old) → Reaches old (updated u old) new
      → Effect old entry reply new
  Renews : (p : Policy) → entry ≡ entries.NewPolicy p → reply ≡ reached old (renewed p old) → Reaches old (renewed p old) new → Effect old entry reply new
  -- a switch joins
  Accepts : (t : Session) (dpid : ℕ) (ports : List Port) → Hearing old entry (heard.Features dpid ports) t → reply ≡ reached old (updated (Switch dpid ports) old)
      → Joins t dpid ports old new → Effect old entry reply new
  -- a packet comes: no more may wait, or it waits
  Overflows : (t : Session) (buffer : ℕ) (frame : List ℕ) (k : Key) (taught : State) → Packet old entry t buffer frame k taught → most_jobs ≤ length old.jobs
      → reply ≡ Overload → new ≡ tells (lines.Overload t.connection) taught → Effect old entry reply new
  Waits : (t : Session) (buffer : ℕ) (frame : List ℕ) (k : Key) (taught : State) → Packet old entry t buffer frame k taught → length old.jobs < most_jobs
      → reply ≡ JobOpened (item_of (job_of t buffer frame k taught)) → new ≡ opens_job (job_of t buffer frame k taught) taught → Effect old entry reply new
  -- a run ends a job: its steps are spent, or it decides
  Spends : (j : Job) → Running old entry j → reply ≡ Spent → new ≡ tells (lines.Spent j.switch j.key.in_port) (close_job j old) → Effect old entry reply new
  AnswersJob : (j : Job) (items : List Item) (cells : List (Cell × Value)) (d : Decision) → Running old entry j → Answers j items cells d old reply new → Effect old entry reply new
