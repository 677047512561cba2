-- What allowed entries leave as it is, one behind the other, and what each does to one session.
use Rattle.std.specs.Prelude.{◌≡◌, ℕ, Bool, true, false, ◌==◌, filter, List, [], Option, Some, None}
use Rattle.std.specs.List.{AllZip}
use Rattle.maple_base.specs.declared.decision.Decision.{Decision}
use Rattle.report_text.specs.declared.line.Learnt.{Learnt}
use Rattle.report_text.specs.declared.line.Learnt.TheVariants.{Learned}
use Rattle.trace_tree.specs.declared.node.Trace.{Trace}
use Rattle.history_lock.specs.Histories.{StartsWith, Replays, AreAllowed, IsAllowedSince, state_behind}
use Rattle.machine_steps.specs.declared.entry.Entry.{Entry}
use Rattle.machine_steps.specs.declared.job.Job.{Job}
use Rattle.machine_steps.specs.declared.reply.Reply.{Reply}
use Rattle.machine_steps.specs.declared.reply.Reply.TheVariants.{Answered}
use Rattle.machine_steps.specs.Effects.{Running}
use Rattle.machine_steps.specs.Machine.{Session, State, session_at, traces_of}
use Rattle.machine_steps.specs.Steps.{HeadsFor, kept_at, sends}
use Rattle.machine_sharing.specs.Sharing.{Call, Turns, Allows}

-- ---- the session of a connection, before and behind

-- there is none before and none behind, or there is one and it does so
abbrev pub Both : (Session → Session → Type 0) → Option Session → Option Session → Type 0
Both R None None = Unit {0}
Both R (Some s) (Some t) = R s t
Both R s t = ⊥

-- the open session of each connection, and the one whose messages are taken out
abbrev pub AllBoth : (Session → Session → Type 0) → State → State → Type 0
AllBoth R old new = (c : ℕ) → Both R (session_at c old) (session_at c new) × Both R (kept_at c old) (kept_at c new)

-- ---- what stays

-- a session stays of its connection, in its phase, with its switch; at most messages are put behind those of its outbox, and none is taken out
pub record OnlyGrows (s t : Session) : Type 0 where
  pub connection : t.connection ≡ s.connection
  pub capacity : t.capacity ≡ s.capacity
  pub phase : t.phase ≡ s.phase
  pub dpid : t.dpid ≡ s.dpid
  pub ready : t.ready ≡ s.ready
  pub quiet : t.quiet ≡ s.quiet
  pub taken : t.taken ≡ s.taken
  pub outbox : StartsWith t.outbox s.outbox

pub record Stays (old new : State) : Type 0 where
  pub settings : new.settings ≡ old.settings
  pub earlier : new.earlier ≡ old.earlier
  pub policy : new.policy ≡ old.policy
  pub states : new.states ≡ old.states
  pub scene : new.scene ≡ old.scene
  pub opened : new.opened ≡ old.opened
  -- no packet comes, and those that wait only go
  pub job_count : new.job_count ≡ old.job_count
  pub jobs : (waits : Job → Bool) × (new.jobs ≡ filter waits old.jobs)
  -- each session, in its place, and so each that is found by its connection
  pub sessions : AllZip OnlyGrows old.sessions new.sessions
  pub found : AllBoth OnlyGrows old new
  -- traces are learned behind those of their switch, and lines are told behind those that weren't taken yet
  pub traces : (switch : ℕ) → StartsWith (traces_of switch new) (traces_of switch old)
  pub lines : StartsWith new.lines old.lines

-- ---- what one entry does to one session

-- a session heads for the rules of these traces where one was learned, and else stays as it is
abbrev pub LedBy : Learnt → List Trace → Session → Session → Type 0
LedBy Learned traces s t = HeadsFor traces s t
LedBy other traces s t = t ≡ s

-- the packet of a job is sent as the decision says, if the session is that of its connection, which may then be led; any other session stays as it is
abbrev pub AnswersBy : Bool → Job → Decision → Learnt → State → Session → Session → Type 0
AnswersBy true j d l new s t = LedBy l (traces_of j.switch new) (sends j d s) t
AnswersBy false j d l new s t = t ≡ s

-- the job that an entry names was open, and is answered
pub record IsAnswered (old : State) (entry : Entry) (d : Decision) (l : Learnt) (new : State) (s t : Session) : Type 0 where
  pub job : Job
  pub running : Running old entry job
  pub does : AnswersBy (job.connection == s.connection) job d l new s t

-- an answer does so, and any other reply tells that the session stays as it is
abbrev pub DoesTo : State → Entry → Reply → State → Session → Session → Type 0
DoesTo old entry (Answered d l) new s t = IsAnswered old entry d l new s t
DoesTo old entry reply new s t = t ≡ s

-- ---- the laws

-- with no job open, allowed entries change nothing
abbrev pub NothingChanges : Type 0
NothingChanges =
    (log rest : List Call) (old new : State) → old.jobs ≡ [] → Replays Turns old rest new → AreAllowed Allows log rest → new ≡ old

-- whatever jobs are open, they leave all this
abbrev pub MostStays : Type 0
MostStays = (log rest : List Call) (old new : State) → Replays Turns old rest new → AreAllowed Allows log rest → Stays old new

-- so that stands of the machine behind what a pass has seen, in every legal history that begins with that and since which all was allowed
abbrev pub SinceStays : Type 0
SinceStays =
    (opening m : State) (log seen : List Call) → Replays Turns opening log m → IsAllowedSince Allows log seen → Stays (state_behind opening seen) m

-- and each of them does this to each session
abbrev pub EachDoesSo : Type 0
EachDoesSo =
    (log : List Call) (old : State) (entry : Entry) (reply : Reply) (new : State) → Allows log entry → Turns old entry reply new
    → AllBoth (DoesTo old entry reply new) old new
