-- How a run ends an open job, by the places where the job, its session and the traces of its switch stand.
use Rattle.std.specs.Prelude.{◌≡◌, ◌≢◌, ℕ, ◌+◌, ◌==◌, set, List, None, Some, slice_index_or}
use Rattle.std.specs.List.{position, slice_get}
use Rattle.maple_base.specs.declared.key.Key.{Key}
use Rattle.maple_base.specs.declared.decision.Settings.{Settings}
use Rattle.report_text.specs.declared.line.Line.TheVariants as lines
use Rattle.report_text.specs.declared.line.Learnt.{Learnt}
use Rattle.report_text.specs.declared.line.Learnt.TheVariants.{Learned}
use Rattle.topo_paths.specs.Scenes.{cell_in}
use Rattle.trace_record.specs.Runs.{Recorded}
use Rattle.trace_tree.specs.declared.node.Trace.{Trace}
use Rattle.trace_tree.specs.Growth.{found}
use Rattle.tree_prune.specs.Stale.{stale_in}
use Rattle.switch_traces.specs.Traces.{Learnings}
use Rattle.machine_steps.specs.declared.job.Job.{Job}
use Rattle.machine_steps.specs.declared.reply.Differs.{Differs}
use Rattle.machine_steps.specs.declared.reply.Differs.TheVariants.{OfCell, OfPolicy}
use Rattle.machine_steps.specs.declared.reply.Reply.{Reply}
use Rattle.machine_steps.specs.declared.reply.Reply.TheVariants.{Spent}
use Rattle.machine_steps.specs.Machine.{State, is_of, policy_number, tells, traces_of}
use Rattle.machine_steps.specs.Running.{CanLearn, IsRunNow}
use Rattle.machine_steps.specs.Steps.{Answers, Concludes, IsJob, close_job}
use Rattle.machine_parts.specs.declared.connection.Connection.{Connection}
use Rattle.machine_parts.specs.Answering.{AnswersOne, CanAnswer}
use Rattle.machine_parts.specs.Sessions.{session_of}

-- the open job of a number stands at this place
pub record HasJob (number at : ℕ) (m : State) : Type 0 where
  pub job : Job
  pub there : slice_get m.jobs at ≡ Some job
  pub number_is : job.number ≡ number

-- and it is of this switch and key
pub record HasJobOf (number switch : ℕ) (key : Key) (at : ℕ) (m : State) : Type 0 where
  pub job : Job
  pub there : slice_get m.jobs at ≡ Some job
  pub is_job : IsJob number switch key m job

-- no open job is of this number, switch and key
abbrev pub HasNoJobOf : ℕ → ℕ → Key → State → Type 0
HasNoJobOf number switch key m = (j : Job) → ¬ (IsJob number switch key m j)

-- a run has the number of the policy in force, and each of its cells has the value that was recorded
abbrev pub IsFresh : Recorded → State → Type 0
IsFresh run m = (run.number ≡ policy_number m) × (stale_in (cell_in m.scene) run.cells ≡ None)

-- what isn't any more as a run recorded it
abbrev pub IsStale : Recorded → State → Differs → Type 0
IsStale run m (OfPolicy recorded current) = (recorded ≡ run.number) × (current ≡ policy_number m) × (run.number ≢ policy_number m)
IsStale run m (OfCell c recorded current) = (run.number ≡ policy_number m) × (stale_in (cell_in m.scene) run.cells ≡ Some (c, recorded, current))

-- a run in the state now is for the job at this place
pub record HasRun (at : ℕ) (run : Recorded) (m : State) : Type 0 where
  pub job : Job
  pub there : slice_get m.jobs at ≡ Some job
  pub now_is : IsRunNow m job.switch job.key run

-- the run ends that job
abbrev pub ConcludesAt : ℕ → Recorded → State → Reply → State → Type 0
ConcludesAt at run old reply new = (j : Job) → slice_get old.jobs at ≡ Some j → Concludes j run.items run.cells run.outcome old reply new

-- the policy ran out of steps for that job
abbrev pub SpendsAt : ℕ → State → Reply → State → Type 0
SpendsAt at old reply new =
    (j : Job) → slice_get old.jobs at ≡ Some j → (reply ≡ Spent) × (new ≡ tells (lines.Spent j.switch j.key.in_port) (close_job j old))

-- the trace of a run in the state now is for the job at this place
pub record HasTrace (at : ℕ) (r : Trace) (m : State) : Type 0 where
  pub job : Job
  pub there : slice_get m.jobs at ≡ Some job
  pub number : r.number ≡ m.trace_count + 1
  pub learn : found (traces_of job.switch m) job.key ≡ None → CanLearn m job.switch r

-- that job is answered
abbrev pub AnswersAt : ℕ → Trace → State → Reply → State → Type 0
AnswersAt at r old reply new = (j : Job) → slice_get old.jobs at ≡ Some j → Answers j r.items r.cells r.decision old reply new

-- how many traces were learned, where the next one would have this number
abbrev pub count_behind : Learnt → ℕ → ℕ → ℕ
count_behind Learned number count = number
count_behind other number count = count

-- ---- the lists of traces and of sessions

-- the traces of a job's switch, and the open session of its connection, stand at these places
pub record StandAt (j : Job) (ls : List Learnings) (cs : List Connection) (of at : ℕ) (l : Learnings) (c : Connection) : Type 0 where
  pub here : position (λ (k : Learnings). k.switch == j.switch) ls ≡ Some of
  pub traces : l ≡ slice_index_or ls of l
  pub there : position (λ (k : Connection). is_of j.connection (session_of k)) cs ≡ Some at
  pub connection : c ≡ slice_index_or cs at c

-- there are such, and they can answer the job
pub record CanAnswerIn (settings : Settings) (j : Job) (r : Trace) (ls : List Learnings) (cs : List Connection) : Type 0 where
  pub listed : position (λ (k : Learnings). k.switch == j.switch) ls ≢ None
  pub served : position (λ (k : Connection). is_of j.connection (session_of k)) cs ≢ None
  pub can : (of at : ℕ) (l : Learnings) (c : Connection) → StandAt j ls cs of at l c → CanAnswer settings j r l c

-- they answer it, and the others stay
pub record AnswersIn (settings : Settings) (j : Job) (r : Trace) (ls : List Learnings) (cs : List Connection) (learns : Learnt) (ls' : List Learnings) (cs' : List Connection) : Type 0 where
  pub of : ℕ
  pub at : ℕ
  pub traces : Learnings
  pub connection : Connection
  pub stand : StandAt j ls cs of at traces connection
  pub behind : Learnings
  pub turned : Connection
  pub answers : AnswersOne settings j r traces connection learns behind turned
  pub learned : ls' ≡ set ls of behind
  pub sessions : cs' ≡ set cs at turned
