-- What becomes of a trace, told by the live traces.
use Rattle.std.specs.Prelude.{◌≡◌, ◌⊎◌, ◌+◌, List, [], ◌∷◌, ◌++◌, Some, Contains}
use Rattle.maple_base.specs.declared.decision.Decision.{Decision}
use Rattle.report_text.specs.declared.line.Learnt.{Learnt}
use Rattle.report_text.specs.declared.line.Learnt.TheVariants.{Learned, Known}
use Rattle.trace_tree.specs.declared.node.Trace.{Trace}
use Rattle.trace_tree.specs.Growth.{found}
use Rattle.machine_steps.specs.declared.job.Job.{Job}
use Rattle.machine_steps.specs.Machine.{Session, session_at}
use Rattle.machine_steps.specs.Steps.{learnt}
use Rattle.machine_steps.specs.Histories.{Turn}
use Rattle.machine_history.specs.Live.{Asked, asked_at, trace_of, live, learned_count}
use Rattle.machine_history.specs.Jobs.{job_of}

-- at the end of the turn a trace with this decision is found among the live ones
pub record IsFound (ts : List Turn) (t : Turn) (a : Asked) (d : Decision) : Type 0 where
  pub trace : Trace
  pub found_now : found (live (ts ++ t ∷ []) a.switch) a.key ≡ Some trace
  pub decision : trace.decision ≡ d

-- an answer is for an open job, and what was asked is of that job's switch and key. Known comes exactly where one of the live traces of the switch is found,
-- else Levels exactly where the tree with the trace needs more levels than may be, else Rows exactly where it needs more rules, else Quiet exactly where the
-- session is quiet, else Learned
pub record IsExact (ts : List Turn) (t : Turn) (d : Decision) (l : Learnt) : Type 0 where
  pub asked : Asked
  pub brought : asked_at t.before t.entry ≡ Some asked
  pub job : Job
  pub there : Contains t.before.jobs job
  pub of_job : job_of t.entry ≡ Some job.number
  pub switch : asked.switch ≡ job.switch
  pub key : asked.key ≡ job.key
  pub session : Session
  pub of_session : session_at job.connection t.before ≡ Some session
  pub exactly : l ≡ learnt t.before session.quiet (live ts asked.switch) asked.key (trace_of (learned_count 0 ts + 1) asked d)
  pub found_then : (l ≡ Learned) ⊎ (l ≡ Known) → IsFound ts t asked d
