-- A packet is answered at the session of its switch, and its trace is learned there.
use Rattle.std.specs.Prelude.{◌≡◌, ◌≤◌, ℕ, List, true, is_some, if◌then◌else◌, [], ◌∷◌, ◌++◌, length, None}
use Rattle.maple_base.specs.declared.decision.Settings.{Settings}
use Rattle.report_text.specs.declared.line.Learnt.{Learnt}
use Rattle.report_text.specs.declared.line.Learnt.TheVariants.{Learned, Known}
use Rattle.trace_tree.specs.declared.node.Trace.{Trace}
use Rattle.trace_tree.specs.Growth.{found, scratch}
use Rattle.priority_plan.specs.Rules.{levels_of, rules_needed}
use Rattle.maple_base.specs.OpenFlow.{no_buffer}
use Rattle.switch_session.specs.Parts.{is_nil, packet_out}
use Rattle.switch_session.specs.Sessions.{put}
use Rattle.switch_traces.specs.Traces.{Learnings, with_those}
use Rattle.switch_traces.specs.Lists.{AreFit}
use Rattle.switch_traces.specs.Learning.{CanTake, judged}
use Rattle.machine_steps.specs.declared.job.Job.{Job}
use Rattle.machine_steps.specs.Machine.{Session, is_live, most_sent_back}
use Rattle.machine_steps.specs.Steps.{HeadsFor, sends}
use Rattle.machine_parts.specs.declared.connection.Connection.{Connection}

-- what becomes of a trace
abbrev pub learnt_of : Settings → Job → Trace → Learnings → Session → Learnt
learnt_of settings j r l s = if is_some (found l.traces j.key) then Known else judged settings.levels settings.capacity s.quiet (l.traces ++ r ∷ [])

-- where it is learned it stands behind the others, and the session heads for the rules with it; else nothing more is done
abbrev pub KeepsOne : Learnt → Trace → Learnings → Session → Learnings → Session → Type 0
KeepsOne Learned r l s l' t = (l' ≡ with_those (l.traces ++ r ∷ []) l) × HeadsFor (l.traces ++ r ∷ []) s t
KeepsOne other r l s l' t = (l' ≡ l) × (t ≡ s)

-- a job's packet is sent with these actions, unless there are none
abbrev pub sent : Job → List ℕ → Session → Session
sent j actions s = if is_nil actions then s else put (packet_out j.buffer j.key.in_port actions j.frame) s

-- a session can answer a job, and learn the trace of its run
pub record CanAnswer (settings : Settings) (j : Job) (r : Trace) (l : Learnings) (c : Connection) : Type 0 where
  pub aim : c.aim ≡ None
  pub prepared : c.session.prepared ≡ None
  pub live : is_live c.session ≡ true
  pub capacity : c.session.capacity ≡ settings.capacity
  pub takes : found l.traces j.key ≡ None → CanTake l.traces r
  pub fit :
      found l.traces j.key ≡ None → levels_of (scratch (l.traces ++ r ∷ [])) ≤ settings.levels → rules_needed (scratch (l.traces ++ r ∷ [])) ≤ settings.capacity
      → AreFit settings.capacity (l.traces ++ r ∷ [])
  pub frame : j.buffer ≡ no_buffer → length j.frame ≤ most_sent_back

-- the packet goes out ahead of any batch, and then the trace is learned
pub record AnswersOne (settings : Settings) (j : Job) (r : Trace) (l : Learnings) (c : Connection) (learns : Learnt) (l' : Learnings) (c' : Connection) : Type 0 where
  pub exactly : learns ≡ learnt_of settings j r l c.session
  pub keeps : KeepsOne learns r l (sends j r.decision c.session) l' c'.session
  pub aim : c'.aim ≡ None
