-- What the machine does behind a FEATURES_REPLY, seen from the state in which the session at a place has heard its switch's number already.
use Rattle.std.specs.Prelude.{◌≡◌, ◌⊎◌, ℕ, zero, suc, true, not, ◌==◌, List, [], ◌∷◌, ◌++◌, filter, Some}
use Rattle.std.specs.List.{slice_get}
use Rattle.maple_base.specs.declared.cells.Port.{Port}
use Rattle.maple_base.specs.RuleLists.{Rules}
use Rattle.env_cells.specs.declared.updates.Update.{Update}
use Rattle.env_cells.specs.declared.updates.Update.TheVariants.{Switch}
use Rattle.env_cells.specs.Changes.{applied}
use Rattle.topo_paths.specs.Scenes.{cell_in}
use Rattle.trace_tree.specs.declared.node.Trace.{Trace}
use Rattle.tree_prune.specs.Current.{is_current}
use Rattle.switch_traces.specs.Traces.{Learnings, those}
use Rattle.report_text.specs.declared.line.Line.TheVariants as lines
use Rattle.switch_session.specs.declared.told.End.{End}
use Rattle.switch_session.specs.declared.told.Phase.TheVariants.{Second}
use Rattle.switch_session.specs.Sessions.{ended}
use Rattle.switch_session.specs.Parts.{Update as Plan, IsList}
use Rattle.switch_session.specs.Calls.{IsUpdate, CanStart}
use Rattle.machine_steps.specs.declared.reply.Reply.{Reply}
use Rattle.machine_steps.specs.declared.reply.Reply.TheVariants.{Ended}
use Rattle.machine_steps.specs.Machine.{Session, State, tells, is_open, traces_of, with_traces}
use Rattle.machine_steps.specs.declared.job.Job.{Job}
use Rattle.machine_steps.specs.Steps.{Lacks, why_of, updated, reached, Joins, HearsFeatures}
use Rattle.machine_steps.specs.Sound.{IsSound}
use Rattle.switch_session.specs.Sessions.{forgotten}

-- the element at a place is changed by f
abbrev pub change_at : {X : Type 0} → ℕ → (X → X) → List X → List X
change_at at f [] = []
change_at zero f (x ∷ xs) = f x ∷ xs
change_at (suc at) f (x ∷ xs) = x ∷ change_at at f xs

-- the session at a place is changed by f
abbrev pub changed_at : ℕ → (Session → Session) → State → State
changed_at at f m = record m { sessions = change_at at f m.sessions }

-- as it was before the session at this place heard its switch's number
abbrev pub unheard : ℕ → State → State
unheard at m = changed_at at forgotten m

-- the session at this place waits to be accepted, and has heard this number; before that the machine was sound
pub record IsJoining (at dpid : ℕ) (m : State) : Type 0 where
  pub session : Session
  pub there : slice_get m.sessions at ≡ Some session
  pub second : session.phase ≡ Second
  pub number : session.dpid ≡ Some dpid
  pub sound : IsSound (unheard at m)

-- what a FEATURES_REPLY does to the machine as it was before it
abbrev pub Joined : ℕ → ℕ → List Port → State → Reply → State → Type 0
Joined at dpid ports old reply new =
    (t : Session) → slice_get old.sessions at ≡ Some t
    → HearsFeatures t dpid ports (unheard at old) reply new ⊎ Lacks (unheard at old) reply new

-- an open session stands at this place
pub record HasOpen (at : ℕ) (m : State) : Type 0 where
  pub session : Session
  pub there : slice_get m.sessions at ≡ Some session
  pub open_now : is_open session ≡ true

-- the session at a place, which this one is, is put as ended there, its jobs are closed, and its line is told
abbrev pub closes_at : ℕ → Session → End → State → State
closes_at at s end m =
    tells (lines.Closed s.connection (why_of end)) (record (changed_at at ended m) { jobs = filter (λ (j : Job). not (j.connection == s.connection)) m.jobs })

-- the session at a place ends for this reason, and is closed
abbrev pub EndsAt : ℕ → End → State → Reply → State → Type 0
EndsAt at end old reply new =
    (t : Session) → slice_get old.sessions at ≡ Some t → (reply ≡ Ended end) × (new ≡ closes_at at t end old)

abbrev pub no_traces : ℕ → Learnings
no_traces dpid = record { switch = dpid; traces = [] }

-- the switch has a list of traces, if need be an empty one
abbrev pub with_list : ℕ → State → State
with_list dpid m = with_traces dpid (traces_of dpid m) m

-- with a new empty one behind the others
abbrev pub with_new : ℕ → State → State
with_new dpid m = record m { learned = m.learned ++ no_traces dpid ∷ [] }

-- the traces of a switch that an update leaves
abbrev pub traces_behind : Update → ℕ → State → List Trace
traces_behind u dpid m = those (is_current (cell_in (applied m.scene u))) (traces_of dpid m)

abbrev pub with_plan : Plan → Session → Session
with_plan plan s = record s { prepared = Some plan }

-- a start to these rules can be prepared for the session at this place
pub record CanPrepare (at : ℕ) (rules : Rules) (m : State) : Type 0 where
  pub session : Session
  pub there : slice_get m.sessions at ≡ Some session
  pub second : session.phase ≡ Second
  pub list : IsList session.capacity rules

-- the session at this place has a start prepared
pub record HasStart (at : ℕ) (plan : Plan) (m : State) : Type 0 where
  pub session : Session
  pub there : slice_get m.sessions at ≡ Some session
  pub can : CanStart session plan

-- a start to these rules is prepared for the session at this place
abbrev pub Prepares : ℕ → Rules → Plan → State → State → Type 0
Prepares at rules plan old new =
    (new ≡ changed_at at (with_plan plan) old) × ((t : Session) → slice_get old.sessions at ≡ Some t → IsUpdate t rules plan)

-- the session at this place is accepted behind the update of its switch
abbrev pub Enters : ℕ → ℕ → Update → State → Reply → State → Type 0
Enters at dpid u old reply new =
    (t : Session) (ports : List Port) → slice_get old.sessions at ≡ Some t → u ≡ Switch dpid ports
    → (reply ≡ reached (unheard at old) (updated u (unheard at old))) × Joins t dpid ports (unheard at old) new

-- or memory ran out, and it has forgotten its number
abbrev pub EntersOrLacks : ℕ → ℕ → Update → State → Reply → State → Type 0
EntersOrLacks at dpid u old reply new = Enters at dpid u old reply new ⊎ Lacks (unheard at old) reply new
