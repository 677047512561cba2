-- What the controller's machine knows at a moment.
use Rattle.std.specs.Prelude.{ℕ, ◌+◌, Bool, true, false, not, ◌&&◌, ◌==◌, if◌then◌else◌, map, filter, List, [], ◌∷◌, ◌++◌, length, find, Option, unwrap_or}
use Rattle.std.specs.List.{list_any, slice_get}
use Rattle.std.specs.Option.{option_map}
use Rattle.std.specs.FinSet as set
use Rattle.std.specs.Ordering.{nat_cmp}
use Rattle.maple_base.specs.declared.decision.Settings.{Settings}
use Rattle.policy_lang.specs.declared.Policy.{Policy}
use Rattle.policy_lang.specs.PolicyTree.{PolicyTree, policy_tree}
pub use Rattle.machine_steps.specs.declared.job.Job.{Job}
use Rattle.env_cells.specs.declared.updates.Update.TheVariants.{Tables}
use Rattle.env_cells.specs.Environment.{Environment, nothing_known}
use Rattle.env_cells.specs.Changes.{applied}
use Rattle.report_text.specs.declared.line.Line.{Line}
use Rattle.switch_session.specs.declared.told.Phase.{Phase}
use Rattle.switch_session.specs.declared.told.Phase.TheVariants.{Ended}
use Rattle.switch_session.specs.Calls.{is_live as is_live_phase}
use Rattle.switch_session.specs.Sessions as session
use Rattle.trace_tree.specs.declared.node.Trace.{Trace}
use Rattle.trace_tree.specs.declared.node.Leaf.{Leaf}
use Rattle.switch_traces.specs.Traces.{Learnings, those, with_those}

abbrev pub Session : Type 0
Session = session.State

-- a state: the number of the policy in force, and what was known of the network
pub record PolicyState : Type 0 where
  pub policy : ℕ
  pub scene : Environment

pub record State : Type 0 where
  pub settings : Settings
  -- the policies before the one in force; how many they are is its number
  pub earlier : List Policy
  pub policy : Policy
  -- the states before this one; how many they are is its number
  pub states : List PolicyState
  pub scene : Environment
  -- of each switch that had a live session
  pub learned : List Learnings
  -- each session that was opened, in the order of opening; one that ended goes when its last messages are taken out
  pub sessions : List Session
  -- each connection that was opened, also in vain
  pub opened : set.FinSet nat_cmp
  -- the packets that wait for an answer, and how many ever did
  pub jobs : List Job
  pub job_count : ℕ
  -- how many traces were learned
  pub trace_count : ℕ
  -- the lines of the report that were not taken yet
  pub lines : List Line

-- ahead of the first entry
abbrev pub opening : Policy → Settings → State
opening policy settings = record {
  settings = settings;
  earlier = [];
  policy = policy;
  states = [];
  scene = applied nothing_known (Tables policy.tables);
  learned = [];
  sessions = [];
  opened = set.empty;
  jobs = [];
  job_count = 0;
  trace_count = 0;
  lines = [];
}

abbrev pub in_force : State → PolicyTree
in_force m = policy_tree m.policy

abbrev pub policy_number : State → ℕ
policy_number m = length m.earlier

abbrev pub state_number : State → ℕ
state_number m = length m.states

abbrev pub this_state : State → PolicyState
this_state m = record { policy = policy_number m; scene = m.scene }

-- the policy of this number, where there was one
abbrev pub policy_at : State → ℕ → Option Policy
policy_at m n = slice_get (m.earlier ++ m.policy ∷ []) n

-- ---- limits

abbrev pub most_sessions : ℕ
most_sessions = 64

abbrev pub most_jobs : ℕ
most_jobs = 4096

-- the most bytes of a packet that is sent back whole
abbrev pub most_sent_back : ℕ
most_sent_back = 65391

-- ---- sessions, by their connections

abbrev pub has_ended : Phase → Bool
has_ended Ended = true
has_ended phase = false

abbrev pub is_live : Session → Bool
is_live s = is_live_phase s.phase

abbrev pub is_open : Session → Bool
is_open s = not (has_ended s.phase)

-- an open session of this connection
abbrev pub is_of : ℕ → Session → Bool
is_of c s = s.connection == c && is_open s

abbrev pub session_at : ℕ → State → Option Session
session_at c m = find (is_of c) m.sessions

abbrev pub was_opened : ℕ → State → Bool
was_opened c m = set.contains m.opened c

abbrev pub open_count : State → ℕ
open_count m = length (filter is_open m.sessions)

-- this one in the place of the one of its connection
abbrev pub with_session : Session → State → State
with_session s m = record m { sessions = map (λ (t : Session). if t.connection == s.connection then s else t) m.sessions }

-- the sessions but for that of this connection
abbrev pub without_session : ℕ → State → State
without_session c m = record m { sessions = filter (λ (s : Session). not (s.connection == c)) m.sessions }

-- the session has this switch
abbrev pub has_switch : ℕ → Session → Bool
has_switch switch s = unwrap_or (option_map (λ n. n == switch) s.dpid) false

-- a live session has this switch
abbrev pub is_served : ℕ → State → Bool
is_served switch m = list_any (λ s. is_live s && has_switch switch s) m.sessions

-- ---- traces, by their switches

abbrev pub traces_in : List Learnings → ℕ → List Trace
traces_in [] switch = []
traces_in (l ∷ ls) switch = if l.switch == switch then l.traces else traces_in ls switch

abbrev pub traces_of : ℕ → State → List Trace
traces_of switch m = traces_in m.learned switch

-- these in the place of a switch's traces, or behind all others
abbrev pub put_traces : ℕ → List Trace → List Learnings → List Learnings
put_traces switch traces [] = record { switch = switch; traces = traces } ∷ []
put_traces switch traces (l ∷ ls) = if l.switch == switch then record { switch = switch; traces = traces } ∷ ls else l ∷ put_traces switch traces ls

abbrev pub with_traces : ℕ → List Trace → State → State
with_traces switch traces m = record m { learned = put_traces switch traces m.learned }

abbrev pub trace_total : List Learnings → ℕ
trace_total [] = 0
trace_total (l ∷ ls) = length l.traces + trace_total ls

-- those of which p holds
abbrev pub kept_of : (Leaf → Bool) → List Learnings → List Learnings
kept_of p ls = map (λ (l : Learnings). with_those (those p l.traces) l) ls

-- ---- lines

abbrev pub tells : Line → State → State
tells line m = record m { lines = m.lines ++ line ∷ [] }

abbrev pub tells_all : List Line → State → State
tells_all lines m = record m { lines = m.lines ++ lines }
