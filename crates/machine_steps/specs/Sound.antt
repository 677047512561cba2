-- What holds of the machine behind each legal history of entries.
use Rattle.std.specs.Prelude.{◌≡◌, ◌≢◌, ℕ, ◌≤◌, ◌==◌, true, false, [], length, Some, None}
use Rattle.std.specs.FinMap as map
use Rattle.std.specs.List.{AllByRecursion, AllPairs, list_any}
use Rattle.maple_base.specs.declared.cells.Place.{Place}
use Rattle.maple_base.specs.declared.key.Key.{Key}
use Rattle.maple_base.specs.declared.decision.Outcome.TheVariants.{Decided}
use Rattle.maple_base.specs.declared.decision.Settings.{Settings}
use Rattle.maple_base.specs.Keys.{valid_key}
use Rattle.maple_base.specs.Limits.{most_budget}
use Rattle.maple_base.specs.Ports.{is_port}
use Rattle.env_cells.specs.Environment.{Environment, knows}
use Rattle.topo_paths.specs.Scenes.{cell_in}
use Rattle.policy_meaning.specs.Meaning.{meaning}
use Rattle.policy_meaning.specs.PolicyLaws.{begins_at, decides_ports}
use Rattle.policy_meaning.specs.Cells.{Gives}
use Rattle.policy_meaning.specs.QuestionLaws.{IsTrace}
use Rattle.priority_plan.specs.Rules.{level_limit, levels_of}
use Rattle.switch_session.specs.Sessions.{heading}
use Rattle.trace_tree.specs.declared.node.Trace.{Trace}
use Rattle.trace_tree.specs.Apart.{AreApart}
use Rattle.trace_tree.specs.Growth.{scratch}
use Rattle.switch_traces.specs.Traces.{Learnings}
use Rattle.switch_traces.specs.Lists.{AreRulesOf, AreFit}
use Rattle.maple_base.specs.OpenFlow.{no_buffer}
use Rattle.update_plan.specs.Batches.{no_rules}
use Rattle.machine_steps.specs.Machine.{Session, Job, State, in_force, most_sessions, most_jobs, most_sent_back, is_live, is_open, open_count, was_opened, traces_of, session_at}
use Rattle.machine_steps.specs.Steps.{switch_of}

-- the settings are in their ranges
pub record AreInRange (s : Settings) : Type 0 where
  pub some_budget : 1 ≤ s.budget
  pub budget : s.budget ≤ most_budget
  pub capacity : s.capacity ≤ 65535
  pub some_levels : 1 ≤ s.levels
  pub levels : s.levels ≤ level_limit

-- a trace of a switch keeps the law of runs, under the policy in force, and each recorded cell has its recorded value now
pub record IsCurrent (m : State) (s : ℕ) (r : Trace) : Type 0 where
  pub key : Key
  pub run : IsTrace (meaning (in_force m).body m.settings.budget s) key r.items r.cells (Decided r.decision)
  pub cells : Gives (cell_in m.scene) r.cells
  pub begins : begins_at s (Decided r.decision) ≡ true
  pub ports : decides_ports (Decided r.decision) ≡ true
  pub number : r.number ≤ m.trace_count

-- the traces of a switch are current, none clashes with another, and the switch can be led to their rules, which keep to the settings
pub record AreLearned (m : State) (l : Learnings) : Type 0 where
  pub current : AllByRecursion (IsCurrent m l.switch) l.traces
  pub apart : AreApart l.traces
  pub fit : AreFit m.settings.capacity l.traces
  pub levels : levels_of (scratch l.traces) ≤ m.settings.levels

-- a live session heads for the rules of its switch's traces, of which a quiet one has none; its switch is known, and has a list of traces
pub record HeadsRight (m : State) (s : Session) : Type 0 where
  pub rules : AreRulesOf (traces_of (switch_of s) m) (heading s)
  pub quiet : s.quiet ≡ true → traces_of (switch_of s) m ≡ []
  pub number : s.dpid ≡ Some (switch_of s)
  pub known : knows m.scene (switch_of s) ≡ true
  pub listed : list_any (λ (l : Learnings). l.switch == switch_of s) m.learned ≡ true
  pub capacity : s.capacity ≡ m.settings.capacity

-- an open session that isn't live yet was sent no rules
pub record IsEarly (m : State) (s : Session) : Type 0 where
  pub capacity : s.capacity ≡ m.settings.capacity
  pub ready : s.ready ≡ false
  pub under_way : s.under_way ≡ None
  pub quiet : s.quiet ≡ false
  pub target : s.target ≡ no_rules
  pub next : s.next ≡ None
  pub number : s.dpid ≡ None

-- what holds of each session, by how far it has come
pub record IsInOrder (m : State) (s : Session) : Type 0 where
  pub live : is_live s ≡ true → HeadsRight m s
  pub early : is_open s ≡ true → is_live s ≡ false → IsEarly m s
  pub idle : s.prepared ≡ None
  pub opened : was_opened s.connection m ≡ true

-- two sessions are of different connections, and two live ones of different switches
pub record AreOthers (s t : Session) : Type 0 where
  pub connections : s.connection ≢ t.connection
  pub switches : is_live s ≡ true → is_live t ≡ true → switch_of s ≢ switch_of t

-- an open job is of a live session, and of its switch; the packet can be sent back
pub record IsServed (m : State) (j : Job) : Type 0 where
  pub session : Session
  pub there : session_at j.connection m ≡ Some session
  pub live : is_live session ≡ true
  pub switch : j.switch ≡ switch_of session
  pub valid : valid_key j.key ≡ true
  pub number : j.number ≤ m.job_count
  pub frame : j.buffer ≡ no_buffer → length j.frame ≤ most_sent_back

-- each link begins at a port that a switch may have
abbrev pub BeginAtPorts : Environment → Type 0
BeginAtPorts e = (from : Place) → map.contains_key e.links from ≡ true → is_port from.port ≡ true

pub record IsSound (m : State) : Type 0 where
  pub ranges : AreInRange m.settings
  pub learned : AllByRecursion (AreLearned m) m.learned
  pub lists : AllPairs (λ (k l : Learnings). k.switch ≢ l.switch) m.learned
  pub switches : AllByRecursion (λ (l : Learnings). knows m.scene l.switch ≡ true) m.learned
  pub links : BeginAtPorts m.scene
  pub sessions : AllByRecursion (IsInOrder m) m.sessions
  pub others : AllPairs AreOthers m.sessions
  pub few_sessions : open_count m ≤ most_sessions
  pub jobs : AllByRecursion (IsServed m) m.jobs
  pub numbers : AllPairs (λ (i j : Job). i.number ≢ j.number) m.jobs
  pub few_jobs : length m.jobs ≤ most_jobs
