-- The live traces of a switch: what tree_prune's definition of live traces leaves of the events of a history. The events are read off what was asked and
-- answered, off the states of the network, and off the moments at which sessions became quiet; of the machine's lists of traces nothing is read.
use Rattle.std.specs.Prelude.{ℕ, ◌+◌, Bool, not, ◌&&◌, ◌==◌, if◌then◌else◌, List, [], ◌∷◌, ◌++◌, length, map, filter, find, Option, Some, None}
use Rattle.std.specs.List.{list_any}
use Rattle.std.specs.Option.{option_map}
use Rattle.maple_base.specs.declared.key.Key.{Key}
use Rattle.maple_base.specs.declared.cells.Cell.{Cell}
use Rattle.maple_base.specs.declared.cells.Value.{Value}
use Rattle.maple_base.specs.declared.items.Item.{Item}
use Rattle.maple_base.specs.declared.decision.Decision.{Decision}
use Rattle.policy_meaning.specs.Readings.{items_of, cells_of}
use Rattle.topo_paths.specs.Scenes.{cell_in}
use Rattle.report_text.specs.declared.line.Learnt.TheVariants.{Learned}
use Rattle.trace_tree.specs.declared.node.Trace.{Trace}
use Rattle.tree_prune.specs.Live.{Event, Learned as LearnedTrace, AllRetired, Reached, live as living}
use Rattle.machine_steps.specs.declared.entry.Entry.{Entry}
use Rattle.machine_steps.specs.declared.entry.Entry.TheVariants.{Commit, Decide}
use Rattle.machine_steps.specs.declared.reply.Reply.{Reply}
use Rattle.machine_steps.specs.declared.reply.Reply.TheVariants.{Answered}
use Rattle.machine_steps.specs.declared.job.Job.{Job}
use Rattle.machine_steps.specs.Machine.{Session, State, policy_number, has_switch}
use Rattle.machine_steps.specs.Steps.{asked_now}
use Rattle.machine_steps.specs.Histories.{Turn}

-- what was asked for a packet: its switch and key, the number of the policy, the items and the cells
pub record Asked : Type 0 where
  pub switch : ℕ
  pub key : Key
  pub policy : ℕ
  pub items : List Item
  pub cells : List (Cell × Value)

-- what the policy in force asks for a job's packet now
abbrev pub asked_for : State → Job → Asked
asked_for m j = record {
  switch = j.switch;
  key = j.key;
  policy = policy_number m;
  items = items_of (asked_now j m) j.key (cell_in m.scene);
  cells = cells_of (asked_now j m) j.key (cell_in m.scene);
}

-- the run that an entry brings: that of Commit, or for Decide the one of the policy in force, for its job's switch and key
abbrev pub asked_at : State → Entry → Option Asked
asked_at m (Commit number run) = Some (record { switch = run.switch; key = run.key; policy = run.number; items = run.items; cells = run.cells })
asked_at m (Decide number) = option_map (asked_for m) (find (λ (j : Job). j.number == number) m.jobs)
asked_at m entry = None

-- a trace that was learned for a switch under the policy of this number
pub record Learning : Type 0 where
  pub switch : ℕ
  pub policy : ℕ
  pub trace : Trace

abbrev pub trace_of : ℕ → Asked → Decision → Trace
trace_of n a d = record { number = n; items = a.items; cells = a.cells; decision = d }

-- what a turn puts in, where so many were learned before it: at each reply Learned one, which gets the next number
abbrev pub put_in : ℕ → Option Asked → Reply → List Learning
put_in n (Some a) (Answered d Learned) = record { switch = a.switch; policy = a.policy; trace = trace_of (n + 1) a d } ∷ []
put_in n asked reply = []

abbrev pub learned_at : ℕ → Turn → List Learning
learned_at n t = put_in n (asked_at t.before t.entry) t.reply

-- a session of this switch became quiet in the turn
abbrev pub became_quiet : State → Session → Bool
became_quiet behind s = not s.quiet && list_any (λ (t : Session). t.connection == s.connection && t.quiet) behind.sessions

abbrev pub quiets : ℕ → Turn → Bool
quiets switch t = list_any (λ (s : Session). has_switch switch s && became_quiet t.behind s) t.before.sessions

-- the state behind a turn is reached
abbrev pub reached : Turn → Event
reached t = Reached (record { policy = policy_number t.behind; has = cell_in t.behind.scene })

-- each of these learnings that is for this switch
abbrev pub learned_for : ℕ → List Learning → List Event
learned_for switch ls = map (λ (l : Learning). LearnedTrace l.policy l.trace) (filter (λ (l : Learning). l.switch == switch) ls)

-- what happens to a switch's traces in a turn, where so many were learned before it: all are retired if a session of the switch became quiet, then the state
-- behind the turn is reached, and then those are learned that the turn puts in; no trace is retired alone
abbrev pub events_at : ℕ → ℕ → Turn → List Event
events_at switch n t = (if quiets switch t then AllRetired ∷ [] else []) ++ reached t ∷ learned_for switch (learned_at n t)

-- and in these turns, one after the other
abbrev pub events : ℕ → ℕ → List Turn → List Event
events switch n [] = []
events switch n (t ∷ later) = events_at switch n t ++ events switch (n + length (learned_at n t)) later

-- the live traces of a switch behind these turns, in the order in which they were learned
abbrev pub live : List Turn → ℕ → List Trace
live ts switch = living (events switch 0 ts)

-- how many were learned
abbrev pub learned_count : ℕ → List Turn → ℕ
learned_count n [] = n
learned_count n (t ∷ later) = learned_count (n + length (learned_at n t)) later
