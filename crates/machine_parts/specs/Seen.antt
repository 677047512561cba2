-- What is seen of the machine's parts, and what they always keep ready.
use Rattle.std.specs.Prelude.{◌≡◌, ◌+◌, ◌≤◌, map, None, vec_len, vec_capacity}
use Rattle.std.specs.List.{AllByRecursion}
use Rattle.machine_parts.specs.declared.connection.Connection.{Connection}
use Rattle.machine_parts.specs.declared.parts.Past.{Past}
use Rattle.machine_parts.specs.declared.parts.Parts.TheInside.{Inside}
use Rattle.machine_parts.specs.Sessions.{session_of, due_all}
use Rattle.machine_steps.specs.Machine.{State, PolicyState}

abbrev pub seen_past : Past → PolicyState
seen_past p = record { policy = p.policy.value; scene = p.scene.value }

abbrev pub seen : Inside → State
seen a = record {
  settings = a.settings;
  earlier = map (λ s. s.value) a.earlier.items;
  policy = a.policy.value;
  states = map seen_past a.states.items;
  scene = a.scene;
  learned = a.learned.items;
  sessions = map session_of a.sessions.items;
  opened = a.opened;
  jobs = a.jobs.items;
  job_count = a.job_count;
  trace_count = a.trace_count;
  lines = a.lines.items;
}

-- between entries no aim is being made ready, and there is room for the lines that are due
pub record IsRoomy (a : Inside) : Type 0 where
  pub aims : AllByRecursion (λ (c : Connection). c.aim ≡ None) a.sessions.items
  pub room : vec_len a.lines + due_all (map session_of a.sessions.items) ≤ vec_capacity a.lines
