-- What becomes of the sessions behind an update.
use Rattle.std.specs.Prelude.{◌≡◌, List, map, None}
use Rattle.std.specs.List.{AllByRecursion}
use Rattle.switch_traces.specs.Traces.{Learnings}
use Rattle.machine_parts.specs.declared.connection.Connection.{Connection}
use Rattle.machine_parts.specs.Sessions.{due_all, session_of}
use Rattle.machine_steps.specs.Steps.{AimsAll}

-- they do what these traces that are left ask, no aim is under way, and as many lines are due
pub record AreLed (left : List Learnings) (cs ds : List Connection) : Type 0 where
  pub aims : AimsAll left (map session_of cs) (map session_of ds)
  pub idle : AllByRecursion (λ (d : Connection). d.aim ≡ None) ds
  pub due : due_all (map session_of ds) ≡ due_all (map session_of cs)
