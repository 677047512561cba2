-- The condition of each entry.
use Rattle.std.specs.Prelude.{◌≡◌, Some}
use Rattle.std.specs.Option.{option_map}
use Rattle.policy_lang.specs.PolicyTree.{policy_tree}
use Rattle.env_cells.specs.declared.updates.Update.{Update}
use Rattle.env_cells.specs.declared.updates.Update.TheVariants.{Host, NoHost, Link, NoLink, Set, Unset}
use Rattle.switch_session.specs.Calls.{CanBeHeard}
use Rattle.trace_record.specs.Runs.{Recorded, IsRun}
use Rattle.machine_steps.specs.declared.entry.Entry.{Entry}
use Rattle.machine_steps.specs.declared.entry.Entry.TheVariants as entries
use Rattle.machine_steps.specs.declared.entry.Input.{Input}
use Rattle.machine_steps.specs.declared.entry.Input.TheVariants.{Message as Whole, Bad}
use Rattle.machine_steps.specs.Machine.{State, policy_at}

-- an update that a script or an operator makes; those of switches and ports come from the switches, and those of tables from policies
abbrev pub IsOperators : Update → Type 0
IsOperators (Host mac place) = Unit {0}
IsOperators (NoHost mac) = Unit {0}
IsOperators (Link from to) = Unit {0}
IsOperators (NoLink from) = Unit {0}
IsOperators (Set table key value) = Unit {0}
IsOperators (Unset table key) = Unit {0}
IsOperators u = ⊥

-- a message was read from bytes
abbrev pub IsHeard : Input → Type 0
IsHeard (Whole m) = CanBeHeard m
IsHeard (Bad place bad) = Unit {0}

-- a run was recorded within the machine's budget, of the policy of its number
pub record IsOfHistory (run : Recorded) (m : State) : Type 0 where
  pub law : IsRun run
  pub budget : run.budget ≡ m.settings.budget
  pub policy : option_map policy_tree (policy_at m run.number) ≡ Some (policy_tree run.policy)

-- any other entry may come at any moment
abbrev pub Admits : State → Entry → Type 0
Admits m (entries.Heard c input) = IsHeard input
Admits m (entries.Change u) = IsOperators u
Admits m (entries.Commit job run) = IsOfHistory run m
Admits m entry = Unit {0}
