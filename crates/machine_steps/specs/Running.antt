-- What holds of the runs that answer packets, for the machine's private contracts.
use Rattle.std.specs.Prelude.{◌≡◌, ℕ, ◌≤◌, true, [], ◌∷◌, ◌++◌, None}
use Rattle.maple_base.specs.declared.cells.Cell.{Cell}
use Rattle.maple_base.specs.declared.key.Key.{Key}
use Rattle.maple_base.specs.declared.decision.Decision.{Decision}
use Rattle.maple_base.specs.declared.decision.Outcome.TheVariants.{Decided}
use Rattle.maple_base.specs.Kinds.{of_kind}
use Rattle.policy_lang.specs.PolicyTree.{policy_tree}
use Rattle.policy_meaning.specs.Cells.{Gives}
use Rattle.policy_meaning.specs.Readings.{items_of, cells_of}
use Rattle.policy_meaning.specs.Meaning.{eval_of}
use Rattle.topo_paths.specs.Scenes.{cell_in}
use Rattle.trace_record.specs.Runs.{Recorded, IsRun}
use Rattle.trace_tree.specs.declared.node.Trace.{Trace}
use Rattle.trace_tree.specs.Growth.{found, scratch}
use Rattle.tree_prune.specs.Stale.{stale_in}
use Rattle.priority_plan.specs.Rules.{levels_of, rules_needed}
use Rattle.switch_traces.specs.Learning.{CanTake}
use Rattle.switch_traces.specs.Lists.{AreFit}
use Rattle.machine_steps.specs.Machine.{Job, State, in_force, policy_number, traces_of}
use Rattle.machine_steps.specs.Steps.{asked_now, next_trace}
use Rattle.machine_steps.specs.Admitting.{IsOfHistory}
use Rattle.machine_steps.specs.Sound.{IsSound}

-- a run of the policy in force for a key at a switch, each cell of which has its value now
pub record IsRunNow (m : State) (switch : ℕ) (key : Key) (run : Recorded) : Type 0 where
  pub law : IsRun run
  pub policy : policy_tree run.policy ≡ in_force m
  pub budget : run.budget ≡ m.settings.budget
  pub switch_is : run.switch ≡ switch
  pub key_is : run.key ≡ key
  pub cells : Gives (cell_in m.scene) run.cells

-- the traces of a switch can take this one, and where it keeps to the settings the switch can be led to their rules
pub record CanLearn (m : State) (switch : ℕ) (r : Trace) : Type 0 where
  pub takes : CanTake (traces_of switch m) r
  pub fit :
      levels_of (scratch (traces_of switch m ++ r ∷ [])) ≤ m.settings.levels → rules_needed (scratch (traces_of switch m ++ r ∷ [])) ≤ m.settings.capacity
      → AreFit m.settings.capacity (traces_of switch m ++ r ∷ [])

-- a run of the history's that has the number of the policy in force, and no cell of which has another value now, is one of now
abbrev pub CurrentRunsAreNow : Type 0
CurrentRunsAreNow =
    (m : State) (run : Recorded) → IsOfHistory run m → run.number ≡ policy_number m → stale_in (cell_in m.scene) run.cells ≡ None → IsRunNow m run.switch run.key run

-- what is asked of the policy in force now
pub record IsAsked (m : State) (j : Job) (run : Recorded) : Type 0 where
  pub items : run.items ≡ items_of (asked_now j m) j.key (cell_in m.scene)
  pub cells : run.cells ≡ cells_of (asked_now j m) j.key (cell_in m.scene)
  pub outcome : run.outcome ≡ eval_of (in_force m).body m.settings.budget (cell_in m.scene) j.switch j.key

abbrev pub RunsAreAsked : Type 0
RunsAreAsked = (m : State) (j : Job) (run : Recorded) → IsRunNow m j.switch j.key run → IsAsked m j run

-- where no trace is found for the key, one of now can be learned
abbrev pub RunsCanBeLearned : Type 0
RunsCanBeLearned =
    (m : State) (switch : ℕ) (key : Key) (run : Recorded) (d : Decision) → IsSound m → IsRunNow m switch key run → run.outcome ≡ Decided d → found (traces_of switch m) key ≡ None
    → CanLearn m switch (next_trace run.items run.cells d m)

-- each cell has a value of its kind
abbrev pub CellsAreOfKind : Type 0
CellsAreOfKind = (m : State) → IsSound m → (c : Cell) → of_kind c (cell_in m.scene c) ≡ true
