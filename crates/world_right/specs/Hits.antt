-- What a stage promises of the switch's table.
use Rattle.std.specs.Prelude.{◌≡◌, ℕ, ◌≤◌, true, length, None}
use Rattle.std.specs.List.Sorted.{IsPermutation}
use Rattle.maple_base.specs.declared.key.Key.{Key}
use Rattle.maple_base.specs.declared.decision.Rule.{Rule}
use Rattle.maple_base.specs.Choice.{MayChoose}
use Rattle.maple_base.specs.Keys.{valid_key}
use Rattle.trace_tree.specs.Growth.{scratch}
use Rattle.priority_plan.specs.Rules.{rules_of}
use Rattle.machine_steps.specs.Machine.{Session, State, state_number, traces_of}
use Rattle.machine_steps.specs.Steps.{switch_of}
use Rattle.world_steps.specs.Right.{IsRightHit}
use Rattle.world_steps.specs.Since.{Marks, since_by}
use Rattle.world_steps.specs.Worlds.{Link}
use Rattle.world_stages.specs.StageLaws.{IsPlaced}

-- what a ready session's switch may choose sends to the controller, or is plain evaluation's decision in a state from since to now
abbrev pub HitsAreRight : Type 0
HitsAreRight =
    (c : ℕ) (m : State) (marks : Marks) (s : Session) (l : Link) → IsPlaced c m marks s l → s.ready ≡ true
    → (k : Key) (r : Rule) → valid_key k ≡ true → MayChoose l.switch.table k r → IsRightHit m (since_by s (state_number m) marks) l.switch.dpid k r

-- its table keeps to the capacity
abbrev pub TablesHaveRoom : Type 0
TablesHaveRoom =
    (c : ℕ) (m : State) (marks : Marks) (s : Session) (l : Link) → IsPlaced c m marks s l → s.ready ≡ true
    → length l.switch.table ≤ m.settings.capacity

-- and where no barrier is outstanding it is just the rules of its traces
abbrev pub RestIsNewest : Type 0
RestIsNewest =
    (c : ℕ) (m : State) (marks : Marks) (s : Session) (l : Link) → IsPlaced c m marks s l → s.ready ≡ true → s.under_way ≡ None
    → IsPermutation (rules_of (scratch (traces_of (switch_of s) m))) l.switch.table
