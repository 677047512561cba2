-- What each step of the machine keeps.
use Rattle.std.specs.Prelude.{◌≡◌}
use Rattle.maple_base.specs.declared.decision.Settings.{Settings}
use Rattle.policy_lang.specs.declared.Policy.{Policy}
use Rattle.trace_record.specs.Runs.{Recorded, IsRun}
use Rattle.machine_steps.specs.declared.entry.Entry.{Entry}
use Rattle.machine_steps.specs.declared.reply.Reply.{Reply}
use Rattle.machine_steps.specs.Machine.{State, opening, policy_number}
use Rattle.machine_steps.specs.Steps.{Steps}
use Rattle.machine_steps.specs.Admitting.{Admits, IsOfHistory}
use Rattle.machine_steps.specs.Sound.{AreInRange, IsSound}

-- the opening state is sound
abbrev pub OpensSound : Type 0
OpensSound = (policy : Policy) (settings : Settings) → AreInRange settings → IsSound (opening policy settings)

-- and each step within its condition keeps that
abbrev pub KeepsSound : Type 0
KeepsSound = (old : State) (entry : Entry) (reply : Reply) (new : State) → IsSound old → Admits old entry → Steps old entry reply new → IsSound new

-- a run of the history's stays one, whatever comes
abbrev pub RunsStay : Type 0
RunsStay = (old : State) (entry : Entry) (reply : Reply) (new : State) (run : Recorded) → Steps old entry reply new → IsOfHistory run old → IsOfHistory run new

-- a run of the policy in force, with its number, within the machine's budget is one
abbrev pub LentRuns : Type 0
LentRuns = (m : State) (run : Recorded) → IsRun run → run.budget ≡ m.settings.budget → run.number ≡ policy_number m → run.policy ≡ m.policy → IsOfHistory run m
