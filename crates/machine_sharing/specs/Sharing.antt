-- What threads that share the machine may do.
use Rattle.std.specs.Prelude.{ℕ, ◌+◌, ◌≤◌, ◌==◌, if◌then◌else◌, List, [], ◌∷◌}
use Rattle.history_lock.specs.declared.view.Event.{Event}
use Rattle.machine_steps.specs.declared.entry.Entry.{Entry}
use Rattle.machine_steps.specs.declared.entry.Entry.TheVariants as entries
use Rattle.machine_steps.specs.declared.reply.Reply.{Reply}
use Rattle.machine_steps.specs.declared.reply.Reply.TheVariants.{Stale}
use Rattle.machine_steps.specs.Admitting.{Admits}
use Rattle.machine_steps.specs.Machine.{State}
use Rattle.machine_steps.specs.Sound.{IsSound}
use Rattle.machine_steps.specs.Steps.{Steps}

-- an entry with its reply, and the machine behind it
abbrev pub Call : Type 0
Call = Event State Entry Reply

-- what the machine does in a shared history: it is sound, the entry is within its condition, and the machine does it so
pub record Turns (old : State) (entry : Entry) (reply : Reply) (new : State) : Type 0 where
  pub sound : IsSound old
  pub admitted : Admits old entry
  pub steps : Steps old entry reply new

-- 1 for a reply Stale to a Commit of this job
abbrev pub stale_by : ℕ → Entry → Reply → ℕ
stale_by job (entries.Commit number run) (Stale differs) = if number == job then 1 else 0
stale_by job entry reply = 0

-- how many of them stand in a history
abbrev pub stale_count : ℕ → List Call → ℕ
stale_count job [] = 0
stale_count job (e ∷ es) = stale_by job e.entry e.reply + stale_count job es

abbrev pub ThreeStale : ℕ → List Call → Type 0
ThreeStale job log = 3 ≤ stale_count job log

-- what a pass that doesn't lead may enter behind a history: it reads, counts the open jobs and commits at any moment, has a job decided behind three
-- replies Stale to it, and enters nothing else
abbrev pub Allows : List Call → Entry → Type 0
Allows log entries.ReadPolicy = Unit {0}
Allows log (entries.ReadCell cell) = Unit {0}
Allows log entries.OpenJobs = Unit {0}
Allows log (entries.Commit job run) = Unit {0}
Allows log (entries.Decide job) = ThreeStale job log
Allows log entry = ⊥
