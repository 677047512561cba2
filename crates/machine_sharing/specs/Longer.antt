-- What stands in every longer history.
use Rattle.std.specs.Prelude.{◌≡◌, ℕ, List, Some}
use Rattle.std.specs.List.{slice_get}
use Rattle.policy_lang.specs.declared.Policy.{Policy}
use Rattle.trace_record.specs.Runs.{Recorded, IsRun}
use Rattle.history_lock.specs.Histories.{StartsWith, Replays}
use Rattle.machine_steps.specs.declared.entry.Entry.{Entry}
use Rattle.machine_steps.specs.declared.entry.Entry.TheVariants.{ReadPolicy}
use Rattle.machine_steps.specs.declared.reply.Reply.{Reply}
use Rattle.machine_steps.specs.declared.reply.Reply.TheVariants.{Policy as PolicyLent}
use Rattle.machine_steps.specs.Admitting.{IsOfHistory}
use Rattle.machine_steps.specs.Machine.{State, policy_at}
use Rattle.machine_sharing.specs.Sharing.{Call, Turns, ThreeStale, Allows}

-- ---- what is allowed

abbrev pub ThreeStay : Type 0
ThreeStay = (job : ℕ) (log seen : List Call) → StartsWith log seen → ThreeStale job seen → ThreeStale job log

-- what may be entered behind a history may be behind each longer one
abbrev pub AllowedStays : Type 0
AllowedStays = (entry : Entry) (log seen : List Call) → StartsWith log seen → Allows seen entry → Allows log entry

-- ---- policies

-- the reply lends this policy, with this number
abbrev pub Lends : ℕ → Policy → Reply → Type 0
Lends number policy (PolicyLent n lent) = (n ≡ number) × (lent.value ≡ policy)
Lends number policy reply = ⊥

-- ReadPolicy told in the history that this is the policy of this number
pub record IsTold (number : ℕ) (policy : Policy) (log : List Call) : Type 0 where
  pub call : Call
  pub place : ℕ
  pub there : slice_get log place ≡ Some call
  pub entry : call.entry ≡ ReadPolicy
  pub lends : Lends number policy call.reply

abbrev pub ToldStays : Type 0
ToldStays = (number : ℕ) (policy : Policy) (log seen : List Call) → StartsWith log seen → IsTold number policy seen → IsTold number policy log

-- behind every legal history the settings are the opening's
abbrev pub SettingsStay : Type 0
SettingsStay = (opening m : State) (log : List Call) → Replays Turns opening log m → m.settings ≡ opening.settings

-- and what ReadPolicy told in it is the policy of that number
abbrev pub PoliciesStay : Type 0
PoliciesStay =
    (opening m : State) (log : List Call) (number : ℕ) (policy : Policy) → Replays Turns opening log m → IsTold number policy log
    → policy_at m number ≡ Some policy

-- so a run within the opening's budget, of a policy that was told in what was seen, with its number, may be committed behind every legal history that
-- begins with that
abbrev pub RunsAreAdmitted : Type 0
RunsAreAdmitted =
    (opening m : State) (log seen : List Call) (run : Recorded) → Replays Turns opening log m → StartsWith log seen
    → IsTold run.number run.policy seen → IsRun run → run.budget ≡ opening.settings.budget → IsOfHistory run m
