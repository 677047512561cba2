-- What holds of a machine that calls drive.
use Rattle.std.specs.Prelude.{◌≡◌, ℕ, List, Contains}
use Rattle.policy_lang.specs.declared.Policy.{Policy}
use Rattle.policy_eval.specs.Answers.{IsBudget}
use Rattle.trace_record.specs.Runs.{Recorded, IsRun}
use Rattle.machine_steps.specs.Machine.{State}
use Rattle.machine_steps.specs.Admitting.{IsOfHistory}

-- a run of this policy, which has this number, within this budget
pub record IsRunOf (policy : Policy) (number budget : ℕ) (run : Recorded) : Type 0 where
  pub law : IsRun run
  pub policy_is : run.policy ≡ policy
  pub number_is : run.number ≡ number
  pub budget_is : run.budget ≡ budget

-- each run that is kept for a job may be committed still
abbrev pub AreKept : State → List (ℕ × Recorded) → Type 0
AreKept m runs = (job : ℕ) (run : Recorded) → Contains runs (job, run) → IsOfHistory run m

-- runs are recorded within the machine's budget
pub record IsDriven (m : State) (budget : ℕ) (runs : List (ℕ × Recorded)) : Type 0 where
  pub within : m.settings.budget ≡ budget
  pub range : IsBudget budget
  pub kept : AreKept m runs
