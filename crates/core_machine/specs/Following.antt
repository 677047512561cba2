-- What follows behind the line of a state: nothing, the line of an overload, or a job that is opened.
use Rattle.std.specs.Prelude.{◌≡◌, ℕ, ◌+◌, List, [], ◌∷◌, ◌++◌}
use Rattle.env_cells.specs.declared.updates.Update.{Update}
use Rattle.report_text.specs.declared.line.Line.{Line}
use Rattle.report_text.specs.declared.line.Line.TheVariants as lines
use Rattle.machine_steps.specs.declared.reply.Reply.{Reply}
use Rattle.machine_steps.specs.declared.job.Job.{Job}
use Rattle.machine_steps.specs.Machine.{State, tells}
use Rattle.machine_steps.specs.Steps.{opens_job}
use Rattle.core_machine.specs.declared.next.Next.{Next}
use Rattle.core_machine.specs.declared.next.Next.TheVariants as nexts
use Rattle.core_machine.specs.Reaching.{ReachesBy}

abbrev pub lines_behind : Next → List Line → List Line
lines_behind (nexts.Overload c) ls = ls ++ lines.Overload c ∷ []
lines_behind next ls = ls

abbrev pub jobs_behind : Next → List Job → List Job
jobs_behind (nexts.Job j) js = js ++ j ∷ []
jobs_behind next js = js

abbrev pub count_behind : Next → ℕ → ℕ
count_behind (nexts.Job j) n = n + 1
count_behind next n = n

abbrev pub follows : Next → State → State
follows nexts.Nothing m = m
follows (nexts.Overload c) m = tells (lines.Overload c) m
follows (nexts.Job j) m = opens_job j m

-- how many lines and jobs that makes
abbrev pub lines_needed : Next → ℕ
lines_needed (nexts.Overload c) = 1
lines_needed next = 0

abbrev pub jobs_needed : Next → ℕ
jobs_needed (nexts.Job j) = 1
jobs_needed next = 0

-- a job that is opened has the next number
abbrev pub IsOfCount : Next → ℕ → Type 0
IsOfCount (nexts.Job j) n = j.number ≡ n + 1
IsOfCount next n = Unit {0}

abbrev pub IsNext : Next → State → Type 0
IsNext next m = IsOfCount next m.job_count

-- an accepted update makes the next state, and then this follows
pub record ReachesThen (u : Update) (next : Next) (old : State) (reply : Reply) (new : State) : Type 0 where
  pub reached : State
  pub reaches : ReachesBy u old reply reached
  pub now_is : new ≡ follows next reached
