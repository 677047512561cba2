-- Which packet an answer is for: the one that the job of its number was opened for.
use Rattle.std.specs.Prelude.{◌≡◌, ℕ, List, Option, Some, None, Contains}
use Rattle.maple_base.specs.declared.key.Key.{Key}
use Rattle.maple_base.specs.declared.decision.Outcome.{Outcome}
use Rattle.maple_base.specs.declared.decision.Outcome.TheVariants.{Decided, Spent as SpentRun}
use Rattle.topo_paths.specs.Scenes.{cell_in}
use Rattle.policy_meaning.specs.Meaning.{eval_of}
use Rattle.machine_steps.specs.declared.entry.Entry.{Entry}
use Rattle.machine_steps.specs.declared.entry.Entry.TheVariants.{Commit, Decide}
use Rattle.machine_steps.specs.declared.reply.Reply.{Reply}
use Rattle.machine_steps.specs.declared.reply.Reply.TheVariants.{Answered, Spent, Job as JobOpened}
use Rattle.machine_steps.specs.Machine.{State, in_force}
use Rattle.machine_steps.specs.Histories.{Turn}

-- the job that an entry is for
abbrev pub job_of : Entry → Option ℕ
job_of (Commit number run) = Some number
job_of (Decide number) = Some number
job_of entry = None

-- in one of these turns the job of this number was opened, for a packet of this key that came to this switch
pub record WasOpened (ts : List Turn) (number switch : ℕ) (key : Key) : Type 0 where
  pub turn : Turn
  pub among : Contains ts turn
  pub opened : turn.reply ≡ JobOpened (record { job = number; switch = switch; key = key })

-- the place of that turn among them
abbrev pub place_of : {ts : List Turn} {number switch : ℕ} {key : Key} → WasOpened ts number switch key → ℕ
place_of was = was.among.0

-- the outcome that a reply tells
abbrev pub outcome_of : Reply → Option Outcome
outcome_of (Answered d l) = Some (Decided d)
outcome_of Spent = Some SpentRun
outcome_of reply = None

-- plain evaluation of a key at a switch, in the state now
abbrev pub eval_now : State → ℕ → Key → Outcome
eval_now m switch key = eval_of (in_force m).body m.settings.budget (cell_in m.scene) switch key

-- the entry is for a job that was opened for a packet, and the outcome is plain evaluation's of that packet in the state now
pub record IsEvaluated (ts : List Turn) (t : Turn) (o : Outcome) : Type 0 where
  pub number : ℕ
  pub of_job : job_of t.entry ≡ Some number
  pub switch : ℕ
  pub key : Key
  pub opened : WasOpened ts number switch key
  pub outcome : eval_now t.behind switch key ≡ o
