-- What is said at the end of a run, of `sim` and of `serve`: of the machine, of its whole history, and of what was written.
use Rattle.std.specs.Prelude.{◌≡◌, ◌≢◌, ℕ, ◌^◌, ◌≤◌, Bool, true, List, [], ◌++◌}
use Rattle.std.specs.List.{AllByRecursion, flat_map}
use Rattle.maple_io.specs.Views.{NoWriteFailed, SinkView, WriteFailed, Wrote}
use Rattle.maple_base.specs.declared.decision.Settings.{Settings}
use Rattle.policy_lang.specs.declared.Policy.{Policy}
use Rattle.report_text.specs.Report.{spelled}
use Rattle.machine_steps.specs.Histories.{Leads, Turn, report_of}
use Rattle.machine_steps.specs.Machine.{State, opening}
use Rattle.machine_steps.specs.declared.reply.Reply.TheVariants.{NoMemory, Overload}
use Rattle.world_steps.specs.Worlds.{messages_for}

-- memory sufficed for each turn
abbrev pub AllHadMemory : List Turn → Type 0
AllHadMemory history = AllByRecursion (λ (t : Turn). t.reply ≢ NoMemory) history

-- no packet found too many others waiting; and of a run in which all was done that it was asked for, memory sufficed for each turn
pub record IsSmooth (whole : Bool) (history : List Turn) : Type 0 where
  pub room : AllByRecursion (λ (t : Turn). t.reply ≢ Overload) history
  pub memory : whole ≡ true → AllHadMemory history

-- the lines of its report
abbrev pub told_by : List Turn → List ℕ
told_by history = flat_map spelled (report_of history)

-- those that weren't taken yet
abbrev pub untaken : State → List ℕ
untaken m = flat_map spelled m.lines

-- its report is this, which was taken, and the lines that weren't taken yet
abbrev pub IsReportOf : List Turn → List ℕ → State → Type 0
IsReportOf history taken m = told_by history ≡ taken ++ untaken m

-- so it is of all that has turns, where these are a legal history
abbrev pub ReportIsTold : {X : Type 0} → (X → List Turn) → (X → List ℕ) → Type 0
ReportIsTold {X} turns taken =
    (x : X) (policy : Policy) (settings : Settings) (last : State) → Leads (opening policy settings) (turns x) last → IsReportOf (turns x) (taken x) last

-- a text was written of which this holds
abbrev pub Writes : (List ℕ → Type 0) → SinkView → SinkView → Type 0
Writes Is old new = (text : List ℕ) × Is text × Wrote old new text

-- a write failed just where this is so
pub record IsFaultOf (AtFault : Type 0) (old new : SinkView) : Type 0 where
  pub fault : AtFault → WriteFailed old new
  pub spared : (AtFault → ⊥) → NoWriteFailed old new

-- nothing is left to do in the machine: no packet waits for an answer, and what it has for each of these connections was taken out
pub record IsStillFor (IsOpen : ℕ → Type 0) (m : State) : Type 0 where
  pub jobs : m.jobs ≡ []
  pub taken : (c : ℕ) → IsOpen c → messages_for c m ≡ []

-- the most entries: with so many no further one is taken
abbrev pub most_entries : ℕ
most_entries = 2 ^ 62

-- so many were read that the hall has room for no more
abbrev pub IsFull : ℕ → Type 0
IsFull number = most_entries ≤ number
