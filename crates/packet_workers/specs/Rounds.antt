-- What `work` adds to its pass, call by call, and what it answers. Each definition is a recursion on the list of its calls.
use Rattle.std.specs.Prelude.{◌≡◌, ◌⊎◌, ℕ, zero, suc, ◌^◌, ◌<◌, ◌≤◌, List, [], ◌∷◌, ◌++◌, Option, Some, None}
use Rattle.std.specs.List.{slice_get}
use Rattle.maple_base.specs.declared.cells.Cell.{Cell}
use Rattle.maple_base.specs.declared.cells.Value.{Value}
use Rattle.policy_lang.specs.declared.Policy.{Policy}
use Rattle.policy_meaning.specs.Cells.{AreGiven}
use Rattle.trace_record.specs.Runs.{Recorded, IsRun, IsOfCall}
use Rattle.machine_steps.specs.declared.entry.Entry.{Entry}
use Rattle.machine_steps.specs.declared.entry.Entry.TheVariants as entries
use Rattle.machine_steps.specs.declared.job.Job.{Job}
use Rattle.machine_steps.specs.declared.reply.Differs.{Differs}
use Rattle.machine_steps.specs.declared.reply.Reply.{Reply}
use Rattle.machine_steps.specs.declared.reply.Reply.TheVariants as replies
use Rattle.machine_steps.specs.Machine.{State}
use Rattle.machine_steps.specs.Steps.{IsJob}
use Rattle.machine_steps.specs.Waiting.{Waiting}
use Rattle.machine_sharing.specs.Longer.{Lends}
use Rattle.machine_sharing.specs.Sharing.{Call}
use Rattle.packet_workers.specs.declared.worked.Worked.{Worked}
use Rattle.packet_workers.specs.declared.worked.Worked.TheVariants.{Answered, Spent, NotOpen, Worn, NoMemory}
use Rattle.packet_workers.specs.Adding.{PassView, Adds}

-- ---- replies

-- how `work` answers a last reply; behind Stale it goes on, and other replies never come last
abbrev pub worked_by : Reply → Option Worked
worked_by (replies.Answered decision _) = Some Answered
worked_by replies.Spent = Some Spent
worked_by replies.NotOpen = Some NotOpen
worked_by replies.NoMemory = Some NoMemory
worked_by reply = None

-- want of memory or a worn hall breaks a round off
abbrev pub IsBroken : Worked → Type 0
IsBroken NoMemory = Unit {0}
IsBroken Worn = Unit {0}
IsBroken worked = ⊥

-- no open job has the packet's number, switch and key
abbrev pub HasNoJob : Waiting → State → Type 0
HasNoJob item m = (j : Job) → ¬ (IsJob item.job item.switch item.key m j)

-- so it is behind these three
abbrev pub IsClosedBy : Worked → Waiting → State → Type 0
IsClosedBy Answered item m = HasNoJob item m
IsClosedBy Spent item m = HasNoJob item m
IsClosedBy NotOpen item m = HasNoJob item m
IsClosedBy worked item m = Unit {0}

-- ---- cells

-- cells, with what ReadCells replied
abbrev pub Told : Type 0
Told = List (Cell × Value)

-- the call is a ReadCell of this cell, and told this of it
pub record IsReadOf (cell : Cell × Value) (e : Call) : Type 0 where
  pub entry : e.entry ≡ entries.ReadCell cell.0
  pub reply : e.reply ≡ replies.Value cell.1

-- the cell was told with this value
abbrev pub IsAmong : Told → Cell → Value → Type 0
IsAmong told cell value = (p : ℕ) × (slice_get told p ≡ Some (cell, value))

-- ---- rounds

-- it was the last call, and `work` answers its reply
pub record IsLast (item : Waiting) (e : Call) (rest : List Call) (worked : Worked) : Type 0 where
  pub no_more : rest ≡ []
  pub answers : worked_by e.reply ≡ Some worked
  pub closed : IsClosedBy worked item e.behind

module _ (item : Waiting) (budget : ℕ) where
  -- such a run as `record` gives for the packet's switch and key, with this policy and its number; each of its cells has a value that was told in this round
  pub record IsRunOf (number : ℕ) (policy : Policy) (told : Told) (run : Recorded) : Type 0 where
    pub law : IsRun run
    pub call : IsOfCall policy number budget item.switch item.key run
    pub cells : AreGiven (IsAmong told) run.cells

  -- the Commit of the job with such a run
  pub record Commits (number : ℕ) (policy : Policy) (told : Told) (entry : Entry) : Type 0 where
    pub run : Recorded
    pub entry_is : entry ≡ entries.Commit item.job run
    pub run_is : IsRunOf number policy told run

  -- behind a Commit: after Stale comes what is next, and any other reply is the last
  abbrev pub Behind : (List Call → Worked → Type 0) → Call → List Call → Worked → Type 0
  Behind next e rest worked = ((d : Differs) × (e.reply ≡ replies.Stale d) × next rest worked) ⊎ IsLast item e rest worked

  -- the rest of a round, behind what was told in it so far: ReadCells, and then the Commit, unless the round is broken off
  abbrev pub Reads : (List Call → Worked → Type 0) → ℕ → Policy → Told → List Call → Worked → Type 0
  Reads next number policy told [] worked = IsBroken worked
  Reads next number policy told (e ∷ rest) worked =
      ((cell : Cell × Value) × IsReadOf cell e × Reads next number policy (told ++ cell ∷ []) rest worked)
      ⊎ (Commits number policy told e.entry × Behind next e rest worked)

  -- behind a ReadPolicy, of which memory may have run out
  abbrev pub Lent : (List Call → Worked → Type 0) → Call → List Call → Worked → Type 0
  Lent next e rest worked =
      ((number : ℕ) × (policy : Policy) × Lends number policy e.reply × Reads next number policy [] rest worked)
      ⊎ ((e.reply ≡ replies.NoMemory) × (rest ≡ []) × (worked ≡ NoMemory))

  -- a round, and then what is next: it begins with a ReadPolicy, unless the hall is worn
  abbrev pub Round : (List Call → Worked → Type 0) → List Call → Worked → Type 0
  Round next [] worked = worked ≡ Worn
  Round next (e ∷ rest) worked = (e.entry ≡ entries.ReadPolicy) × Lent next e rest worked

  -- the Decide of the job, which is the last call, unless the hall is worn
  abbrev pub Decision : List Call → Worked → Type 0
  Decision [] worked = worked ≡ Worn
  Decision (e ∷ rest) worked = (e.entry ≡ entries.Decide item.job) × IsLast item e rest worked

  -- so many rounds, each behind a Stale of the one before, and behind the last one's Stale the Decide
  abbrev pub Rounds : ℕ → List Call → Worked → Type 0
  Rounds zero calls worked = Decision calls worked
  Rounds (suc n) calls worked = Round (Rounds n) calls worked

-- Worn exactly where the hall refused the last call: then the pass's number is 2^62 or more
abbrev pub IsWornBy : Worked → ℕ → Type 0
IsWornBy Worn number = 2 ^ 62 ≤ number
IsWornBy worked number = number < 2 ^ 62

-- what so many rounds do to a pass
pub record Does (rounds : ℕ) (item : Waiting) (budget : ℕ) (old new : PassView) (worked : Worked) : Type 0 where
  pub calls : List Call
  pub adds : Adds old calls new
  pub are : Rounds item budget rounds calls worked
  pub worn : IsWornBy worked new.number

-- what `work` does to a pass: three rounds at most
abbrev pub Works : Waiting → ℕ → PassView → PassView → Worked → Type 0
Works item budget old new worked = Does 3 item budget old new worked

-- the hall's machine was opened with this budget
abbrev pub IsBudgetOf : ℕ → PassView → Type 0
IsBudgetOf budget k = (m : State) → k.opening ≡ Some m → m.settings.budget ≡ budget
