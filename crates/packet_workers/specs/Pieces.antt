-- Parts of a round, for private contracts.
use Rattle.std.specs.Prelude.{◌≡◌, ◌⊎◌, ℕ, suc, ◌^◌, ◌+◌, ◌<◌, ◌≤◌, List, [], ◌∷◌, ◌++◌, false, Some, None}
use Rattle.atomic_table.specs.Seated.{TableId}
use Rattle.history_lock.specs.declared.pass.Token.{Token}
use Rattle.history_lock.specs.Passes.{hall, known, number}
use Rattle.maple_base.specs.declared.cells.Cell.{Cell}
use Rattle.maple_base.specs.declared.cells.Value.{Value}
use Rattle.policy_lang.specs.declared.Policy.{Policy}
use Rattle.trace_record.specs.Runs.{Recorded}
use Rattle.trace_record.specs.declared.recording.RecordError.{RecordError}
use Rattle.trace_record.specs.declared.recording.RecordError.TheVariants as errors
use Rattle.machine_steps.specs.declared.entry.Entry.{Entry}
use Rattle.machine_steps.specs.declared.entry.Entry.TheVariants as entries
use Rattle.machine_steps.specs.declared.reply.Differs.{Differs}
use Rattle.machine_steps.specs.declared.reply.Reply.{Reply}
use Rattle.machine_steps.specs.declared.reply.Reply.TheVariants as replies
use Rattle.machine_steps.specs.Sound.{AreInRange}
use Rattle.machine_steps.specs.Machine.{State}
use Rattle.machine_steps.specs.Waiting.{Waiting}
use Rattle.machine_sharing.specs.Longer.{Lends}
use Rattle.machine_sharing.specs.Sharing.{Call, stale_count}
use Rattle.packet_workers.specs.declared.worked.Worked.{Worked}
use Rattle.packet_workers.specs.declared.worked.Worked.TheVariants.{Worn, NoMemory}
use Rattle.packet_workers.specs.Adding.{PassView, Adds}
use Rattle.packet_workers.specs.Rounds.{Told, IsAmong, IsBroken, IsLast, IsReadOf, IsRunOf, IsWornBy, Reads, Rounds}

-- ---- the ends of a call

-- the hall is worn, and no call was made
pub record IsRefused (old new : PassView) (worked : Worked) : Type 0 where
  pub adds : Adds old [] new
  pub worn : worked ≡ Worn
  pub full : 2 ^ 62 ≤ new.number

-- one call, with this entry
pub record Makes (entry : Entry) (old new : PassView) : Type 0 where
  pub call : Call
  pub entry_is : call.entry ≡ entry
  pub adds : Adds old (call ∷ []) new
  pub small : new.number < 2 ^ 62

-- the last one, or none since the hall is worn
pub record EndsWith (item : Waiting) (entry : Entry) (old new : PassView) (worked : Worked) : Type 0 where
  pub made : Makes entry old new
  pub last : IsLast item made.call [] worked

abbrev pub Ends : Waiting → Entry → PassView → PassView → Worked → Type 0
Ends item entry old new worked = IsRefused old new worked ⊎ EndsWith item entry old new worked

-- ---- ReadPolicy

-- it lent this policy
pub record LendsIt (number : ℕ) (policy : Policy) (old new : PassView) : Type 0 where
  pub made : Makes entries.ReadPolicy old new
  pub lends : Lends number policy made.call.reply
  pub opening : State
  pub opens : new.opening ≡ Some opening
  pub ranges : AreInRange opening.settings

-- memory ran out for it
pub record LendsNone (old new : PassView) (worked : Worked) : Type 0 where
  pub made : Makes entries.ReadPolicy old new
  pub lacks : made.call.reply ≡ replies.NoMemory
  pub answer : worked ≡ NoMemory

abbrev pub LendsNot : Worked → PassView → PassView → Type 0
LendsNot worked old new = IsRefused old new worked ⊎ LendsNone old new worked

abbrev pub IsLending : Reply → Type 0
IsLending (replies.Policy number lent) = Unit {0}
IsLending replies.NoMemory = Unit {0}
IsLending reply = ⊥

-- ---- ReadCells

-- each call read a cell
abbrev pub AreReads : List Call → Told → Type 0
AreReads [] told = told ≡ []
AreReads (e ∷ es) [] = ⊥
AreReads (e ∷ es) (cell ∷ told) = IsReadOf cell e × AreReads es told

-- since the start the pass read these cells, and made no other call
pub record HasRead (start now : PassView) : Type 0 where
  pub calls : List Call
  pub told : Told
  pub adds : Adds start calls now
  pub are : AreReads calls told

-- and was told this of one
abbrev pub HasTold : PassView → PassView → Cell → Value → Type 0
HasTold start now cell value = (h : HasRead start now) × IsAmong h.told cell value

abbrev pub IsReading : Reply → Type 0
IsReading (replies.Value value) = Unit {0}
IsReading reply = ⊥

-- what is seen of a view over a hall: of which hall its pass is, what the pass knows, and how often the view refused
pub record Viewed : Type 0 where
  pub place : TableId
  pub known : PassView
  pub refusals : ℕ

abbrev pub viewed : TableId → PassView → ℕ → Viewed
viewed place known refusals = record { place = place; known = known; refusals = refusals }

abbrev pub nothing_seen : PassView
nothing_seen = record { opening = None; seen = []; own = []; number = 0; parts = 0; leads = false }

-- this hall alone
abbrev pub IsAt : List TableId → TableId → Type 0
IsAt halls place = halls ≡ place ∷ []

-- a view refuses since the hall was worn
abbrev pub RefusesBy : ℕ → ℕ → Type 0
RefusesBy refusals number = (refusals ≡ 0 → number < 2 ^ 62) × (1 ≤ refusals → 2 ^ 62 ≤ number)

-- since the start this pass of these halls read cells, and made no other call; by now the view refused so often
abbrev pub ReadsBy : {S : Type 0} → PassView → List TableId → ℕ → Token S State Entry Reply → Type 0
ReadsBy start halls refusals p = HasRead start (known p) × RefusesBy refusals (number p) × IsAt halls (hall p)

-- ---- recording

-- a run was recorded over cells that were read for it
pub record Records (item : Waiting) (budget number : ℕ) (policy : Policy) (old new : PassView) (run : Recorded) : Type 0 where
  pub read : HasRead old new
  pub run_is : IsRunOf item budget number policy read.told run
  pub small : new.number < 2 ^ 62

-- or cells were read in vain
pub record RecordsNot (old new : PassView) (worked : Worked) : Type 0 where
  pub read : HasRead old new
  pub broken : IsBroken worked
  pub worn : IsWornBy worked new.number

-- how `work` answers where no run was recorded: a view over a hall refuses only where that is worn
abbrev pub unrecorded_by : RecordError → Worked
unrecorded_by errors.Unread = Worn
unrecorded_by errors.NoMemory = NoMemory

-- ---- Commit, and the rest of a round behind its ReadPolicy

-- a Commit that was stale
pub record IsStaleCommit (job : ℕ) (run : Recorded) (old new : PassView) : Type 0 where
  pub made : Makes (entries.Commit job run) old new
  pub differs : Differs
  pub stale : made.call.reply ≡ replies.Stale differs
  pub more : stale_count job old.seen + 1 ≤ stale_count job new.seen

-- behind its Commit's Stale: whatever comes next, the rest of the round stands ahead of it
pub record CommitsBack (item : Waiting) (budget number : ℕ) (policy : Policy) (old new : PassView) : Type 0 where
  pub calls : List Call
  pub adds : Adds old calls new
  pub leads : (n : ℕ) (rest : List Call) (worked : Worked) → Rounds item budget n rest worked
      → Reads item budget (Rounds item budget n) number policy [] (calls ++ rest) worked
  pub stale : stale_count item.job old.seen + 1 ≤ stale_count item.job new.seen

-- it ends the work
pub record CommitsLast (item : Waiting) (budget number : ℕ) (policy : Policy) (old new : PassView) (worked : Worked) : Type 0 where
  pub calls : List Call
  pub adds : Adds old calls new
  pub ends : (n : ℕ) → Reads item budget (Rounds item budget n) number policy [] calls worked
  pub worn : IsWornBy worked new.number

-- ---- a whole round

-- behind its Commit's Stale: whatever comes next, the round stands ahead of it
pub record GoesBack (item : Waiting) (budget : ℕ) (old new : PassView) : Type 0 where
  pub calls : List Call
  pub adds : Adds old calls new
  pub leads : (n : ℕ) (rest : List Call) (worked : Worked) → Rounds item budget n rest worked → Rounds item budget (suc n) (calls ++ rest) worked
  pub stale : stale_count item.job old.seen + 1 ≤ stale_count item.job new.seen

-- it ends the work
pub record EndsWork (item : Waiting) (budget : ℕ) (old new : PassView) (worked : Worked) : Type 0 where
  pub calls : List Call
  pub adds : Adds old calls new
  pub ends : (n : ℕ) → Rounds item budget (suc n) calls worked
  pub worn : IsWornBy worked new.number
