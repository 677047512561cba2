-- The work on a packet that waits, as the desk has it done.
use Rattle.std.specs.Prelude.{◌≡◌, ◌≢◌, ℕ, ◌^◌, ◌<◌, ◌≤◌, true, false, List, ◌++◌}
use Rattle.std.specs.List.{AllByRecursion}
use Rattle.history_lock.specs.Histories.{AllAt, AreAllowed, state_behind}
use Rattle.machine_steps.specs.declared.reply.Reply.TheVariants.{NoMemory as LacksMemory, Overload}
use Rattle.machine_steps.specs.Histories.{Leads, Turn}
use Rattle.machine_steps.specs.Machine.{State}
use Rattle.machine_steps.specs.Waiting.{Waiting}
use Rattle.machine_sharing.specs.Sharing.{Call, Allows}
use Rattle.packet_workers.specs.declared.worked.Worked.{Worked}
use Rattle.packet_workers.specs.declared.worked.Worked.TheVariants.{NoMemory, Worn}
use Rattle.packet_workers.specs.Rounds.{IsClosedBy, Rounds}
use Rattle.machine_desk.specs.Desks.{DeskView, calls_of}

-- Worn where the hall has no room, which the desk remembers; and any other answer only where it had some
abbrev pub WearsBy : Worked → DeskView → DeskView → Type 0
WearsBy Worn a b = (b.worn ≡ true) × (2 ^ 62 ≤ b.number)
WearsBy worked a b = (a.worn ≡ false) × (b.worn ≡ false) × (b.number < 2 ^ 62)

-- a packet was worked by three rounds at most. These turns were made meanwhile, by the desk and by others, each allowed to who doesn't lead; these calls are
-- the desk's own among them, each at its position; who has all parts has nobody beside
pub record Works (item : Waiting) (worked : Worked) (a b : DeskView) : Type 0 where
  pub turns : List Turn
  pub past : b.past ≡ a.past ++ turns
  pub meanwhile : Leads a.now turns b.now
  pub allowed : AreAllowed Allows (calls_of a.past) (calls_of turns)
  pub calls : List Call
  pub positions : List ℕ
  pub own : b.own ≡ a.own ++ positions
  pub at : AllAt (calls_of b.past) positions calls
  pub rounds : Rounds item a.now.settings.budget 3 calls worked
  pub alone : a.footing.parts ≡ 1024 → calls_of turns ≡ calls
  pub worn : WearsBy worked a b

-- ---- the laws

-- no reply in rounds tells of too many packets that wait, and one of want of memory ends them so
pub record IsPlainCall (worked : Worked) (e : Call) : Type 0 where
  pub few : e.reply ≢ Overload
  pub memory : worked ≢ NoMemory → e.reply ≢ LacksMemory

abbrev pub RoundsArePlain : Type 0
RoundsArePlain =
    (item : Waiting) (budget n : ℕ) (calls : List Call) (worked : Worked) → Rounds item budget n calls worked → AllByRecursion (IsPlainCall worked) calls

-- behind rounds that ended with an answer, or with none since no packet waits, no open job is the packet's
abbrev pub RoundsClose : Type 0
RoundsClose =
    (item : Waiting) (budget n : ℕ) (calls : List Call) (worked : Worked) (m : State) → Rounds item budget n calls worked
    → IsClosedBy worked item (state_behind m calls)
