-- What who drives the machine knows of it, and what an entry at the desk does.
use Rattle.std.specs.Prelude.{◌≡◌, ◌≢◌, ℕ, ◌^◌, ◌<◌, ◌≤◌, Bool, true, false, List, [], ◌∷◌, ◌++◌, length, map, Some, IsTrue}
use Rattle.std.specs.List.{AllByRecursion}
use Rattle.atomic_table.specs.Seated.{TableId}
use Rattle.history_lock.specs.declared.view.Known.{Known}
use Rattle.history_lock.specs.Histories.{AllAt, AreAllowed, Replays, StartsWith, event, state_behind}
use Rattle.machine_steps.specs.declared.entry.Entry.{Entry}
use Rattle.machine_steps.specs.declared.entry.Entry.TheVariants.{NewPolicy}
use Rattle.machine_steps.specs.declared.reply.Reply.{Reply}
use Rattle.machine_steps.specs.declared.reply.Reply.TheVariants.{NoMemory, Overload}
use Rattle.machine_steps.specs.Histories.{IsTurn, Leads, Turn}
use Rattle.machine_steps.specs.Machine.{State}
use Rattle.machine_steps.specs.Sound.{IsSound}
use Rattle.machine_sharing.specs.Legal.{call_of, turn_of, turns_of}
use Rattle.machine_sharing.specs.Sharing.{Call, Allows, Turns}

-- what no entry changes: which hall it is, by which reference its pass was lent, the machine as it was when the hall was opened, the parts of the pass, and
-- the turns ahead of the last mark
pub record Footing : Type 0 where
  pub place : TableId
  pub name : ℕ
  pub start : State
  pub parts : ℕ
  pub marked : List Turn

-- what a desk keeps through a run: which hall it is, by which reference its pass was lent, the machine at first, and the parts
pub record SameHall (a b : Footing) : Type 0 where
  pub place : b.place ≡ a.place
  pub name : b.name ≡ a.name
  pub start : b.start ≡ a.start
  pub parts : b.parts ≡ a.parts

-- all turns of the machine so far as the desk knows them, and the machine behind them; the positions of its own among these turns, the number that its last
-- call read, and whether it found the hall worn
pub record DeskView : Type 0 where
  pub footing : Footing
  pub past : List Turn
  pub now : State
  pub own : List ℕ
  pub number : ℕ
  pub worn : Bool

-- by the reference of its pass, what that knows, and what it knew at the last mark
abbrev pub view_by : TableId → ℕ → Known State Entry Reply → Known State Entry Reply → State → Bool → DeskView
view_by place name k mark start worn = record {
  footing = record { place = place; name = name; start = start; parts = k.parts; marked = turns_of start mark.seen };
  past = turns_of start k.seen;
  now = state_behind start k.seen;
  own = k.own;
  number = k.number;
  worn = worn;
}

-- ---- what each desk keeps

-- a pass that leads, of a hall that was opened with this machine, has seen a legal history of it; a desk that found the hall worn has read so
pub record IsDesk (k : Known State Entry Reply) (start : State) (worn : Bool) : Type 0 where
  pub leads : IsTrue k.leads
  pub opens : k.opening ≡ Some start
  pub sound : IsSound start
  pub legal : Replays Turns start k.seen (state_behind start k.seen)
  pub full : worn ≡ true → 2 ^ 62 ≤ k.number

-- what the desk has of the machine beside its history: whether the policy in force learns where hosts are, and the most steps of a run
pub record IsTold (learning : Bool) (budget : ℕ) (now : State) : Type 0 where
  pub learning_is : learning ≡ now.policy.learning
  pub budget_is : budget ≡ now.settings.budget

-- memory sufficed for the calls at these positions of a history
pub record HadMemory (seen : List Call) (own : List ℕ) : Type 0 where
  pub calls : List Call
  pub at : AllAt seen own calls
  pub memory : AllByRecursion (λ (e : Call). e.reply ≢ NoMemory) calls

-- memory didn't run out in a call of the pass's own, unless the desk has that so
abbrev pub IsMemoryTold : Bool → Known State Entry Reply → Type 0
IsMemoryTold lacked k = lacked ≡ false → HadMemory k.seen k.own

-- no reply of these calls tells that too many packets wait
abbrev pub NoneOverflowed : List Call → Type 0
NoneOverflowed calls = AllByRecursion (λ (e : Call). e.reply ≢ Overload) calls

-- the same of turns
abbrev pub NoneOverflows : List Turn → Type 0
NoneOverflows turns = AllByRecursion (λ (t : Turn). t.reply ≢ Overload) turns

-- all of it, of what a pass knows, which has seen all that it had seen at the mark
abbrev pub IsLed : Known State Entry Reply → Known State Entry Reply → State → Bool → Bool → Bool → ℕ → Type 0
IsLed mark k start worn lacked learning budget =
    IsDesk k start worn × IsTold learning budget (state_behind start k.seen) × StartsWith k.seen mark.seen × IsMemoryTold lacked k × NoneOverflowed k.seen

-- the desk's machine is sound, and its turns are a legal history of the one that it was at first, which begins with those ahead of the mark; there was room for
-- each packet that came
pub record DeskLaw (d : DeskView) : Type 0 where
  pub sound : IsSound d.now
  pub legal : Leads d.footing.start d.past d.now
  pub begins : StartsWith d.past d.footing.marked
  pub full : d.worn ≡ true → 2 ^ 62 ≤ d.number
  pub room : NoneOverflows d.past

-- ---- an entry

abbrev pub calls_of : List Turn → List Call
calls_of turns = map call_of turns

abbrev pub turn : State → Entry → Reply → State → Turn
turn before entry reply behind = turn_of before (event entry reply behind)

-- others did what they may, and then the entry was made, once by this desk, and there was room for it; who has all parts has nobody beside
pub record Enters (a : DeskView) (entry : Entry) (reply : Reply) (b : DeskView) : Type 0 where
  pub others : List Turn
  pub allowed : AreAllowed Allows (calls_of a.past) (calls_of others)
  pub between : State
  pub meanwhile : Leads a.now others between
  pub made : IsTurn (turn between entry reply b.now)
  pub room : reply ≢ Overload
  pub past : b.past ≡ (a.past ++ others) ++ turn between entry reply b.now ∷ []
  pub own : b.own ≡ a.own ++ length (a.past ++ others) ∷ []
  pub small : b.number < 2 ^ 62
  pub alone : a.footing.parts ≡ 1024 → others ≡ []
  pub footing : b.footing ≡ a.footing
  pub worn : b.worn ≡ a.worn

-- the hall has room for no further entry; nothing was made
pub record WearsOut (a b : DeskView) : Type 0 where
  pub same : b ≡ record a { number = b.number; worn = true }
  pub full : 2 ^ 62 ≤ b.number

-- ---- learning

-- whether hosts are learned, where an entry is accepted
abbrev pub learning_behind : Entry → Bool → Bool
learning_behind (NewPolicy policy) learning = policy.learning
learning_behind entry learning = learning
