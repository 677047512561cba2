-- A run of a script over devices, and how it ends.
use Rattle.std.specs.Prelude.{◌≡◌, ◌⊎◌, ℕ, Bool, true, false, map, List, [], ◌∷◌, ◌++◌, Option, Some, None, length}
use Rattle.std.specs.declared.vec.Vec.{Vec}
use Rattle.maple_base.specs.declared.decision.Settings.{Settings}
use Rattle.maple_io.specs.Views.{SinkView}
use Rattle.policy_lang.specs.declared.Policy.{Policy}
use Rattle.report_text.specs.declared.line.ScriptRefusal.{ScriptRefusal}
use Rattle.device_port.specs.Devices.{Meaning}
use Rattle.machine_steps.specs.Histories.{Leads, Turn}
use Rattle.machine_steps.specs.Machine.{opening}
use Rattle.script_text.specs.Lines.{ended_lines}
use Rattle.script_text.specs.Orders.{Order, orders_of, refused_from}
use Rattle.script_text.specs.Orders.Order.{Nothing}
use Rattle.sim_steps.specs.Agreeing.{AllAgree}
use Rattle.sim_steps.specs.Benches.{Bench, IsSolo, Slot, opening_bench}
use Rattle.sim_steps.specs.Deeds.{Event, Runs, turns_of}
pub use Rattle.sim_steps.specs.Ends.{AllHadMemory, IsFull, most_entries}
use Rattle.sim_steps.specs.Ends.{IsSmooth, Writes, told_by}
use Rattle.sim_steps.specs.Parts.{Follows, IsPart, IsStill}
use Rattle.sim_steps.specs.Showing.{AllKeep}
use Rattle.sim_laws.specs.Laws.{AreWorldRun}
use Rattle.sim_driver.specs.declared.drive.SimEnd.{SimEnd}
use Rattle.sim_driver.specs.declared.drive.SimEnd.TheVariants.{Done, Script, WriteFault, NoMemory, Worn}

-- what devices in a vector mean, from place 1 on
abbrev pub over : {A Alloc : Type 0} → (A → Meaning) → Vec A Alloc → List Meaning
over meaning devices = map meaning devices.items

-- what is given to a run: the policy, the settings, the devices as they are at first, and the lines of a script, of which the first has this number
pub record Given : Type 0 where
  pub policy : Policy
  pub settings : Settings
  pub devices : List Meaning
  pub lines : List (List ℕ)
  pub first : ℕ

-- the same with the bytes of the script
abbrev pub given : Policy → Settings → List Meaning → List ℕ → ℕ → Given
given policy settings devices script first =
    record { policy = policy; settings = settings; devices = devices; lines = ended_lines script; first = first }

abbrev pub opened : Given → Bench
opened g = opening_bench g.policy g.settings g.devices

-- what the script asks for, up to its end or the first refused line
abbrev pub orders : Given → List Order
orders g = orders_of (length g.devices) g.lines

-- the first line of a script that is refused, and why, where there are so many devices and the first line has this number
abbrev pub refused_line : ℕ → ℕ → List ℕ → Option (ℕ × ScriptRefusal)
refused_line places first script = refused_from places first (ended_lines script)

-- a run ends at a refused line just where it is the first
abbrev pub IsAtRefused : SimEnd → Option (ℕ × ScriptRefusal) → Type 0
IsAtRefused (Script line kind) first = first ≡ Some (line, kind)
IsAtRefused end first = Unit {0}

-- ---- what holds at every end

-- deeds were done, and led to this bench. Whatever the devices are, the machine's turns in them are a legal history, and each device agrees with the deeds;
-- where each device keeps the specification of a switch they are a run of the world, which is right
pub record IsRunOf (g : Given) (es : List Event) (b : Bench) : Type 0 where
  pub runs : Runs (opened g) es b
  pub history : Leads (opening g.policy g.settings) (turns_of es) b.machine
  pub agree : AllAgree (opened g) es b
  pub world : AllKeep g.devices → AreWorldRun g.policy g.settings g.devices es b

-- the lines of the report of the deeds
abbrev pub report : List Event → List ℕ
report es = told_by (turns_of es)

-- the devices, from place 1 on
abbrev pub devices_of : Bench → List Meaning
devices_of b = map (λ (s : Slot). s.device) b.slots

-- ---- where the script came to its end, or to a line that is refused

-- deeds follow all orders, their turns are the history, and the text is their whole report; nothing is left to do, and the devices are those of the last
-- bench
pub record IsFollowed (g : Given) (after : List Meaning) (history : List Turn) (text : List ℕ) : Type 0 where
  pub events : List Event
  pub last : Bench
  pub run : IsRunOf g events last
  pub follows : Follows (orders g) (opened g) events last
  pub history_is : history ≡ turns_of events
  pub text_is : text ≡ report events
  pub still : IsStill last
  pub devices : devices_of last ≡ after

-- ---- where a write failed, memory ran out, or the hall was worn

-- deeds follow these first orders
pub record AreDone (g : Given) (done : List Order) (es : List Event) (b : Bench) : Type 0 where
  pub run : IsRunOf g es b
  pub later : List Order
  pub orders_are : orders g ≡ done ++ later
  pub follows : Follows done (opened g) es b

-- some first orders were followed, and the text is their whole report. What was begun behind them are deeds too, and the history is that of all
pub record IsBrokenOff (g : Given) (history : List Turn) (text : List ℕ) : Type 0 where
  pub done : List Order
  pub events : List Event
  pub between : Bench
  pub are : AreDone g done events between
  pub begun : List Event
  pub last : Bench
  pub run : IsRunOf g (events ++ begun) last
  pub history_is : history ≡ turns_of (events ++ begun)
  pub text_is : text ≡ report events

-- the order of a part: one of the script's, or none behind all of them
abbrev pub of_part : Option Order → Order
of_part None = Nothing
of_part (Some order) = order

abbrev pub just : Option Order → List Order
just None = []
just (Some order) = order ∷ []

-- some first orders were followed, and the last of them or what is done behind all of them, too, and the text is their whole report, but of the last part only
-- a front; the devices are those of the last bench. Behind all orders something is done only beside workers
pub record IsUnwritten (g : Given) (after : List Meaning) (history : List Turn) (text : List ℕ) : Type 0 where
  pub ahead : List Order
  pub order : Option Order
  pub behind_all : order ≡ None → ahead ≡ orders g
  pub events : List Event
  pub between : Bench
  pub follows : Follows ahead (opened g) events between
  pub part : List Event
  pub last : Bench
  pub is_part : IsPart (of_part order) between part last
  pub are : AreDone g (ahead ++ just order) (events ++ part) last
  pub history_is : history ≡ turns_of (events ++ part)
  pub front : List ℕ
  pub rest : List ℕ
  pub report_is : report part ≡ front ++ rest
  pub text_is : text ≡ report events ++ front
  pub devices : devices_of last ≡ after
  pub beside : order ≡ None → IsSolo last.machine → ⊥

-- how a run ends that wrote this text, where the machine has this history, and so many entries were read of it; memory may run out as a report is written
abbrev pub EndsWith : SimEnd → Given → List Meaning → ℕ → List Turn → List ℕ → Type 0
EndsWith Done g after number history text = IsFollowed g after history text
EndsWith (Script line kind) g after number history text = IsFollowed g after history text
EndsWith WriteFault g after number history text = IsUnwritten g after history text
EndsWith NoMemory g after number history text = IsBrokenOff g history text ⊎ IsUnwritten g after history text
EndsWith Worn g after number history text = IsBrokenOff g history text × IsFull number

-- the same with what was written
abbrev pub EndsOver : SimEnd → Given → List Meaning → ℕ → List Turn → SinkView → SinkView → Type 0
EndsOver end g after number history old new = Writes (λ (text : List ℕ). EndsWith end g after number history text) old new

-- the script came to its end, or to a line that is refused
abbrev pub is_whole : SimEnd → Bool
is_whole Done = true
is_whole (Script line kind) = true
is_whole end = false

-- how a run ends that wrote this text, where the machine has this history in the end
pub record EndsBy (end : SimEnd) (g : Given) (after : List Meaning) (history : List Turn) (text : List ℕ) : Type 0 where
  pub ends : EndsWith end g after (length history) history text
  pub smooth : IsSmooth (is_whole end) history

-- where it has some history
abbrev pub HasEnded : SimEnd → Given → List Meaning → List ℕ → Type 0
HasEnded end g after text = (history : List Turn) × EndsBy end g after history text

-- how a run ends
abbrev pub Ends : SimEnd → Given → List Meaning → SinkView → SinkView → Type 0
Ends end g after old new = Writes (λ (text : List ℕ). HasEnded end g after text) old new

-- how a run ends of this policy, these settings, devices and script, whose first line has this number
abbrev pub EndsRun : SimEnd → Policy → Settings → List Meaning → List ℕ → ℕ → List Meaning → SinkView → SinkView → Type 0
EndsRun end policy settings devices script first after old new = Ends end (given policy settings devices script first) after old new
